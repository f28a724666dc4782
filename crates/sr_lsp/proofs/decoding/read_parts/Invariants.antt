-- the TLVs behind, and the parts that they say
use Rattle.std.proofs.Common.{length, ◌-◌}
use Rattle.sr_wire.specs.Format.{TlvSays, tlv_layout}
use Rattle.sr_wire.proofs.FormatLaws.{SaysSoFar}
use Rattle.sr_lsp.specs.Table.{rows}
use Rattle.sr_lsp.proofs.decoding.read_parts.Given as goal

abbrev pub invariant-loop-at : goal.invariant-loop-at
invariant-loop-at l = SaysSoFar (tlv_layout rows) (TlvSays rows) l.body l.at l.parts.items

abbrev pub decreases-loop-at : goal.decreases-loop-at
decreases-loop-at l = length l.body - l.at
