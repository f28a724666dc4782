-- the entries behind, and what they say
use Rattle.std.proofs.Common.{◌≡◌, ◌++◌, List, length, ◌-◌}
use Rattle.sr_wire.proofs.FormatLaws.{SaysSoFar}
use Rattle.sr_wire.proofs.entries.read_entries.Given as goal

abbrev pub invariant-loop-at : goal.invariant-loop-at
invariant-loop-at g l = (own : List _) × SaysSoFar g.E.Entries.layout g.E.Entries.says l.value l.at own × (l.parts.items ≡ l.fn.parts.items ++ own)

abbrev pub decreases-loop-at : goal.decreases-loop-at
decreases-loop-at g l = length l.value - l.at
