-- the header stands there, and the parts so far behind it
use Rattle.std.proofs.Common.{◌≡◌, ◌++◌, take}
use Rattle.sr_wire.specs.Parts.{body_text}
use Rattle.sr_lsp.specs.Table.{spelling}
use Rattle.sr_lsp.specs.Text.{header_text}
use Rattle.sr_lsp.proofs.writing.write_octets.Given as goal

abbrev pub invariant-loop-place : goal.invariant-loop-place
invariant-loop-place l = l.out.items ≡ header_text l.fn.lsp l.fn.octets ++ body_text spelling (take l.place l.fn.lsp.parts)
