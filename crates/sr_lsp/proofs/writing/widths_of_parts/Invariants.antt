-- the numbers of the parts so far fit
use Rattle.std.proofs.Common.{All, take}
use Rattle.sr_lsp.specs.InRange.{HasPartWidths}
use Rattle.sr_lsp.proofs.writing.widths_of_parts.Given as goal

abbrev pub invariant-loop-place : goal.invariant-loop-place
invariant-loop-place l = All HasPartWidths (take l.place l.parts)
