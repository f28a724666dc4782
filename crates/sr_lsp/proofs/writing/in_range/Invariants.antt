-- the parts so far fit
use Rattle.std.proofs.Common.{All, take}
use Rattle.sr_lsp.specs.InRange.{FitsPart}
use Rattle.sr_lsp.proofs.writing.in_range.Given as goal

abbrev pub invariant-loop-place : goal.invariant-loop-place
invariant-loop-place l = All FitsPart (take l.place l.lsp.parts)
