use Rattle.std.proofs.Common.{◌≡◌, ℕ, ◌<◌, get_or}
use Rattle.sr_lsp.specs.declared.table.Part.{Part}
use Rattle.sr_lsp.proofs.parts.Parts.is_same.Given as goal

abbrev pub invariant-loop-place : goal.invariant-loop-place
invariant-loop-place l = (k : ℕ) (d : Part) → k < l.place → get_or l.self k d ≡ get_or l.other k d
