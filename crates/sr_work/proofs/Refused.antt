-- Whose last turn was refused.
use Rattle.std.proofs.Common.{◌≡◌, ℕ, zero, suc, ◌≤◌, Bool, false, not, List, [], ◌∷◌, ◌++◌, length, refl, arith}
use Rattle.sr_work.specs.Reported.{is_refused}

pub refused-out : (es : List Bool) (at : ℕ) → length es ≤ at → is_refused es at ≡ false
refused-out [] at le = refl
refused-out (e ∷ es) zero le = absurd (omega arith)
refused-out (e ∷ es) (suc n) le = refused-out es n (omega arith)

pub refused-mid : (past es : List Bool) (e : Bool) (at : ℕ) → at ≡ length past → is_refused (past ++ e ∷ es) at ≡ not e
refused-mid [] es e zero is = refl
refused-mid [] es e (suc n) is = absurd (omega arith)
refused-mid (x ∷ past) es e zero is = absurd (omega arith)
refused-mid (x ∷ past) es e (suc n) is = refused-mid past es e n (omega arith)
