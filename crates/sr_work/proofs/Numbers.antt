-- Versions whose numbers go up by one.
use Rattle.std.proofs.Common.{◌≡◌, ℕ, zero, suc, ◌+◌, ◌-◌, ◌≤◌, List, [], ◌∷◌, ◌++◌, length, slice_get, Some, sym, ap, ◌∙◌, arith}
use mathlib.Core.List.{IsPrefix}
use Rattle.sr_repair.specs.Version.{NumberedNet}
use Rattle.sr_work.specs.Watched.{AreNumberedFrom, IsNumberedNext}
use Rattle.sr_store.proofs.Fronts.{prefix-length}
use Rattle.sr_work.proofs.Lists.{last-there}

-- one more
pub numbered-more : (n : ℕ) (xs : List NumberedNet) (v : NumberedNet) → AreNumberedFrom n xs → v.number ≡ n + length xs → AreNumberedFrom n (xs ++ v ∷ [])
numbered-more n [] v h is = (omega (arith, is), tt)
numbered-more n (x ∷ xs) v h is = (h.0, numbered-more (n + 1) xs v h.1 (omega (arith, is)))

-- the number at a place
pub numbered-at : (n : ℕ) (xs : List NumberedNet) (k : ℕ) (v : NumberedNet) → AreNumberedFrom n xs → slice_get xs k ≡ Some v → v.number ≡ n + k
numbered-at n [] k v h is = absurd (cc is)
numbered-at n (x ∷ xs) zero v h is =
    let same : x ≡ v = cc is in
    let number : v.number ≡ n = ap (λ (y : NumberedNet). y.number) (sym same) ∙ h.0 in
    omega (arith, number)
numbered-at n (x ∷ xs) (suc k) v h is =
    let there = numbered-at (n + 1) xs k v h.1 is in
    omega (arith, there)

-- the next number is that behind the list
pub numbered-next : (n : ℕ) (xs : List NumberedNet) (x v : NumberedNet) → IsPrefix (x ∷ []) xs → AreNumberedFrom n xs → IsNumberedNext xs v → v.number ≡ n + length xs
numbered-next n xs x v begins h next =
    let some : 1 ≤ length xs = prefix-length (x ∷ []) xs begins in
    let last = last-there xs (omega (arith, some)) in
    let number = numbered-at n xs (length xs - 1) last.0 h last.1 in
    let above = next last.0 last.1 in
    omega (arith, some, number, above)
