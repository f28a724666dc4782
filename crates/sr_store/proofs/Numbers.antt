-- Numbers that rise by one.
use Rattle.std.proofs.Common.{◌≡◌, ℕ, zero, suc, ◌+◌, ◌-◌, ◌≤◌, List, [], ◌∷◌, ◌++◌, length, Some, slice_get, refl, ap, sym, ◌∙◌, subst, arith, ◌⊎◌, ⊎_elim}
use Rattle.sr_store.specs.Histories.{NumbersRise, IsNext}
use Rattle.std.proofs.lemmas.Option.{slice_get_within}
use Rattle.sr_seq.proofs.ListLemmas.{get-push}

get-before : {V : Type 0} (xs : List V) (k : ℕ) (y : V) → slice_get xs (suc k) ≡ Some y → (x : V) × (slice_get xs k ≡ Some x)
get-before [] k y e = absurd (cc e)
get-before (x ∷ xs) zero y e = (x, refl)
get-before (x ∷ xs) (suc k) y e = get-before xs k y e

module _ {V : Type 0} (number : V → ℕ) where
  pub rise-push : (vs : List V) (v : V) → NumbersRise number vs → IsNext number vs v → NumbersRise number (vs ++ v ∷ [])
  rise-push vs v rise next k before after at then =
      ⊎_elim
      (λ (old : slice_get vs (k + 1) ≡ Some after). ⊎_elim
      (λ (here : slice_get vs k ≡ Some before). rise k before after here old)
      (λ (end : (k ≡ length vs) × (v ≡ before)). let far = slice_get_within vs (k + 1) after old in absurd (omega (arith, far, end.0)))
      (get-push vs v k before at))
      (λ (new : (k + 1 ≡ length vs) × (v ≡ after)). ⊎_elim
      (λ (here : slice_get vs k ≡ Some before).
      let place : k ≡ length vs - 1 = omega (arith, new.0) in
      ap number (sym new.1) ∙ next before (subst (λ n. slice_get vs n ≡ Some before) place here))
      (λ (end : (k ≡ length vs) × (v ≡ before)). absurd (omega (arith, new.0, end.0)))
      (get-push vs v k before at))
      (get-push vs v (k + 1) after then)

  -- a number is no less than the place where it stands
  pub rise-bound : (vs : List V) → NumbersRise number vs → (k : ℕ) (v : V) → slice_get vs k ≡ Some v → k ≤ number v
  rise-bound vs rise zero v at = omega arith
  rise-bound vs rise (suc k) v at =
      let one = get-before vs k v at in
      let less = rise-bound vs rise k one.0 one.1 in
      let next : suc k ≡ k + 1 = omega arith in
      let up : number v ≡ number one.0 + 1 = rise k one.0 v one.1 (subst (λ n. slice_get vs n ≡ Some v) next at) in
      omega (arith, less, up)
