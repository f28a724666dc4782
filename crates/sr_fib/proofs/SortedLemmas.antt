-- What a search by key finds in a list whose keys rise.
use Rattle.std.proofs.Common.{◌≡◌, ◌≢◌, ℕ, ◌<◌, ◌≤◌, ⊎_elim, List, length, get_or, ap, sym, ◌∙◌, subst, arith, Ok, Err}
use Rattle.std.specs.List.Sorted.{IsPermutation, IsBinarySearchResult, IsNonDecreasingBy}
use Rattle.std.specs.Ordering.{nat_cmp, ordering_index}
use Rattle.std.proofs.lemmas.Cmp.{ranked}
use Rattle.std.proofs.lemmas.List.Sorted.{IsNonDecreasingBy-from_default, IsPermutation-sym}
use Rattle.sr_labels.proofs.Places.{apart-moved}
use Rattle.std.proofs.lemmas.Bool.{cases_eq, cases_lt, cases_order}
use Rattle.std.proofs.lemmas.Bool.Decides.{nat_tests}

module _ {X : Type 0} (key : X → ℕ) (default : X) (list : List X) (up : (i j : ℕ) → i < j → j < length list → key (get_or list i default) < key (get_or list j default)) (k : ℕ) where
  rises : (i j : ℕ) → i ≤ j → j < length list → key (get_or list i default) ≤ key (get_or list j default)
  rises i j le within =
      ⊎_elim
      (λ (same : i ≡ j). let P : ℕ → Type 0 = λ m. key (get_or list m default) ≤ key (get_or list j default) in subst P (sym same) (omega arith))
      (λ (ne : i ≢ j). let lt : key (get_or list i default) < key (get_or list j default) = up i j (omega arith) within in omega arith)
      (cases_eq i j)

  comparisons_rise : IsNonDecreasingBy (λ x. ordering_index (nat_cmp (key x) k)) list
  comparisons_rise = IsNonDecreasingBy-from_default (λ x. ordering_index (nat_cmp (key x) k)) list default (λ i j le within.
      let le' : key (get_or list i default) ≤ key (get_or list j default) = rises i j le within in
      grind (arith, nat_tests))

  -- the search ends at the key
  pub found : (at : ℕ) → IsBinarySearchResult (λ x. nat_cmp (key x) k) list (Ok at) → key (get_or list at default) ≡ k
  found at is = ranked _ k _ (sym (is default))

  -- or no key is k
  pub missed : (at : ℕ) → IsBinarySearchResult (λ x. nat_cmp (key x) k) list (Err at) → (i : ℕ) → i < length list → key (get_or list i default) ≢ k
  missed at is i within same =
      let parted = is comparisons_rise in
      ⊎_elim
      (λ (lt : i < at). let low : key (get_or list i default) < k = ranked _ k _ (sym (parted.0 i default (omega arith) lt)) in omega arith)
      (λ (ge : at ≤ i). let high : k < key (get_or list i default) = ranked _ k _ (sym (parted.1 i default ge within)) in omega arith)
      (cases_lt i at)

-- sorted, entries whose keys differ rise
pub own-rise : {X : Type 0} (key : X → ℕ) (default : X) (xs ys : List X) → ((i j : ℕ) → i < j → j < length xs → key (get_or xs i default) ≢ key (get_or xs j default)) → IsPermutation xs ys → IsNonDecreasingBy key ys → (i j : ℕ) → i < j → j < length ys → key (get_or ys i default) < key (get_or ys j default)
own-rise key default xs ys own p sorted i j lt within =
    let le : key (get_or ys i default) ≤ key (get_or ys j default) = sorted i j default (omega arith) within in
    ⊎_elim
    (λ (same : key (get_or ys i default) ≡ key (get_or ys j default)).
    let m = apart-moved default ys xs (IsPermutation-sym xs ys p) i j (λ e. omega arith) (omega arith) within in
    let e : key (get_or xs m.0 default) ≡ key (get_or xs m.1 default) = ap key m.5 ∙ same ∙ sym (ap key m.6) in
    absurd (⊎_elim
    (λ (eq : m.0 ≡ m.1). m.2 eq)
    (⊎_elim
    (λ below. own m.0 m.1 below m.4 e)
    (λ above. own m.1 m.0 above m.3 (sym e)))
    (cases_order m.0 m.1)))
    (λ (ne : key (get_or ys i default) ≢ key (get_or ys j default)). omega arith)
    (cases_eq (key (get_or ys i default)) (key (get_or ys j default)))
