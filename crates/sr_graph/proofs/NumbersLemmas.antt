-- Ascending system ids, and the places of nodes among them.
use Rattle.std.proofs.Common.{◌≡◌, ◌≢◌, ℕ, zero, suc, ◌+◌, ◌<◌, ◌≤◌, ⊎_elim, Bool, true, false, List, [], ◌∷◌, ◌++◌, append_assoc, length, get_or, refl, arith, ap, sym, ◌∙◌, subst, add-one, Err}
use Rattle.std.specs.Prelude.{slice_index}
use Rattle.std.specs.declared.cmp.Ordering.{Ordering}
use Rattle.std.specs.declared.cmp.Ordering.TheVariants.{Less, Equal, Greater}
use Rattle.std.specs.Ordering.{nat_cmp, is_lt}
use Rattle.std.specs.List.Sorted.{IsStrictlyIncreasing, IsBinarySearchResult, IsPartitionedBy, IsPartitionPoint}
use Rattle.std.proofs.lemmas.Bool.{cases_eq, cases_lt}
use Rattle.std.proofs.lemmas.List.{get_or_default}
use Rattle.std.proofs.lemmas.List.Sorted.{searched}
use Rattle.sr_model.specs.declared.name.LinkKey.{LinkKey}
use Rattle.sr_model.specs.declared.link.Link.{Link}
use Rattle.sr_model.specs.Key.{KeyLt}
use Rattle.sr_model.specs.KeyOrder.{key_cmp}
use Rattle.sr_model.specs.Graph.{no_link}
use Rattle.sr_model.proofs.KeyOrderLemmas.{key_total, key_cmp-lt, key_cmp-same}
use Rattle.sr_graph.specs.Numbers.{AscendByKey}

-- each is below all later ones
pub ascending-far : (xs : List ℕ) → IsStrictlyIncreasing xs → (i j : ℕ) → i < j → j < length xs → slice_index xs i < slice_index xs j
ascending-far xs up i zero lt within = absurd (omega arith)
ascending-far xs up i (suc j) lt within = rw (← add-one j) (
    let step : slice_index xs j < slice_index xs (j + 1) = up j (omega arith) in
    ⊎_elim
    (λ (e : i ≡ j). let P : ℕ → Type 0 = λ k. slice_index xs k < slice_index xs (j + 1) in subst P (sym e) step)
    (λ (ne : i ≢ j). let before : slice_index xs i < slice_index xs j = ascending-far xs up i j (omega arith) (omega arith) in omega arith)
    (cases_eq i j))

ascending-le : (xs : List ℕ) → IsStrictlyIncreasing xs → (i j : ℕ) → i ≤ j → j < length xs → slice_index xs i ≤ slice_index xs j
ascending-le xs up i j le within =
    ⊎_elim
    (λ (e : i ≡ j). let P : ℕ → Type 0 = λ k. slice_index xs k ≤ slice_index xs j in subst P (sym e) (omega arith))
    (λ (ne : i ≢ j). let lt : slice_index xs i < slice_index xs j = ascending-far xs up i j (omega arith) within in omega arith)
    (cases_eq i j)

-- a search that found nothing
pub nowhere : (xs : List ℕ) (x i : ℕ) → IsStrictlyIncreasing xs → IsBinarySearchResult (λ y. nat_cmp y x) xs (Err i) → (v : ℕ) → v < length xs → slice_index xs v ≢ x
nowhere xs x i up is v within same =
    let r = searched xs x (Err i) is (ascending-le xs up) in
    ⊎_elim
    (λ (lt : v < i). let low : slice_index xs v < x = r.1 v lt in omega arith)
    (λ (ge : i ≤ v). let high : x < slice_index xs v = r.2 v ge within in omega arith)
    (cases_lt v i)

less-from : (r : Ordering) → is_lt r ≡ true → r ≡ Less
less-from Less e = refl
less-from Equal e = absurd (cc)
less-from Greater e = absurd (cc)

-- a test that no later link passes where an earlier one fails
abbrev pub is_below : LinkKey → Link → Bool
is_below key link = is_lt (key_cmp link.key key)

module _ (links : List Link) (key : LinkKey) (up : AscendByKey links) where
  pub partitioned : IsPartitionedBy (is_below key) links
  partitioned i j d le within below =
      ⊎_elim
      (λ (e : i ≡ j). let P : ℕ → Type 0 = λ k. is_below key (get_or links k d) ≡ true in subst P (sym e) below)
      (λ (ne : i ≢ j).
      let low : key_cmp (get_or links i d).key (get_or links j d).key ≡ Less = key_cmp-lt (get_or links i d).key (get_or links j d).key (rw (get_or_default links i d no_link (omega arith), get_or_default links j d no_link within) (up i j (omega arith) within)) in
      ap is_lt (key_total.trans (get_or links i d).key (get_or links j d).key key low (less-from _ below)))
      (cases_eq i j)

  pub only-at : (i : ℕ) → IsPartitionPoint (λ l. is_below key l ≡ true) (λ l. is_below key l ≡ false) links i → (l : ℕ) → l < length links → (get_or links l no_link).key ≡ key → l ≡ i
  only-at i parts l within same =
      ⊎_elim
      (λ (lt : l < i).
      let low : is_below key (get_or links l no_link) ≡ true = parts.0 l no_link (omega arith) lt in
      let tie : is_below key (get_or links l no_link) ≡ false = ap is_lt (key_cmp-same _ key same) in
      absurd (let bad : true ≡ false = sym low ∙ tie in cc))
      (λ (ge : i ≤ l). ⊎_elim
      (λ (e : l ≡ i). e)
      (λ (ne : l ≢ i).
      let high : is_below key (get_or links i no_link) ≡ false = parts.1 i no_link (omega arith) (omega arith) in
      let low : is_below key (get_or links i no_link) ≡ true = ap is_lt (key_cmp-lt _ key (subst (λ k. KeyLt (get_or links i no_link).key k) same (up i l (omega arith) within))) in
      absurd (let bad : true ≡ false = sym low ∙ high in cc))
      (cases_eq l i))
      (cases_lt l i)

-- what was yielded, with what is left
pub yielded-more : {X : Type 0} (all done left left' : List X) (x : X) → all ≡ done ++ left → left ≡ x ∷ left' → all ≡ (done ++ x ∷ []) ++ left'
yielded-more all done left left' x is next = is ∙ ap (λ xs. done ++ xs) next ∙ sym (append_assoc done (x ∷ []) left')
