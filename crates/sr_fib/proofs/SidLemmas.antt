-- One node more whose links are listed.
use Rattle.std.proofs.Common.{◌≡◌, ◌≢◌, ℕ, ◌+◌, ⊎_elim, List, [], ◌∷◌, ◌++◌, length, arith, sym, ◌∙◌, subst}
use Rattle.std.proofs.lemmas.Bool.{cases_eq}
use Rattle.std.proofs.lemmas.List.{length_push, get_or_push, get_or_append_left}
use Rattle.sr_model.specs.Label.{Net}
use Rattle.sr_fib.specs.declared.sorted.LabelledLink.{LabelledLink}
use Rattle.sr_fib.specs.Tables.{AreAdjacencies, AreLinkLists, links_by_label_at}

pub lists-more : (n : Net) (lists : List (List LabelledLink)) (m : ℕ) (list : List LabelledLink) → AreAdjacencies n m list → AreLinkLists n lists m → AreLinkLists n (lists ++ list ∷ []) (m + 1)
lists-more n lists m list is h =
    let new : links_by_label_at (lists ++ list ∷ []) m ≡ list = get_or_push lists list [] m h.long in
    let long : length lists ≡ m = h.long in
    record {
      long = length_push lists list ∙ omega arith;
      each = λ u lt. ⊎_elim
          (λ (e : u ≡ m).
          let P : ℕ → Type 0 = λ k. AreAdjacencies n k (links_by_label_at (lists ++ list ∷ []) k) in
          let Q : List LabelledLink → Type 0 = λ k. AreAdjacencies n m k in
          subst P (sym e) (subst Q (sym new) is))
          (λ (ne : u ≢ m).
          let Q : List LabelledLink → Type 0 = λ k. AreAdjacencies n u k in
          subst Q (sym (get_or_append_left lists (list ∷ []) [] u (omega arith))) (h.each u (omega arith)))
          (cases_eq u m);
    }
