-- Sets of links, to which links are added.
use Rattle.std.proofs.Common.{◌≡◌, ◌≢◌, ◌↔◌, ℕ, ◌<◌, ◌⊎◌, inl, inr, ⊎_elim, Bool, true, false, List, length, set, replicate, arith, sym, ap, ◌∙◌}
use Rattle.std.proofs.lemmas.Bool.{cases_eq}
use Rattle.std.proofs.lemmas.List.{length-set, length-replicate, get_or-set_same, get_or-set_other, get_or-replicate}
use Rattle.sr_model.specs.Graph.{has}
use Rattle.sr_graph.specs.Members.{IsWidened}

-- the same links are added for another reason
pub widened-as : (before after : List Bool) (Fact Other : ℕ → Type 0) → IsWidened before Fact after → ((l : ℕ) → l < length before → Fact l ↔ Other l) → IsWidened before Other after
widened-as before after Fact Other k same = record {
  long = k.long;
  each = λ l lt. (
    λ is. ⊎_elim (λ old. inl old) (λ fact. inr ((same l lt).0 fact)) ((k.each l lt).0 is),
    λ either. (k.each l lt).1 (⊎_elim (λ old. inl old) (λ other. inr ((same l lt).1 other)) either),
  );
}

-- links are added, and then others
pub widened-then : (before after last : List Bool) (Fact Other : ℕ → Type 0) → IsWidened before Fact after → IsWidened after Other last → IsWidened before (λ l. Fact l ⊎ Other l) last
widened-then before after last Fact Other j k = record {
  long = k.long ∙ j.long;
  each = λ l lt.
      let inside : l < length after = omega (arith, j.long) in (
        λ is. ⊎_elim (λ is'. ⊎_elim (λ old. inl old) (λ fact. inr (inl fact)) ((j.each l lt).0 is')) (λ other. inr (inr other)) ((k.each l inside).0 is),
        λ either. (k.each l inside).1 (⊎_elim
            (λ old. inl ((j.each l lt).1 (inl old)))
            (λ new. ⊎_elim (λ fact. inl ((j.each l lt).1 (inr fact))) (λ other. inr other) new)
            either),
      );
}

-- one link is added
pub widened-one : (before : List Bool) (n : ℕ) → n < length before → IsWidened before (λ l. l ≡ n) (set before n true)
widened-one before n within = record {
  long = length-set before n true;
  each = λ l lt. ⊎_elim
      (λ (e : l ≡ n). (λ is. inr e, λ either. ap (has (set before n true)) e ∙ get_or-set_same before n true false within))
      (λ (ne : l ≢ n).
      let same : has (set before n true) l ≡ has before l = get_or-set_other before n l true false ne in
      (λ is. inl (sym same ∙ is), λ either. ⊎_elim (λ old. same ∙ old) (λ (e : l ≡ n). absurd (ne e)) either))
      (cases_eq l n);
}

-- what is in a set to which links were added, where it was empty
pub widened-empty : (n : ℕ) (Fact : ℕ → Type 0) (after : List Bool) → IsWidened (replicate n false) Fact after → (l : ℕ) → l < n → (has after l ≡ true) ↔ Fact l
widened-empty n Fact after k l lt =
    let inside : l < length (replicate n false) = omega (arith, length-replicate n false) in
    let out : has (replicate n false) l ≡ false = get_or-replicate n l false false lt in (
      λ is. ⊎_elim (λ old. absurd (let bad : false ≡ true = sym out ∙ old in cc)) (λ fact. fact) ((k.each l inside).0 is),
      λ fact. (k.each l inside).1 (inr fact),
    )
