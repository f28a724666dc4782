-- Two lists of links in strict order that contain the same are the same.
use Rattle.std.proofs.Common.{◌≡◌, ℕ, suc, ◌<◌, ⊎_elim, List, [], ◌∷◌, length, get_or, refl, arith, sym, ◌∙◌, subst}
use Rattle.std.specs.Prelude.{Contains}
use Rattle.std.specs.List.{AllByRecursion}
use Rattle.std.specs.declared.cmp.Ordering.TheVariants.{Less, Equal}
use Rattle.std.proofs.lemmas.Cmp.{tied_itself}
use Rattle.std.proofs.lemmas.List.Elements.{recursion_from_All}
use Rattle.sr_model.specs.declared.name.LinkKey.{LinkKey}
use Rattle.sr_model.specs.KeyOrder.{key_cmp}
use Rattle.sr_model.proofs.KeyOrderLemmas.{key_total}
use Rattle.sr_graph.specs.declared.draft.DraftLink.{DraftLink}
use Rattle.sr_domain.proofs.MemberLemmas.{here, later, cases, nowhere, all-of}

-- the key of each is below those of all later ones
abbrev pub Rises : List DraftLink → Type 0
Rises [] = Unit {0}
Rises (x ∷ xs) = AllByRecursion (λ (y : DraftLink). key_cmp x.key y.key ≡ Less) xs × Rises xs

pub rises-from_far : (xs : List DraftLink) → ((i j : ℕ) (d : DraftLink) → i < j → j < length xs → key_cmp (get_or xs i d).key (get_or xs j d).key ≡ Less) → Rises xs
rises-from_far [] far = tt
rises-from_far (x ∷ xs) far = (
  recursion_from_All (λ (y : DraftLink). key_cmp x.key y.key ≡ Less) xs (λ k d lt. far 0 (suc k) d (omega arith) (omega arith)),
  rises-from_far xs (λ i j d lt within. far (suc i) (suc j) d (omega arith) (omega arith)),
)

not-below_itself : (k : LinkKey) → key_cmp k k ≡ Less → ⊥
not-below_itself k e = (let bad : Less ≡ Equal = sym e ∙ tied_itself key_total k in cc)

not-both : (a b : LinkKey) → key_cmp a b ≡ Less → key_cmp b a ≡ Less → ⊥
not-both a b e f = not-below_itself a (key_total.trans a b a e f)

pub same-sorted : (xs ys : List DraftLink) → Rises xs → Rises ys → ((z : DraftLink) → Contains xs z → Contains ys z) → ((z : DraftLink) → Contains ys z → Contains xs z) → xs ≡ ys
same-sorted [] [] up vp forth back = refl
same-sorted [] (y ∷ ys) up vp forth back = absurd (nowhere y (back y (here y ys)))
same-sorted (x ∷ xs) [] up vp forth back = absurd (nowhere x (forth x (here x xs)))
same-sorted (x ∷ xs) (y ∷ ys) up vp forth back =
    let first : x ≡ y = ⊎_elim
    (λ (e : y ≡ x). sym e)
    (λ (in_ys : Contains ys x). ⊎_elim
    (λ (e : x ≡ y). e)
    (λ (in_xs : Contains xs y). absurd (not-both x.key y.key (all-of (λ (z : DraftLink). key_cmp x.key z.key ≡ Less) xs y up.0 in_xs) (all-of (λ (z : DraftLink). key_cmp y.key z.key ≡ Less) ys x vp.0 in_ys)))
    (cases x xs y (back y (here y ys))))
    (cases y ys x (forth x (here x xs))) in
    let rest : xs ≡ ys = same-sorted xs ys up.1 vp.1
    (λ z in_xs. ⊎_elim
    (λ (e : y ≡ z). absurd (not-below_itself z.key (subst (λ (w : DraftLink). key_cmp w.key z.key ≡ Less) (first ∙ e) (all-of (λ (w : DraftLink). key_cmp x.key w.key ≡ Less) xs z up.0 in_xs))))
    (λ (in_ys : Contains ys z). in_ys)
    (cases y ys z (forth z (later x xs z in_xs))))
    (λ z in_ys. ⊎_elim
    (λ (e : x ≡ z). absurd (not-below_itself z.key (subst (λ (w : DraftLink). key_cmp w.key z.key ≡ Less) (sym first ∙ e) (all-of (λ (w : DraftLink). key_cmp y.key w.key ≡ Less) ys z vp.0 in_ys))))
    (λ (in_xs : Contains xs z). in_xs)
    (cases x xs z (back z (later y ys z in_ys)))) in
    cc
