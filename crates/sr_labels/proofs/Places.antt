-- Where the elements of a list stand in another order of it.
use Rattle.std.proofs.Common.{◌≡◌, ◌≢◌, ℕ, ◌<◌, ◌≤◌, ◌⊎◌, ⊎_elim, List, length, get_or, false, refl, arith, ap, sym, ◌∙◌}
use Rattle.std.specs.Ordering.{nat_cmp, ordering_then, is_lt}
use Rattle.std.specs.List.{swap}
use Rattle.std.specs.List.Sorted.{IsPermutation}
use Rattle.std.proofs.lemmas.Bool.{cases_eq}
use Rattle.std.proofs.lemmas.Bool.Decides.{nat_tests}
use Rattle.std.proofs.lemmas.List.Edits.{Swapped, swapped_from_swap, length-swap}
use Rattle.std.proofs.lemmas.List.Sorted.{IsPermutation-keeps}

-- an exchange of places a and b moves each place to one of its own
abbrev Goes : ℕ → ℕ → ℕ → ℕ → Type 0
Goes a b k m = (k ≡ a → m ≡ b) × (k ≡ b → m ≡ a) × (k ≢ a → k ≢ b → m ≡ k)

goes : {X : Type 0} (f g : ℕ → X) (a b n : ℕ) → Swapped f g a b → a < n → b < n → (k : ℕ) → k < n → (m : ℕ) × (m < n) × (g m ≡ f k) × Goes a b k m
goes f g a b n s aw bw k kw = ⊎_elim
    (λ ea. (b, bw, s.1 ∙ sym (ap f ea), ((λ _. refl), (λ eb. sym eb ∙ ea), (λ u v. absurd (u ea)))))
    (λ na. ⊎_elim
    (λ eb. (a, aw, s.0 ∙ sym (ap f eb), ((λ e. absurd (na e)), (λ _. refl), (λ u v. absurd (v eb)))))
    (λ nb. (k, kw, s.2 k na nb, ((λ e. absurd (na e)), (λ e. absurd (nb e)), (λ u v. refl))))
    (cases_eq k b))
    (cases_eq k a)

goes-apart : (a b i j s t : ℕ) → i ≢ j → Goes a b i s → Goes a b j t → s ≢ t
goes-apart a b i j s t ne p q e =
    let p0 : i ≡ a → s ≡ b = p.0 in
    let p1 : i ≡ b → s ≡ a = p.1 in
    let p2 : i ≢ a → i ≢ b → s ≡ i = p.2 in
    let q0 : j ≡ a → t ≡ b = q.0 in
    let q1 : j ≡ b → t ≡ a = q.1 in
    let q2 : j ≢ a → j ≢ b → t ≡ j = q.2 in
    grind arith

module _ {X : Type 0} (d : X) where
  -- the element stands at a place
  abbrev pub Stands : List X → X → Type 0
  Stands xs x = (k : ℕ) × (k < length xs) × (get_or xs k d ≡ x)

  -- the two elements stand at two places
  abbrev pub StandApart : List X → X → X → Type 0
  StandApart xs x y = (j : ℕ) × (k : ℕ) × (j ≢ k) × (j < length xs) × (k < length xs) × (get_or xs j d ≡ x) × (get_or xs k d ≡ y)

  pub stands-moved : (xs ys : List X) → IsPermutation xs ys → (k : ℕ) → k < length xs → Stands ys (get_or xs k d)
  stands-moved xs ys p k kw = IsPermutation-keeps xs (λ l. Stands l (get_or xs k d)) (k, kw, refl) (λ l a b aw bw h.
      let s = swapped_from_swap l (swap l a b) a b d aw bw refl in
      let u = goes (λ i. get_or l i d) (λ i. get_or (swap l a b) i d) a b (length l) s aw bw h.0 h.1 in
      let long : length (swap l a b) ≡ length l = length-swap l a b in
      (u.0, (let w : u.0 < length l = u.1 in omega arith), u.2 ∙ h.2)) ys p

  pub apart-moved : (xs ys : List X) → IsPermutation xs ys → (j k : ℕ) → j ≢ k → j < length xs → k < length xs → StandApart ys (get_or xs j d) (get_or xs k d)
  apart-moved xs ys p j k ne jw kw = IsPermutation-keeps xs (λ l. StandApart l (get_or xs j d) (get_or xs k d)) (j, k, ne, jw, kw, refl, refl) (λ l a b aw bw h.
      let s = swapped_from_swap l (swap l a b) a b d aw bw refl in
      let u = goes (λ i. get_or l i d) (λ i. get_or (swap l a b) i d) a b (length l) s aw bw h.0 h.3 in
      let v = goes (λ i. get_or l i d) (λ i. get_or (swap l a b) i d) a b (length l) s aw bw h.1 h.4 in
      let long : length (swap l a b) ≡ length l = length-swap l a b in
      (u.0, v.0, goes-apart a b h.0 h.1 u.0 v.0 h.2 u.3 v.3, (let w : u.0 < length l = u.1 in omega arith), (let w : v.0 < length l = v.1 in omega arith), u.2 ∙ h.5, v.2 ∙ h.6)) ys p

-- what an answer of two comparisons says, where it isn't `Less`
pub not_less : (x y u v : ℕ) → is_lt (ordering_then (nat_cmp x y) (nat_cmp u v)) ≡ false → (y < x) ⊎ ((y ≡ x) × (v ≤ u))
not_less x y u v e = grind (arith, nat_tests)
