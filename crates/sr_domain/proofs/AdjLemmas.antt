-- That no adjacency label clashes doesn't depend on the order of the links.
use Rattle.std.proofs.Common.{◌≡◌, ◌≢◌, ℕ, zero, suc, ◌+◌, ◌<◌, ◌≤◌, ◌⊎◌, inl, inr, ⊎_elim, Bool, true, false, cond, List, [], ◌∷◌, length, get_or, refl, arith, ap, sym, ◌∙◌, subst, Option, Some, None}
use Rattle.std.specs.Prelude.{Contains, count_by, ◌==◌, ◌&&◌}
use Rattle.std.specs.List.{filter_map, cons_option}
use Rattle.std.specs.List.Sorted.{IsPermutation}
use Rattle.std.proofs.lemmas.Bool.{cases_lt}
use Rattle.std.proofs.lemmas.Bool.Decides.{nat_tests}
use Rattle.std.proofs.lemmas.List.{get_or_default}
use Rattle.std.proofs.lemmas.List.Elements.{Contains-get_or}
use Rattle.std.proofs.lemmas.List.Sums.{sum_by-cons}
use Rattle.std.specs.List.{sum_by}
use Rattle.std.proofs.lemmas.List.Sorted.{IsPermutation-sym, Contains-permutation, sum_by-IsPermutation}
use Rattle.sr_model.specs.declared.label.AdjLabel.{AdjLabel}
use Rattle.sr_model.specs.Label.{Labels, label_of}
use Rattle.sr_model.specs.Rule.{NoAdjClash, adj_label_at, node_at}
use Rattle.sr_domain.proofs.MemberLemmas.{picked-from, picked-to}

-- the test of two equal labels of one node
abbrev same_adj : AdjLabel → AdjLabel → Bool
same_adj a b = (a.node == b.node) && (a.label == b.label)

abbrev no_adj : AdjLabel
no_adj = record { node = 0; label = 0 }

same_adj-true : (a b : AdjLabel) → a.node ≡ b.node → a.label ≡ b.label → same_adj a b ≡ true
same_adj-true a b e f = grind (arith, nat_tests)

same_adj-parts : (a b : AdjLabel) → same_adj a b ≡ true → (a.node ≡ b.node) × (a.label ≡ b.label)
same_adj-parts a b e = (grind (arith, nat_tests), grind (arith, nat_tests))

count-cons : {X : Type 0} (p : X → Bool) (x : X) (xs : List X) → count_by p (x ∷ xs) ≡ cond (p x) 1 0 + count_by p xs
count-cons p x xs = sum_by-cons (λ y. cond (p y) 1 0) x xs

-- one that passes
count-one : {X : Type 0} (p : X → Bool) (xs : List X) (i : ℕ) (d : X) → i < length xs → p (get_or xs i d) ≡ true → 1 ≤ count_by p xs
count-one p [] i d lt e = absurd (omega arith)
count-one p (x ∷ xs) zero d lt e = let n : count_by p (x ∷ xs) ≡ 1 + count_by p xs = count-cons p x xs ∙ ap (λ b. cond b 1 0 + count_by p xs) e in omega arith
count-one p (x ∷ xs) (suc i) d lt e =
    let rest : 1 ≤ count_by p xs = count-one p xs i d (omega arith) e in
    let n : count_by p (x ∷ xs) ≡ cond (p x) 1 0 + count_by p xs = count-cons p x xs in
    omega arith

-- two places that pass
count-two : {X : Type 0} (p : X → Bool) (xs : List X) (i j : ℕ) (d : X) → i < j → j < length xs → p (get_or xs i d) ≡ true → p (get_or xs j d) ≡ true → 2 ≤ count_by p xs
count-two p [] i j d lt within e f = absurd (omega arith)
count-two p (x ∷ xs) i zero d lt within e f = absurd (omega arith)
count-two p (x ∷ xs) zero (suc j) d lt within e f =
    let rest : 1 ≤ count_by p xs = count-one p xs j d (omega arith) f in
    let n : count_by p (x ∷ xs) ≡ 1 + count_by p xs = count-cons p x xs ∙ ap (λ b. cond b 1 0 + count_by p xs) e in
    omega arith
count-two p (x ∷ xs) (suc i) (suc j) d lt within e f =
    let rest : 2 ≤ count_by p xs = count-two p xs i j d (omega arith) (omega arith) e f in
    let n : count_by p (x ∷ xs) ≡ cond (p x) 1 0 + count_by p xs = count-cons p x xs in
    omega arith

-- the places of those that are counted
one-place : {X : Type 0} (p : X → Bool) (xs : List X) (d : X) → 1 ≤ count_by p xs → (i : ℕ) × (i < length xs) × (p (get_or xs i d) ≡ true)
one-place p [] d le = absurd (omega arith)
one-place {X} p (x ∷ xs) d le = by (λ h. one-place p xs d h) (p x) refl
  where
    by : (1 ≤ count_by p xs → (i : ℕ) × (i < length xs) × (p (get_or xs i d) ≡ true)) → (b : Bool) → p x ≡ b → (i : ℕ) × (i < length (x ∷ xs)) × (p (get_or (x ∷ xs) i d) ≡ true)
    by rest true e = (0, omega arith, e)
    by rest false e =
        let n : count_by p (x ∷ xs) ≡ 0 + count_by p xs = count-cons p x xs ∙ ap (λ b. cond b 1 0 + count_by p xs) e in
        let r = rest (omega arith) in
        let lt : r.0 < length xs = r.1 in
        (suc r.0, omega arith, r.2)

two-places : {X : Type 0} (p : X → Bool) (xs : List X) (d : X) → 2 ≤ count_by p xs → (i : ℕ) × (j : ℕ) × (i < j) × (j < length xs) × (p (get_or xs i d) ≡ true) × (p (get_or xs j d) ≡ true)
two-places p [] d le = absurd (omega arith)
two-places {X} p (x ∷ xs) d le = by (λ h. two-places p xs d h) (λ h. one-place p xs d h) (p x) refl
  where
    by : (2 ≤ count_by p xs → (i : ℕ) × (j : ℕ) × (i < j) × (j < length xs) × (p (get_or xs i d) ≡ true) × (p (get_or xs j d) ≡ true)) → (1 ≤ count_by p xs → (i : ℕ) × (i < length xs) × (p (get_or xs i d) ≡ true)) → (b : Bool) → p x ≡ b → (i : ℕ) × (j : ℕ) × (i < j) × (j < length (x ∷ xs)) × (p (get_or (x ∷ xs) i d) ≡ true) × (p (get_or (x ∷ xs) j d) ≡ true)
    by rest one true e =
        let n : count_by p (x ∷ xs) ≡ 1 + count_by p xs = count-cons p x xs ∙ ap (λ b. cond b 1 0 + count_by p xs) e in
        let r = one (omega arith) in
        let lt : r.0 < length xs = r.1 in
        (0, suc r.0, omega arith, omega arith, e, r.2)
    by rest one false e =
        let n : count_by p (x ∷ xs) ≡ 0 + count_by p xs = count-cons p x xs ∙ ap (λ b. cond b 1 0 + count_by p xs) e in
        let r = rest (omega arith) in
        let lt : r.0 < r.1 = r.2 in
        let within : r.1 < length xs = r.3 in
        (suc r.0, suc r.1, omega arith, omega arith, r.4, r.5)

-- a count over what is picked
weight : {Y : Type 0} → (Y → Bool) → Option Y → ℕ
weight p None = 0
weight p (Some y) = cond (p y) 1 0

count-picked_by : {Y : Type 0} (p : Y → Bool) (o : Option Y) (ys : List Y) → count_by p (cons_option o ys) ≡ weight p o + count_by p ys
unfolding weight
count-picked_by p None ys = omega arith
count-picked_by p (Some y) ys = count-cons p y ys

count-picked : {X Y : Type 0} (p : Y → Bool) (f : X → Option Y) (xs : List X) → count_by p (filter_map f xs) ≡ sum_by (λ x. weight p (f x)) xs
count-picked p f [] = refl
count-picked p f (x ∷ xs) = count-picked_by p (f x) (filter_map f xs) ∙ ap (λ n. weight p (f x) + n) (count-picked p f xs) ∙ sym (sum_by-cons (λ x. weight p (f x)) x xs)

-- an adjacency label that is reserved, or in its node's ranges
abbrev IsBad : List Labels → AdjLabel → Type 0
IsBad nodes a = (a.label < 16) ⊎ ((i : ℕ) × (label_of (node_at nodes a.node).srgb i ≡ Some a.label))

-- no clash, by elements and counts
record IsClear (nodes : List Labels) (adj : List AdjLabel) : Type 0 where
  good : (a : AdjLabel) → Contains adj a → IsBad nodes a → ⊥
  once : (a : AdjLabel) → 2 ≤ count_by (same_adj a) adj → ⊥

clear-from : (nodes : List Labels) (adj : List AdjLabel) → NoAdjClash nodes adj → IsClear nodes adj
clear-from nodes adj none = record {
  good = λ a c bad.
      let at : adj_label_at adj c.0 ≡ a = get_or_default adj c.0 no_adj a c.1 ∙ c.2 in
      none c.0 (record { within = c.1; clash = subst (λ (x : AdjLabel). (x.label < 16) ⊎ (((i : ℕ) × (label_of (node_at nodes x.node).srgb i ≡ Some x.label)) ⊎ ((j : ℕ) × (j < length adj) × (j ≢ c.0) × ((adj_label_at adj j).node ≡ x.node) × ((adj_label_at adj j).label ≡ x.label)))) (sym at) (⊎_elim (λ low. inl low) (λ inside. inr (inl inside)) bad) });
  once = λ a two.
      let r = two-places (same_adj a) adj no_adj two in
      let i_is = same_adj-parts a (adj_label_at adj r.0) r.4 in
      let j_is = same_adj-parts a (adj_label_at adj r.1) r.5 in
      let lt : r.0 < r.1 = r.2 in
      none r.1 (record { within = r.3; clash = inr (inr (r.0, omega arith, (λ e. absurd (omega arith)), sym i_is.0 ∙ j_is.0, sym i_is.1 ∙ j_is.1)) });
}

clear-to : (nodes : List Labels) (adj : List AdjLabel) → IsClear nodes adj → NoAdjClash nodes adj
clear-to nodes adj clear k clash =
    let x : AdjLabel = adj_label_at adj k in
    let there : Contains adj x = Contains-get_or adj k no_adj clash.within in
    ⊎_elim
    (λ (low : x.label < 16). clear.good x there (inl low))
    (λ rest. ⊎_elim
    (λ inside. clear.good x there (inr inside))
    (λ other.
    let j_same : same_adj x (adj_label_at adj other.0) ≡ true = same_adj-true x (adj_label_at adj other.0) (sym other.3) (sym other.4) in
    let k_same : same_adj x (adj_label_at adj k) ≡ true = same_adj-true x x refl refl in
    ⊎_elim
    (λ (lt : other.0 < k). clear.once x (count-two (same_adj x) adj other.0 k no_adj lt clash.within j_same k_same))
    (λ (le : k ≤ other.0). clear.once x (count-two (same_adj x) adj k other.0 no_adj (let ne : other.0 ≢ k = other.2 in omega arith) other.1 k_same j_same))
    (cases_lt other.0 k))
    rest)
    clash.clash

pub clash-moved : {X : Type 0} (nodes : List Labels) (f : X → Option AdjLabel) (xs ys : List X) → IsPermutation xs ys → NoAdjClash nodes (filter_map f xs) → NoAdjClash nodes (filter_map f ys)
clash-moved {X} nodes f xs ys moved none =
    let clear = clear-from nodes (filter_map f xs) none in
    clear-to nodes (filter_map f ys) (record {
      good = λ a c bad.
          let r = picked-from f ys a c in
          clear.good a (picked-to f xs r.0 a (Contains-permutation ys xs r.0 (IsPermutation-sym xs ys moved) r.1) r.2) bad;
      once = λ a two.
          let same : count_by (same_adj a) (filter_map f ys) ≡ count_by (same_adj a) (filter_map f xs) = count-picked (same_adj a) f ys ∙ sum_by-IsPermutation (λ x. weight (same_adj a) (f x)) xs ys moved ∙ sym (count-picked (same_adj a) f xs) in
          clear.once a (subst (λ n. 2 ≤ n) same two);
    })
