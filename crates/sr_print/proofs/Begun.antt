-- How many links begin at a node: they stand together.
use Rattle.std.proofs.Common.{◌≡◌, ℕ, zero, suc, ◌+◌, ◌-◌, ◌<◌, ◌≤◌, Bool, true, false, List, length, get_or, take, ap, sym, ◌∙◌, arith, eq-eqb}
use Rattle.std.specs.Prelude.{count_by, ◌==◌}
use Rattle.std.proofs.lemmas.Bool.{eqb-true, false_from_ne_true}
use Rattle.std.proofs.lemmas.List.{take_all}
use Rattle.std.proofs.lemmas.List.Sums.{count_by_more_no, count_by_more_yes}
use Rattle.sr_model.specs.declared.link.Link.{Link}
use Rattle.sr_model.specs.Graph.{Graph, no_link, tail}
use Rattle.sr_graph.specs.Ranges.{HoldsLinks}
use Rattle.sr_print.specs.Account.{links_at}

module _ {X : Type 0} (p : X → Bool) (xs : List X) (d : X) where
  no-more : (a n : ℕ) → a + n ≤ length xs → ((k : ℕ) → a ≤ k → k < a + n → p (get_or xs k d) ≡ false) → count_by p (take (a + n) xs) ≡ count_by p (take a xs)
  no-more a zero within fails = ap (λ m. count_by p (take m xs)) (omega arith)
  no-more a (suc n) within fails =
      let next : a + suc n ≡ (a + n) + 1 = omega arith in
      ap (λ m. count_by p (take m xs)) next
      ∙ count_by_more_no p xs (a + n) d (omega (arith, within)) (fails (a + n) (omega arith) (omega arith))
      ∙ no-more a n (omega (arith, within)) (λ k above below. fails k above (omega (arith, below)))

  all-more : (a n : ℕ) → a + n ≤ length xs → ((k : ℕ) → a ≤ k → k < a + n → p (get_or xs k d) ≡ true) → count_by p (take (a + n) xs) ≡ count_by p (take a xs) + n
  all-more a zero within passes =
      let same : count_by p (take (a + 0) xs) ≡ count_by p (take a xs) = ap (λ m. count_by p (take m xs)) (omega arith) in
      omega (arith, same)
  all-more a (suc n) within passes =
      let next : a + suc n ≡ (a + n) + 1 = omega arith in
      let one = ap (λ m. count_by p (take m xs)) next ∙ count_by_more_yes p xs (a + n) d (omega (arith, within)) (passes (a + n) (omega arith) (omega arith)) in
      let rest = all-more a n (omega (arith, within)) (λ k above below. passes k above (omega (arith, below))) in
      omega (arith, one, rest)

  -- those from place i to below place j pass, and no others
  between : (i j : ℕ) → i ≤ j → j ≤ length xs → ((k : ℕ) → i ≤ k → k < j → p (get_or xs k d) ≡ true) → ((k : ℕ) → k < i → p (get_or xs k d) ≡ false) → ((k : ℕ) → j ≤ k → k < length xs → p (get_or xs k d) ≡ false) → count_by p xs ≡ j - i
  between i j ordered inside passes before behind =
      let first : count_by p (take (0 + i) xs) ≡ count_by p (take 0 xs) = no-more 0 i (omega (arith, ordered, inside)) (λ k above below. before k (omega (arith, below))) in
      let middle : count_by p (take (i + (j - i)) xs) ≡ count_by p (take i xs) + (j - i) = all-more i (j - i) (omega (arith, ordered, inside)) (λ k above below. passes k above (omega (arith, below, ordered))) in
      let last : count_by p (take (j + (length xs - j)) xs) ≡ count_by p (take j xs) = no-more j (length xs - j) (omega (arith, inside)) (λ k above below. behind k above (omega (arith, below, inside))) in
      let zeroth : 0 + i ≡ i = omega arith in
      let upto : i + (j - i) ≡ j = omega (arith, ordered) in
      let end : j + (length xs - j) ≡ length xs = omega (arith, inside) in
      let whole : take (length xs) xs ≡ xs = take_all (length xs) xs (omega arith) in
      let a : count_by p (take i xs) ≡ 0 = ap (λ m. count_by p (take m xs)) (sym zeroth) ∙ first in
      let b : count_by p (take j xs) ≡ count_by p (take i xs) + (j - i) = ap (λ m. count_by p (take m xs)) (sym upto) ∙ middle in
      let c : count_by p xs ≡ count_by p (take j xs) = ap (count_by p) (sym whole) ∙ ap (λ m. count_by p (take m xs)) (sym end) ∙ last in
      omega (arith, a, b, c)

-- the links of a node are as many as their places
pub begun : (g : Graph) (v i j : ℕ) → HoldsLinks g v i j → links_at g v ≡ j - i
begun g v i j holds =
    between (λ (link : Link). link.from.0 == v) g.links no_link i j holds.ordered holds.inside
    (λ k above below. eq-eqb (tail g k) v (holds.from k above below))
    (λ k below. false_from_ne_true (tail g k == v) (λ e. let at = holds.to k (omega (arith, below, holds.ordered, holds.inside)) (eqb-true (tail g k) v e) in omega (arith, at.0, below)))
    (λ k above within. false_from_ne_true (tail g k == v) (λ e. let at = holds.to k within (eqb-true (tail g k) v e) in omega (arith, at.1, above)))
