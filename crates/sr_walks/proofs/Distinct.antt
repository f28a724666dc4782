-- A shortest walk is loop-free, so it has fewer links than there are nodes.
use Rattle.std.proofs.Common.{◌≡◌, ◌≢◌, ℕ, zero, suc, ◌+◌, ◌-◌, ◌*◌, ◌<◌, ◌≤◌, Bool, cond, List, [], ◌∷◌, length, refl, arith, ap, sym, ◌∙◌, subst}
use Rattle.std.specs.Prelude.{◌==◌}
use Rattle.std.proofs.lemmas.Bool.{cond_both, eqb-true, eqb-false}
use Rattle.sr_model.specs.declared.link.TheConstants.{MOST_NODES, MOST_METRIC}
use Rattle.sr_model.specs.Graph.{Graph, IsGraph, IsLink, head, link_at, metric, node_count}
use Rattle.sr_model.specs.Walk.{IsDistance, AllNe, AreDistinct, IsShortest, IsWalk, cost, stops}
use Rattle.sr_walks.proofs.Distances.{shortest-cut, IsShortest-from_cost}

-- each number of the list is below n
abbrev pub AllBelow : ℕ → List ℕ → Type 0
AllBelow n [] = Unit {0}
AllBelow n (y ∷ ys) = (y < n) × AllBelow n ys

-- the list without the first k in it
abbrev without : ℕ → List ℕ → List ℕ
without k [] = []
without k (y ∷ ys) = cond (y == k) ys (y ∷ without k ys)

length-without : (k : ℕ) (xs : List ℕ) → length xs ≤ length (without k xs) + 1
length-without k [] = omega arith
length-without k (y ∷ ys) =
    cond_both (y == k) ys (y ∷ without k ys) (λ r. suc (length ys) ≤ length r + 1) (λ _. omega arith) (λ _. omega (arith, length-without k ys))

AllNe-without : (j k : ℕ) (xs : List ℕ) → AllNe j xs → AllNe j (without k xs)
AllNe-without j k [] a = a
AllNe-without j k (y ∷ ys) a = cond_both (y == k) ys (y ∷ without k ys) (AllNe j) (λ _. a.1) (λ _. (a.0, AllNe-without j k ys a.1))

AllBelow-without : (n k : ℕ) (xs : List ℕ) → AllBelow n xs → AllBelow n (without k xs)
AllBelow-without n k [] a = a
AllBelow-without n k (y ∷ ys) a = cond_both (y == k) ys (y ∷ without k ys) (AllBelow n) (λ _. a.1) (λ _. (a.0, AllBelow-without n k ys a.1))

AreDistinct-without : (k : ℕ) (xs : List ℕ) → AreDistinct xs → AreDistinct (without k xs)
AreDistinct-without k [] a = a
AreDistinct-without k (y ∷ ys) a = cond_both (y == k) ys (y ∷ without k ys) AreDistinct (λ _. a.1) (λ _. (AllNe-without y k ys a.0, AreDistinct-without k ys a.1))

without-none : (k : ℕ) (xs : List ℕ) → AreDistinct xs → AllNe k (without k xs)
without-none k [] a = tt
without-none k (y ∷ ys) a =
    cond_both (y == k) ys (y ∷ without k ys) (AllNe k)
    (λ e. subst (λ j. AllNe j ys) (eqb-true y k e) a.0)
    (λ e. (eqb-false y k e, without-none k ys a.1))

below-less : (n : ℕ) (xs : List ℕ) → AllBelow (suc n) xs → AllNe n xs → AllBelow n xs
below-less n [] a b = tt
below-less n (y ∷ ys) a b = (let ne : y ≢ n = b.0 in let lt : y < suc n = a.0 in omega arith, below-less n ys a.1 b.1)

-- distinct numbers below n are no more than n
pub length-distinct : (n : ℕ) (xs : List ℕ) → AllBelow n xs → AreDistinct xs → length xs ≤ n
length-distinct zero [] a b = omega arith
length-distinct zero (y ∷ ys) a b = let lt : y < 0 = a.0 in absurd (omega arith)
length-distinct (suc n) xs a b =
    let le : length (without n xs) ≤ n = length-distinct n (without n xs) (below-less n (without n xs) (AllBelow-without (suc n) n xs a) (without-none n xs b)) (AreDistinct-without n xs b) in
    omega (arith, length-without n xs)

length-stops : (g : Graph) (p : List ℕ) → length (stops g p) ≡ length p
length-stops g [] = refl
length-stops g (l ∷ p) = ap suc (length-stops g p)

stops-below : (g : Graph) (x : List Bool) (u : ℕ) (p : List ℕ) (v : ℕ) → IsGraph g → IsWalk g x u p v → AllBelow (node_count g) (stops g p)
stops-below g x u [] v r a = tt
stops-below g x u (l ∷ p) v r a = let k : IsLink g (link_at g l) = r.each l a.0 in (k.1, stops-below g x (head g l) p v r a.3)

-- a walk that is cheaper than every walk from u never reaches u
never_back : (g : Graph) (x : List Bool) (u v best : ℕ) → ((q : List ℕ) → IsWalk g x u q v → best ≤ cost g q) → (w : ℕ) (p : List ℕ) → IsWalk g x w p v → cost g p < best → AllNe u (w ∷ stops g p)
never_back g x u v best least w [] a cheap =
    ((λ e. let le : best ≤ 0 = least [] (sym e ∙ a) in omega arith), tt)
never_back g x u v best least w (l ∷ p) a cheap = (
  (λ e. let le : best ≤ metric g l + cost g p = least (l ∷ p) (rw (← e) a) in omega arith),
  never_back g x u v best least (head g l) p a.3 (omega arith),
)

pub shortest-distinct : (g : Graph) (x : List Bool) (u : ℕ) (p : List ℕ) (v : ℕ) → IsGraph g → IsShortest g x u p v → AreDistinct (u ∷ stops g p)
shortest-distinct g x u [] v r s = (tt, tt)
shortest-distinct g x u (l ∷ p) v r s =
    let k : IsLink g (link_at g l) = r.each l s.0.0 in
    let t = shortest-cut g x u (l ∷ []) p v s in
    let ends : head g l ≡ t.0 = t.1.0.3 in
    let part : IsShortest g x (head g l) p v = rw ends t.2 in
    (never_back g x u v (metric g l + cost g p) s.1 (head g l) p s.0.3 (omega arith), shortest-distinct g x (head g l) p v r part)

pub shortest-length : (g : Graph) (x : List Bool) (u : ℕ) (p : List ℕ) (v : ℕ) → IsGraph g → u < node_count g → IsShortest g x u p v → length p < node_count g
shortest-length g x u p v r within s =
    let le : length (u ∷ stops g p) ≤ node_count g = length-distinct (node_count g) (u ∷ stops g p) (within, stops-below g x u p v r s.0) (shortest-distinct g x u p v r s) in
    omega (arith, length-stops g p)

-- each link costs at most the greatest metric
cost-few : (g : Graph) (x : List Bool) (u : ℕ) (p : List ℕ) (v : ℕ) → IsGraph g → IsWalk g x u p v → cost g p ≤ MOST_METRIC * length p
cost-few g x u [] v r a = omega arith
cost-few g x u (l ∷ p) v r a =
    let k : IsLink g (link_at g l) = r.each l a.0 in
    let more : cost g p ≤ MOST_METRIC * length p = cost-few g x (head g l) p v r a.3 in
    omega arith

-- so distances are small
pub distance-small : (g : Graph) → IsGraph g → (x : List Bool) (u v c : ℕ) → u < node_count g → IsDistance g x u v c → c ≤ (MOST_NODES - 1) * MOST_METRIC
distance-small g r x u v c within d =
    let s : IsShortest g x u d.reached.0 v = IsShortest-from_cost g x u v c d.reached.0 d d.reached.1 d.reached.2 in
    let short : length d.reached.0 < node_count g = shortest-length g x u d.reached.0 v r within s in
    let few : node_count g ≤ MOST_NODES = r.few_nodes in
    omega (arith, cost-few g x u d.reached.0 v r d.reached.1, d.reached.2)
