-- What the segments cost, from one on.
use Rattle.std.proofs.Common.{◌≡◌, ℕ, ◌+◌, ◌<◌, ◌≤◌, ⊎_elim, Bool, List, [], ◌∷◌, length, drop, refl, arith, ap, sym, ◌∙◌}
use Rattle.std.specs.Prelude.{◌↔◌}
use Rattle.std.proofs.lemmas.Bool.{cases_lt}
use Rattle.sr_model.specs.declared.link.NodeNo.{NodeNo}
use Rattle.sr_model.specs.declared.link.TheConstants.{FAR}
use Rattle.sr_model.specs.declared.repair.Segment.{Segment}
use Rattle.sr_model.specs.declared.repair.Segment.TheVariants.{Node, Adj}
use Rattle.sr_model.specs.Graph.{metric, node_count}
use Rattle.sr_model.specs.Case.{source_of}
use Rattle.sr_model.specs.Walk.{IsCell, IsDistance, IsRow}
use Rattle.sr_model.specs.Label.{Net}
use Rattle.sr_repair.specs.Stack.{segment_at, goes_to}
use Rattle.sr_walks.proofs.Distances.{distance-unique}
use Rattle.sr_cert.specs.declared.certificate.Certificate.{Certificate}
use Rattle.sr_cert.specs.Clauses.{Costs, CostsAddUp, BeginsExact}
use Rattle.sr_cert.specs.Walked.{IsCostOver, CostInAll, whole_cell, row_numbered}
use Rattle.sr_cert.proofs.WalkedLemmas.{drop-segment, drop-all}

-- what is reached with the total, and what the segments from waypoint u on cost, are the whole
abbrev pub AddsUpFrom : Net → ℕ → ℕ → List Segment → ℕ → ℕ → Type 0
AddsUpFrom n d u ss total whole = (b : ℕ) × Costs n u ss d b × (total + b ≡ whole)

-- a segment costs one number
cost-one : (n : Net) (u : ℕ) (s : Segment) (a b : ℕ) → IsCostOver n.graph u s a → IsCostOver n.graph u s b → a ≡ b
cost-one n u (Node v) a b p q = distance-unique n.graph [] u v.0 a b p q
cost-one n u (Adj l) a b p q = p ∙ sym q

costs-split : (n : Net) (u : ℕ) (s : Segment) (r : List Segment) (d b : ℕ) → Costs n u (s ∷ r) d b → (a : ℕ) × (e : ℕ) × IsCostOver n.graph u s a × Costs n (goes_to n s) r d e × (b ≡ a + e)
costs-split n u (Node v) r d b k = (k.0, k.1, k.2, k.3, k.4)
costs-split n u (Adj l) r d b k = (metric n.graph l.0, k.0, refl, k.1, k.2)

costs-join : (n : Net) (u : ℕ) (s : Segment) (r : List Segment) (d a e : ℕ) → IsCostOver n.graph u s a → Costs n (goes_to n s) r d e → Costs n u (s ∷ r) d (a + e)
costs-join n u (Node v) r d a e p q = (a, e, p, q, refl)
costs-join n u (Adj l) r d a e p q = (e, q, ap (λ k. k + e) p)

-- one segment more is added
adds-cons : (n : Net) (d u : ℕ) (s : Segment) (r : List Segment) (total a whole : ℕ) → IsCostOver n.graph u s a → AddsUpFrom n d u (s ∷ r) total whole ↔ AddsUpFrom n d (goes_to n s) r (total + a) whole
adds-cons n d u s r total a whole p = (
  λ k.
      let t = costs-split n u s r d k.0 k.1 in
      let same : t.0 ≡ a = cost-one n u s t.0 a t.2 p in
      (t.1, t.3, omega (arith, k.2, t.4, same)),
  λ k. (a + k.0, costs-join n u s r d a k.0 p k.1, omega (arith, k.2)),
)

pub adds-at : (n : Net) (d : ℕ) (ss : List Segment) (k : ℕ) → k < length ss → (u w total a whole : ℕ) → w ≡ goes_to n (segment_at ss k) → IsCostOver n.graph u (segment_at ss k) a → AddsUpFrom n d u (drop k ss) total whole ↔ AddsUpFrom n d w (drop (k + 1) ss) (total + a) whole
adds-at n d ss k lt u w total a whole to p = rw (drop-segment ss k lt, to) (adds-cons n d u (segment_at ss k) (drop (k + 1) ss) total a whole p)

-- at the last waypoint the distance of d is left
pub adds-end : (n : Net) (d : NodeNo) (ss : List Segment) (k : ℕ) → k ≤ length ss → length ss ≤ k → (u total a whole : ℕ) → IsCostOver n.graph u (Node d) a → (total + a ≡ whole) ↔ AddsUpFrom n d.0 u (drop k ss) total whole
adds-end n d ss k le ge u total a whole p =
    rw (drop-all ss k le ge)
    ((
      λ e. (a, p, e),
      λ t. let same : t.0 ≡ a = distance-unique n.graph [] u d.0 t.0 a t.1 p in omega (arith, t.2),
    ))

-- by an exact first row the cell of the destination tells the distance
cell-adds-up : (n : Net) (x : List Bool) (c : Certificate) → IsCell n.graph x (source_of n.graph c.case) c.dest.0 (whole_cell c) → ((whole_cell c < FAR) × CostInAll n c (whole_cell c)) ↔ CostsAddUp n x c
cell-adds-up n x c cell = (
  λ k. (k.1.0, k.1.1, rw k.1.2 (cell.near k.0)),
  λ t.
      let near : whole_cell c < FAR = ⊎_elim (λ near. near) (λ far. absurd (cell.far far t.2.reached.0 t.2.reached.1)) (cases_lt (whole_cell c) FAR) in
      (near, (t.0, t.1, distance-unique n.graph x (source_of n.graph c.case) c.dest.0 _ _ t.2 (cell.near near))),
)

-- the first row
first-row : (n : Net) (x : List Bool) (s : ℕ) (rows : List (List ℕ)) → BeginsExact n x s rows → IsRow n.graph x s (row_numbered rows 0)
first-row n x s [] exact = absurd exact
first-row n x s (row ∷ rows) exact = exact

-- so where the first row is exact, the sum and the cell tell the same
pub sum-by_cell : (n : Net) (x : List Bool) (c : Certificate) → c.dest.0 < node_count n.graph → BeginsExact n x (source_of n.graph c.case) c.rows → ((whole_cell c < FAR) × CostInAll n c (whole_cell c)) ↔ CostsAddUp n x c
sum-by_cell n x c within exact = cell-adds-up n x c ((first-row n x (source_of n.graph c.case) c.rows exact).each c.dest.0 within)

-- and the cell is the distance
pub cell-whole : (n : Net) (x : List Bool) (c : Certificate) → c.dest.0 < node_count n.graph → BeginsExact n x (source_of n.graph c.case) c.rows → CostsAddUp n x c → IsDistance n.graph x (source_of n.graph c.case) c.dest.0 (whole_cell c)
cell-whole n x c within exact sum =
    ((first-row n x (source_of n.graph c.case) c.rows exact).each c.dest.0 within).near ((sum-by_cell n x c within exact).1 sum).0
