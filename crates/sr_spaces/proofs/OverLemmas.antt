-- The nodes to which a shortest walk from a node holds a link, and what bits of sets tell.
use Rattle.std.proofs.Common.{◌≡◌, ℕ, ◌+◌, ◌<◌, ⊎_elim, Bool, true, false, ◌&&◌, List, [], ◌∷◌, ◌++◌, append_assoc, length, arith, refl, subst, sym, ◌∙◌}
use Rattle.std.specs.Prelude.{IsTrue, ◌↔◌, slice_index}
use Rattle.std.proofs.lemmas.Bool.{and_parts, eqb-true, eq-eqb, lt-ltb, true≢false, cases_lt}
use Rattle.sr_lanes.specs.Passes.{is_tight}
use Rattle.sr_model.specs.Graph.{Graph, node_count, link_count, tail, head, metric, carries, is_overloaded, link_at, IsLink}
use Rattle.sr_model.specs.Walk.{OnShortest, IsCell, IsShortest}
use Rattle.sr_model.specs.declared.link.TheConstants.{FAR}
use Rattle.sr_walks.proofs.Walks.{carries-cases, carries-same}
use Rattle.sr_walks.proofs.Distances.{cell-distance, distance-self, shortest-cut, OnShortest-carries}
use Rattle.sr_graph.specs.declared.edges.Edge.{Edge}
use Rattle.sr_spf.specs.Trees.{Forest, AreTrees, cell_at, row_at}
use Rattle.sr_spaces.proofs.SpaceLemmas.{tree_cell, OnShortest-within, OnShortest-sum, sum-OnShortest}

-- the cell of a node to itself is 0
pub own_cell : (g : Graph) (t : Forest) (w : ℕ) → AreTrees g t → w < node_count g → cell_at t w w ≡ 0
own_cell g t w a b = cell-distance g [] w w (cell_at t w w) 0 (tree_cell g t w w a b b) (distance-self g [] w) (omega arith)

-- a link on a shortest walk stands on one to its own end
to_end : (g : Graph) (u v l : ℕ) → OnShortest g [] u v l → OnShortest g [] u (head g l) l
to_end g u v l on =
    let split : on.before ++ l ∷ on.after ≡ (on.before ++ l ∷ []) ++ on.after = sym (append_assoc on.before (l ∷ []) on.after) in
    let r = shortest-cut g [] u (on.before ++ l ∷ []) on.after v (subst (λ q. IsShortest g [] u q v) split on.shortest) in
    let s = shortest-cut g [] u on.before (l ∷ []) r.0 r.1 in
    let arrives : head g l ≡ r.0 = s.2.0.3 in
    record { before = on.before; after = []; shortest = subst (λ k. IsShortest g [] u (on.before ++ l ∷ []) k) (sym arrives) r.1 }

-- an overloaded node at which a link on a shortest walk ends is the end of the walk
pub overloaded_end : (g : Graph) (u v l : ℕ) → is_overloaded g (head g l) ≡ true → OnShortest g [] u v l → v ≡ head g l
overloaded_end g u v l is on =
    ⊎_elim
    (λ (same : head g l ≡ v). sym same)
    (λ clear. absurd (true≢false (sym is ∙ clear)))
    (carries-cases g v (head g l) (OnShortest-carries g [] u v l on).1)

-- the edge of link l, and the row of node u
module _ (g : Graph) (t : Forest) (u l : ℕ) (e : Edge) (row : List ℕ) (a : AreTrees g t) (b : u < node_count g) (from : e.from.0 ≡ tail g l) (to : e.to.0 ≡ head g l) (long : e.metric ≡ metric g l) (first : row ≡ row_at t.rows u) where
  -- a shortest walk that holds the link reaches its end at that node's cost
  pub over-end : (v : ℕ) → OnShortest g [] u v l → slice_index row e.from.0 + e.metric ≡ slice_index row e.to.0
  over-end v on =
      let ends : IsLink g (link_at g l) = a.graph.each l (OnShortest-within g [] u v l on) in
      let last : OnShortest g [] u (head g l) l = to_end g u v l on in
      let cell : IsCell g [] u (head g l) (cell_at t u (head g l)) = tree_cell g t u (head g l) a b ends.1 in
      let none : slice_index (row_at t.rows e.to.0) (head g l) ≡ 0 = rw to (own_cell g t (head g l) a ends.1) in
      ⊎_elim
      (λ (near : cell_at t u (head g l) < FAR). rw to (omega (arith, OnShortest-sum g t u (head g l) l e row (row_at t.rows e.to.0) a b ends.1 near from to long first refl last, none)))
      (λ far. absurd (cell.far far (last.before ++ l ∷ last.after) last.shortest.0))
      (cases_lt (cell_at t u (head g l)) FAR)

  -- where the cost is the same, the link stands on a shortest walk to its end
  pub end-over : l < link_count g → carries g u e.from.0 ≡ true → cell_at t u e.to.0 < FAR → slice_index row e.from.0 + e.metric ≡ slice_index row e.to.0 → OnShortest g [] u e.to.0 l
  end-over within begins near same =
      let ends : IsLink g (link_at g l) = a.graph.each l within in
      let there : e.to.0 < node_count g = rw to ends.1 in
      sum-OnShortest g t u e.to.0 l e row (row_at t.rows e.to.0) a b there near from to long first refl within begins (carries-same g e.to.0 e.to.0 refl) (omega (arith, same, own_cell g t e.to.0 a there))

-- the pass over rows says yes at a node to which the cells add up
pub tight-told : (row base : List ℕ) (cost v : ℕ) → v < length row → (is_tight row cost base v ≡ true) ↔ (cost + slice_index base v ≡ slice_index row v)
tight-told row base cost v lt = (
  λ yes. eqb-true (cost + slice_index base v) (slice_index row v) (and_parts _ _ yes).1,
  λ same. rw (lt-ltb v (length row) lt) (eq-eqb (cost + slice_index base v) (slice_index row v) same),
)

-- a bit that is clear tells what never holds of a member
pub told-none : (b m : Bool) (P : Type 0) → b ≡ false → (m ≡ true → P → ⊥) → IsTrue b ↔ ((m ≡ true) × P)
told-none b m P clear none = (λ yes. absurd (true≢false (sym yes ∙ clear)), λ both. absurd (none both.0 both.1))

-- what a bit tells of a member may be said in another way
pub told-same : (b m : Bool) (P Q : Type 0) → IsTrue b ↔ ((m ≡ true) × P) → (m ≡ true → P ↔ Q) → IsTrue b ↔ ((m ≡ true) × Q)
told-same b m P Q told same = (
  λ yes. let both = told.0 yes in (both.0, (same both.0).0 both.1),
  λ both. told.1 (both.0, (same both.0).1 both.1),
)

-- a bit that a test gives tells what the test says of a member
pub told-tested : (b m t : Bool) (P : Type 0) → b ≡ (m && t) → (m ≡ true → (t ≡ true) ↔ P) → IsTrue b ↔ ((m ≡ true) × P)
told-tested b m t P is test = (
  λ yes. let both = and_parts m t (sym is ∙ yes) in (both.0, (test both.0).0 both.1),
  λ both. is ∙ rw (both.0) ((test both.0).1 both.1),
)
