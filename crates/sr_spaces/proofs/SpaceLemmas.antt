-- What cells say of spaces, and tests put down one by one.
use Rattle.std.proofs.Common.{◌≡◌, ◌≢◌, ℕ, ◌+◌, ◌<◌, ⊎_elim, Bool, true, false, List, [], ◌∷◌, ◌++◌, length, arith, subst, sym, refl}
use Rattle.std.specs.Prelude.{IsTrue, ◌↔◌, slice_index}
use Rattle.std.proofs.lemmas.List.{length-append, get_or_push, get_or_append_left}
use Rattle.std.proofs.lemmas.Bool.{cases_eq}
use Rattle.sr_model.specs.Graph.{Graph, node_count, link_count, tail, head, metric, has, carries, link_at, IsLink}
use Rattle.sr_model.specs.Walk.{OnShortest, IsCell}
use Rattle.sr_model.specs.Space.{InP}
use Rattle.sr_model.specs.declared.link.LinkNo.{LinkNo}
use Rattle.sr_model.specs.declared.link.TheConstants.{FAR}
use Rattle.sr_walks.proofs.Walks.{IsWalk-cut}
use Rattle.sr_walks.proofs.Distances.{tight-OnShortest, OnShortest-tight, OnShortest-carries, InP-from_none, none-from_InP}
use Rattle.sr_graph.specs.declared.edges.Edge.{Edge}
use Rattle.sr_graph.specs.Members.{number_at, AreMembers}
use Rattle.sr_spf.specs.Trees.{Forest, AreTrees, cell_at, row_at}

pub tree_cell : (g : Graph) (t : Forest) (u v : ℕ) → AreTrees g t → u < node_count g → v < node_count g → IsCell g [] u v (cell_at t u v)
tree_cell g t u v a b c = (a.rows u b).each v c

-- the links of walks are the graph's
pub OnShortest-within : (g : Graph) (x : List Bool) (u v l : ℕ) → OnShortest g x u v l → l < link_count g
OnShortest-within g x u v l on = (IsWalk-cut g x u on.before (l ∷ on.after) v on.shortest.0).2.0

-- the edge of link l, the row of node u, and that of the node at which the link ends
module _ (g : Graph) (t : Forest) (u v l : ℕ) (e : Edge) (row beyond : List ℕ) (a : AreTrees g t) (b : u < node_count g) (c : v < node_count g) (near : cell_at t u v < FAR) (from : e.from.0 ≡ tail g l) (to : e.to.0 ≡ head g l) (long : e.metric ≡ metric g l) (first : row ≡ row_at t.rows u) (second : beyond ≡ row_at t.rows e.to.0) where
  -- round a link on a shortest walk the cells add up to the whole
  pub OnShortest-sum : OnShortest g [] u v l → slice_index row e.from.0 + e.metric + slice_index beyond v ≡ slice_index row v
  OnShortest-sum on =
      let ends : IsLink g (link_at g l) = a.graph.each l (OnShortest-within g [] u v l on) in
      rw (second, from, to, long, first) (OnShortest-tight g [] u v l _ _ _ (tree_cell g t u (tail g l) a b ends.0) (tree_cell g t (head g l) v a ends.1 c) (tree_cell g t u v a b c) near on)

  -- and where they do, and the nodes beside its ends carry, the link stands on one
  pub sum-OnShortest : l < link_count g → carries g u e.from.0 ≡ true → carries g v e.to.0 ≡ true → slice_index row e.from.0 + e.metric + slice_index beyond v ≡ slice_index row v → OnShortest g [] u v l
  sum-OnShortest within begins arrives sum =
      let ends : IsLink g (link_at g l) = a.graph.each l within in
      tight-OnShortest g [] u v l _ _ _ within refl (rw from at begins) (rw to at arrives) (tree_cell g t u (tail g l) a b ends.0) (tree_cell g t (head g l) v a ends.1 c) (tree_cell g t u v a b c) near (rw (second, from, to, long, first) at sum)

  -- they do beside each link on one
  pub OnShortest-ends : OnShortest g [] u v l → (carries g u e.from.0 ≡ true) × (carries g v e.to.0 ≡ true)
  OnShortest-ends on = rw (from, to) (OnShortest-carries g [] u v l on)

-- a member on a shortest walk keeps the node out
pub member-InP : (g : Graph) (x : List Bool) (links : List LinkNo) (u v i : ℕ) → AreMembers x links → i < length links → OnShortest g [] u v (number_at links i) → InP g x u v → ⊥
member-InP g x links u v i members lt on inside = none-from_InP g x u v (number_at links i) inside (members.each i lt) on

-- where no member is on one, the node that is reached is in
pub InP-members : (g : Graph) (t : Forest) (x : List Bool) (links : List LinkNo) (u v : ℕ) → AreTrees g t → u < node_count g → v < node_count g → cell_at t u v < FAR → AreMembers x links → ((i : ℕ) → i < length links → OnShortest g [] u v (number_at links i) → ⊥) → InP g x u v
InP-members g t x links u v a b c near members none =
    let d = (tree_cell g t u v a b c).near near in
    InP-from_none g x u v d.reached.0 d.reached.1 (λ l within is on.
    let m : (i : ℕ) × (i < length links) × (number_at links i ≡ l) = members.all l is in
    none m.0 m.1 (subst (λ k. OnShortest g [] u v k) (sym m.2) on))

-- the tests, one for each number below n, tell P
pub record AreTests (P : ℕ → Type 0) (n : ℕ) (tests : List Bool) : Type 0 where
  pub long : length tests ≡ n
  pub each : (v : ℕ) → v < n → IsTrue (has tests v) ↔ P v

pub tests-push : (P : ℕ → Type 0) (n : ℕ) (tests : List Bool) (test : Bool) → AreTests P n tests → IsTrue test ↔ P n → AreTests P (n + 1) (tests ++ test ∷ [])
tests-push P n tests test k here = record {
  long = omega (arith, length-append tests (test ∷ []), k.long);
  each = λ v lt. ⊎_elim
      (λ (e : v ≡ n).
      let Q : ℕ → Type 0 = λ m. IsTrue (has (tests ++ test ∷ []) m) ↔ P m in
      subst Q (sym e) (rw (get_or_push tests test false n k.long) here))
      (λ (ne : v ≢ n). rw (get_or_append_left tests (test ∷ []) false v (omega (arith, k.long))) (k.each v (omega arith)))
      (cases_eq v n);
}
