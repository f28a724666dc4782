-- Entries are the steps that they stand for, and a label has one.
use Rattle.std.proofs.Common.{◌≡◌, ℕ, ◌<◌, ⊎_elim, inl, inr, List, [], ◌∷◌, length, refl, arith, ap, sym, ◌∙◌, subst, Option, Some, None}
use Rattle.std.specs.Prelude.{slice_get, ◌↔◌}
use Rattle.sr_model.specs.declared.link.LinkNo.{LinkNo}
use Rattle.sr_model.specs.declared.link.NodeNo.{NodeNo}
use Rattle.sr_model.specs.declared.entry.Move.{Move}
use Rattle.sr_model.specs.declared.entry.Move.TheVariants.{Popped, Crossed}
use Rattle.sr_model.specs.declared.entry.Out.{Out}
use Rattle.sr_model.specs.declared.entry.Entry.{Entry}
use Rattle.sr_model.specs.declared.entry.Entry.TheVariants.{Own, Null, Adj, Node}
use Rattle.sr_model.specs.Graph.{link_count, tail, head}
use Rattle.sr_model.specs.Walk.{IsNextHop}
use Rattle.sr_model.specs.Label.{Net, adj_at, IsLabel}
use Rattle.sr_model.specs.Rule.{IsNet}
use Rattle.sr_model.specs.Forward.{Crossing, Step}
use Rattle.sr_model.specs.Table.{IsOut, leaves, IsEntry, HasNoStep, IsLookup}
use Rattle.sr_laws.specs.Tables.{Allows, AllowsAt}
use Rattle.sr_laws.proofs.Delivery.{same_node, not_null, not_adj}
use Rattle.sr_laws.proofs.Stacks.{crossing-out, hops-one}
use Rattle.sr_laws.proofs.Parts.{link_is, node_is}

own_steps : (n : Net) (r : IsNet n) (u t : ℕ) → IsLabel n u u t → (rest : List ℕ) (m : Move) (v : ℕ) (after : List ℕ) → Step n [] u (t ∷ rest) m v after ↔ Allows n u Own rest m v after
own_steps n r u t is rest Popped v after = (λ s. (s.1, s.2), λ a. (inr is, a.0, a.1))
own_steps n r u t is rest (Crossed l) v after = (
  λ s. ⊎_elim
      (λ adj. not_adj n r u u t l.0 is s.2 adj.0)
      (λ node. node.2 (same_node n r u node.0 u t node.1 is))
      s.4,
  λ a. absurd a,
)

null_steps : (n : Net) (r : IsNet n) (u t : ℕ) → t ≡ 0 → (rest : List ℕ) (m : Move) (v : ℕ) (after : List ℕ) → Step n [] u (t ∷ rest) m v after ↔ Allows n u Null rest m v after
null_steps n r u t is rest Popped v after = (λ s. (s.1, s.2), λ a. (inl is, a.0, a.1))
null_steps n r u t is rest (Crossed l) v after = (
  λ s. ⊎_elim
      (λ adj. let h : 0 < t = r.adj_high l.0 t adj.0 in omega arith)
      (λ node. not_null n r u node.0 t node.1 is)
      s.4,
  λ a. absurd a,
)

adj_steps : (n : Net) (r : IsNet n) (u t : ℕ) (k : LinkNo) → IsEntry n u t (Adj k) → (rest : List ℕ) (m : Move) (v : ℕ) (after : List ℕ) → Step n [] u (t ∷ rest) m v after ↔ Allows n u (Adj k) rest m v after
adj_steps n r u t k is rest Popped v after = (
  λ s. ⊎_elim
      (λ (null : t ≡ 0). let h : 0 < t = r.adj_high k.0 t is.2 in omega arith)
      (λ own. not_adj n r u u t k.0 own is.1 is.2)
      s.0,
  λ a. absurd a,
)
adj_steps n r u t k is rest (Crossed l) v after = (
  λ s. ⊎_elim
      (λ adj. let e : l.0 ≡ k.0 = r.adj_one l.0 k.0 t s.0 is.0 (s.2 ∙ sym is.1) adj.0 is.2 in (e, s.3 ∙ ap (head n.graph) e, adj.1))
      (λ node. absurd (not_adj n r u node.0 t k.0 node.1 is.1 is.2))
      s.4,
  λ a. (
    subst (λ j. j < link_count n.graph) (sym a.0) is.0,
    refl,
    ap (tail n.graph) a.0 ∙ is.1,
    a.1 ∙ ap (head n.graph) (sym a.0),
    inl (ap (adj_at n) a.0 ∙ is.2, a.2),
  ),
)

node_steps : (n : Net) (r : IsNet n) (u t : ℕ) (b : NodeNo) (hops : List (LinkNo × Out)) → IsEntry n u t (Node b hops) → (rest : List ℕ) (m : Move) (v : ℕ) (after : List ℕ) → Step n [] u (t ∷ rest) m v after ↔ Allows n u (Node b hops) rest m v after
node_steps n r u t b hops is rest Popped v after = (
  λ s. ⊎_elim
      (λ null. not_null n r u b.0 t is.0 null)
      (λ own. is.1 (same_node n r u b.0 u t is.0 own))
      s.0,
  λ a. absurd a,
)
node_steps n r u t b hops is rest (Crossed l) v after = (
  λ s. ⊎_elim
      (λ adj. absurd (not_adj n r u b.0 t l.0 is.0 s.2 adj.0))
      (λ node.
      let e : node.0 ≡ b.0 = same_node n r u node.0 b.0 t node.1 is.0 in
      let hop : IsNextHop n.graph [] u b.0 l.0 = subst (λ k. IsNextHop n.graph [] u k l.0) e node.3 in
      let at = is.2.all l.0 hop in
      let out : IsOut n b.0 (head n.graph l.0) at.1.1 = subst (λ k. IsOut n b.0 (head n.graph k) at.1.1) at.3 (is.2.each at.0 at.1 at.2).1 in
      (at.0, at.1, at.2, at.3, s.3, (crossing-out n b.0 (head n.graph l.0) at.1.1 rest after out).0 (subst (λ k. Crossing n k (head n.graph l.0) rest after) e node.4)))
      s.4,
  λ a.
      let h = is.2.each a.0 a.1 a.2 in
      let hop : IsNextHop n.graph [] u b.0 l.0 = subst (λ k. IsNextHop n.graph [] u b.0 k) a.3 h.0 in
      let out : IsOut n b.0 (head n.graph l.0) a.1.1 = subst (λ k. IsOut n b.0 (head n.graph k) a.1.1) a.3 h.1 in
      (hop.shortest.0.0, refl, hop.shortest.0.2, a.4, inr (b.0, is.0, is.1, hop, (crossing-out n b.0 (head n.graph l.0) a.1.1 rest after out).1 a.5)),
)

pub entry-steps : (n : Net) (r : IsNet n) (u t : ℕ) (e : Entry) → IsEntry n u t e → (rest : List ℕ) (m : Move) (v : ℕ) (after : List ℕ) → Step n [] u (t ∷ rest) m v after ↔ Allows n u e rest m v after
entry-steps n r u t Own is = own_steps n r u t is
entry-steps n r u t Null is = null_steps n r u t is
entry-steps n r u t (Adj k) is = adj_steps n r u t k is
entry-steps n r u t (Node b hops) is = node_steps n r u t b hops is

pub lookup-steps : (n : Net) (r : IsNet n) (u t : ℕ) (o : Option Entry) → IsLookup n u t o → (rest : List ℕ) (m : Move) (v : ℕ) (after : List ℕ) → Step n [] u (t ∷ rest) m v after ↔ AllowsAt n u o rest m v after
lookup-steps n r u t None none rest m v after = (λ s. none rest m v after s, λ a. absurd a)
lookup-steps n r u t (Some e) is rest m v after = entry-steps n r u t e is rest m v after

first_of_hops : (hops : List (LinkNo × Out)) → 0 < length hops → (h : LinkNo × Out) × (slice_get hops 0 ≡ Some h)
first_of_hops [] lt = absurd (omega arith)
first_of_hops (h ∷ hops) lt = (h, refl)

-- an entry stands for some step
entry_moves : (n : Net) (r : IsNet n) (u t : ℕ) (e : Entry) → IsEntry n u t e → HasNoStep n u t → ⊥
entry_moves n r u t Own is none = none [] Popped u [] (inr is, refl, refl)
entry_moves n r u t Null is none = none [] Popped u [] (inl is, refl, refl)
entry_moves n r u t (Adj k) is none = none [] (Crossed k) (head n.graph k.0) [] (is.0, refl, is.1, refl, inl (is.2, refl))
entry_moves n r u t (Node b hops) is none =
    let h = first_of_hops hops is.3 in
    none [] (Crossed h.0.0) (head n.graph h.0.0.0) (leaves h.0.1 []) ((node_steps n r u t b hops is [] (Crossed h.0.0) (head n.graph h.0.0.0) (leaves h.0.1 [])).1 (0, h.0, h.1, refl, refl, refl))

own_null : (n : Net) → IsNet n → (u b t : ℕ) → IsLabel n u b t → t ≡ 0 → ⊥
own_null n r u b t is null = not_null n r u b t is null

adj_null : (n : Net) → IsNet n → (u t : ℕ) (k : LinkNo) → IsEntry n u t (Adj k) → t ≡ 0 → ⊥
adj_null n r u t k is null = let h : 0 < t = r.adj_high k.0 t is.2 in omega arith

-- a label has one entry
pub entry-one : (n : Net) (r : IsNet n) (u t : ℕ) (a b : Entry) → IsEntry n u t a → IsEntry n u t b → a ≡ b
entry-one n r u t Own Own p q = refl
entry-one n r u t Own Null p q = absurd (own_null n r u u t p q)
entry-one n r u t Own (Adj k) p q = absurd (not_adj n r u u t k.0 p q.1 q.2)
entry-one n r u t Own (Node b hops) p q = absurd (q.1 (same_node n r u b.0 u t q.0 p))
entry-one n r u t Null Own p q = absurd (own_null n r u u t q p)
entry-one n r u t Null Null p q = refl
entry-one n r u t Null (Adj k) p q = absurd (adj_null n r u t k q p)
entry-one n r u t Null (Node b hops) p q = absurd (own_null n r u b.0 t q.0 p)
entry-one n r u t (Adj k) Own p q = absurd (not_adj n r u u t k.0 q p.1 p.2)
entry-one n r u t (Adj k) Null p q = absurd (adj_null n r u t k p q)
entry-one n r u t (Adj k) (Adj l) p q = ap Adj (link_is k l (r.adj_one k.0 l.0 t p.0 q.0 (p.1 ∙ sym q.1) p.2 q.2))
entry-one n r u t (Adj k) (Node b hops) p q = absurd (not_adj n r u b.0 t k.0 q.0 p.1 p.2)
entry-one n r u t (Node b hops) Own p q = absurd (p.1 (same_node n r u b.0 u t p.0 q))
entry-one n r u t (Node b hops) Null p q = absurd (own_null n r u b.0 t p.0 q)
entry-one n r u t (Node b hops) (Adj k) p q = absurd (not_adj n r u b.0 t k.0 p.0 q.1 q.2)
entry-one n r u t (Node b hops) (Node c more) p q =
    let e : b ≡ c = node_is b c (same_node n r u b.0 c.0 t p.0 q.0) in
    let f : hops ≡ more = hops-one n u b.0 hops more p.2 (subst (λ (k : NodeNo). IsEntry n u t (Node k more)) (sym e) q).2 in
    cc

pub lookup-one : (n : Net) (r : IsNet n) (u t : ℕ) (a b : Option Entry) → IsLookup n u t a → IsLookup n u t b → a ≡ b
lookup-one n r u t None None p q = refl
lookup-one n r u t None (Some b) p q = absurd (entry_moves n r u t b q p)
lookup-one n r u t (Some a) None p q = absurd (entry_moves n r u t a p q)
lookup-one n r u t (Some a) (Some b) p q = ap (λ e. Some e) (entry-one n r u t a b p q)
