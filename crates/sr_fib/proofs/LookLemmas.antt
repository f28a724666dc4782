-- What the tables of a net say of a label.
use Rattle.std.proofs.Common.{◌≡◌, ◌≢◌, ℕ, ⊎_elim, List, [], length, arith, ap, sym, ◌∙◌, subst, Some, None}
use Rattle.std.proofs.lemmas.Option.{slice_get_past, same_Some}
use Rattle.std.specs.Prelude.{slice_get}
use Rattle.sr_model.specs.declared.link.LinkNo.{LinkNo}
use Rattle.sr_model.specs.declared.entry.Move.TheVariants.{Popped, Crossed}
use Rattle.sr_model.specs.Walk.{IsNextHop}
use Rattle.sr_model.specs.Label.{Net, labels_at, adj_at, IsIndexOf, IsLabel}
use Rattle.sr_model.specs.Rule.{IsNet}
use Rattle.sr_model.specs.Table.{HasNoStep}
use Rattle.sr_laws.proofs.Delivery.{same_node, not_null, not_adj}
use Rattle.sr_spf.specs.Hops.{AreNextHops}
use Rattle.sr_fib.specs.declared.sorted.IndexedNode.{IndexedNode}
use Rattle.sr_fib.specs.declared.sorted.LabelledLink.{LabelledLink}
use Rattle.sr_fib.specs.Sorted.{NoNode, NoLink}
use Rattle.sr_fib.specs.Entries.{IsNodeOf}
use Rattle.sr_fib.specs.Tables.{AreIndices, AreAdjacencies}

no_hop : (n : Net) (u b : ℕ) (links : List LinkNo) → length links ≡ 0 → AreNextHops n.graph u b links → (l : ℕ) → IsNextHop n.graph [] u b l → ⊥
no_hop n u b links none are l hop =
    let at = are.all l hop in
    let past : slice_get links at.0 ≡ None = slice_get_past links at.0 (omega arith) in
    absurd {0} (let bad : None ≡ Some at.1 = sym past ∙ at.2 in cc)

-- the label of a node towards which there is no hop does nothing
pub no_hop-no_step : (n : Net) → IsNet n → (u b t : ℕ) (links : List LinkNo) → IsLabel n u b t → b ≢ u → AreNextHops n.graph u b links → length links ≡ 0 → HasNoStep n u t
no_hop-no_step n r u b t links is ne are none rest Popped v after = λ s. ⊎_elim
    (λ null. not_null n r u b t is null)
    (λ own. ne (same_node n r u b u t is own))
    s.0
no_hop-no_step n r u b t links is ne are none rest (Crossed l) v after = λ s. ⊎_elim
    (λ adj. not_adj n r u b t l.0 is s.2 adj.0)
    (λ node.
    let e : node.0 ≡ b = same_node n r u node.0 b t node.1 is in
    no_hop n u b links none are l.0 (subst (λ k. IsNextHop n.graph [] u k l.0) e node.3))
    s.4

-- an index that is no node's is that of no node's label
pub owner-none : (n : Net) → IsNet n → (list : List IndexedNode) → AreIndices n list → (u t i : ℕ) → IsIndexOf (labels_at n u).srgb t (Some i) → NoNode list i → IsNodeOf n u t None
owner-none n r list are u t i index none b is =
    let same : is.0 ≡ i = r.own_label u is.0 i t is.3 index in
    let at = are.all b is.0 is.1 is.2 in
    let e = are.each at.0 at.1 in
    none at.0 at.1 (same_Some _ _ (sym e.1 ∙ ap (λ k. (labels_at n k).index) at.2 ∙ is.2) ∙ same)

-- a label that isn't explicit null, no node's and no adjacency's does nothing
pub nothing-no_step : (n : Net) (u t : ℕ) (list : List LabelledLink) → AreAdjacencies n u list → t ≢ 0 → IsNodeOf n u t None → NoLink list t → HasNoStep n u t
nothing-no_step n u t list are some none missing rest Popped v after = λ s. ⊎_elim (λ null. some null) (λ own. none u own) s.0
nothing-no_step n u t list are some none missing rest (Crossed l) v after = λ s. ⊎_elim
    (λ is.
    let at = are.all l.0 t s.0 s.2 is.0 in
    let e = are.each at.0 at.1 in
    missing at.0 at.1 (same_Some _ _ (sym e.2 ∙ ap (adj_at n) at.2 ∙ is.0)))
    (λ node. none node.0 node.1)
    s.4
