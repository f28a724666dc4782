-- What a node does by an entry is a step by choice, and where it does nothing no step is lawful.
use Rattle.std.proofs.Common.{◌≡◌, ℕ, zero, suc, ◌%◌, ◌<◌, inl, Bool, true, false, cond, List, [], ◌∷◌, length, refl, arith, ap, sym, ◌∙◌, subst, Option, Some, None, option_map}
use Rattle.std.specs.Prelude.{slice_get, filter, map, not}
use Rattle.std.proofs.lemmas.List.{length-map}
use Rattle.std.proofs.lemmas.Nat.{mod_below}
use Rattle.std.proofs.lemmas.Option.{slice_get-map, slice_get_within, slice_get-get_or}
use Rattle.sr_model.specs.declared.link.LinkNo.{LinkNo}
use Rattle.sr_model.specs.declared.link.NodeNo.{NodeNo}
use Rattle.sr_model.specs.declared.entry.Move.{Move}
use Rattle.sr_model.specs.declared.entry.Move.TheVariants.{Popped, Crossed}
use Rattle.sr_model.specs.declared.entry.Out.{Out}
use Rattle.sr_model.specs.declared.entry.Out.TheVariants.{Pop}
use Rattle.sr_model.specs.declared.entry.Entry.TheVariants.{Adj, Node}
use Rattle.sr_model.specs.Graph.{head, has}
use Rattle.sr_model.specs.Walk.{IsNextHop}
use Rattle.sr_model.specs.Label.{Net}
use Rattle.sr_model.specs.Rule.{IsNet}
use Rattle.sr_model.specs.Forward.{Step, AreLawful}
use Rattle.sr_model.specs.Table.{leaves, AreHops, IsEntry, HasNoStep}
use Rattle.sr_laws.proofs.Delivery.{same_node, not_adj}
use Rattle.sr_laws.proofs.Entries.{entry-steps}
use Rattle.sr_laws.proofs.Places.{filter-place, filter-order, map-from}
use Rattle.sr_laws.proofs.Arrivals.{step_opens}
use Rattle.sr_forward.specs.Choices.{open_hops, chosen_hop}
use Rattle.sr_forward.specs.Steps.{IsAction, HasNoAction}

-- ---- open hops
abbrev pub is_open : List Bool → LinkNo × Out → Bool
is_open closed h = not (has closed h.0.0)

abbrev pub link_no : LinkNo × Out → ℕ
link_no h = h.0.0

kept : {A : Type 0} (f : A → Bool) (b : Bool) (y : A) (ys fs : List A) (j : ℕ) (v : A) → f y ≡ b → ((i : ℕ) → slice_get fs i ≡ Some v → (f v ≡ true) × (k : ℕ) × (slice_get ys k ≡ Some v)) → slice_get (cond b (y ∷ fs) fs) j ≡ Some v → (f v ≡ true) × (k : ℕ) × (slice_get (y ∷ ys) k ≡ Some v)
kept f true y ys fs zero v is rest e = let same : y ≡ v = (cc) in (ap f (sym same) ∙ is, 0, e)
kept f true y ys fs (suc j) v is rest e = let r = rest j e in (r.0, suc r.1, r.2)
kept f false y ys fs j v is rest e = let r = rest j e in (r.0, suc r.1, r.2)

-- what a filter keeps passes its test, and stands in the list
filter-from : {A : Type 0} (f : A → Bool) (xs : List A) (j : ℕ) (v : A) → slice_get (filter f xs) j ≡ Some v → (f v ≡ true) × (k : ℕ) × (slice_get xs k ≡ Some v)
filter-from f [] j v e = absurd {0} (cc)
filter-from f (y ∷ ys) j v e = kept f (f y) y ys (filter f ys) j v refl (λ i. filter-from f ys i v) e

not_true : (b : Bool) → not b ≡ true → b ≡ false
not_true true e = absurd {0} (cc)
not_true false e = refl

-- the links of the open hops are the lawful ones
open-lawful : (n : Net) (closed : List Bool) (u b : ℕ) (hops : List (LinkNo × Out)) → AreHops n u b hops → AreLawful n closed u b (map link_no (open_hops closed hops))
open-lawful n closed u b hops are = record {
  each = λ i l e.
      let h : (a : LinkNo × Out) × (slice_get (open_hops closed hops) i ≡ Some a) × (link_no a ≡ l) = map-from link_no (open_hops closed hops) i l e in
      let from : (is_open closed h.0 ≡ true) × (k : ℕ) × (slice_get hops k ≡ Some h.0) = filter-from (is_open closed) hops i h.0 h.1 in (
        subst (λ (k : ℕ). IsNextHop n.graph [] u b k) h.2 (are.each from.1 h.0 from.2).0,
        subst (λ (k : ℕ). has closed k ≡ false) h.2 (not_true (has closed h.0.0.0) from.0),
      );
  ascending = λ i j k l lt e f.
      let g : (a : LinkNo × Out) × (slice_get (open_hops closed hops) i ≡ Some a) × (link_no a ≡ k) = map-from link_no (open_hops closed hops) i k e in
      let h : (a : LinkNo × Out) × (slice_get (open_hops closed hops) j ≡ Some a) × (link_no a ≡ l) = map-from link_no (open_hops closed hops) j l f in
      let r = filter-order (is_open closed) hops i j g.0 h.0 lt g.1 h.1 in
      let up : g.0.0.0 < h.0.0.0 = are.ascending r.0 r.1 g.0 h.0 r.2 r.3 r.4 in
      let low : g.0.0.0 ≡ k = g.2 in
      let high : h.0.0.0 ≡ l = h.2 in
      omega arith;
  all = λ l hop out.
      let at = are.all l hop in
      let passes : is_open closed at.1 ≡ true = ap not (ap (has closed) at.3 ∙ out) in
      let j = filter-place (is_open closed) hops at.0 at.1 at.2 passes in
      (j.0, slice_get-map link_no (open_hops closed hops) j.0 ∙ (ap (λ (o : Option (LinkNo × Out)). option_map link_no o) j.1 ∙ ap (λ k. Some k) at.3));
}

-- ---- what an entry says to do
pub adj-action : (n : Net) → IsNet n → (closed : List Bool) (choice u t : ℕ) (l : LinkNo) → IsEntry n u t (Adj l) → has closed l.0 ≡ false → IsAction n closed choice u t (Crossed l, Pop)
adj-action n r closed choice u t l is out =
    λ rest. ((is.0, out, is.1, refl, inl (is.2, refl)), λ b label ne. absurd (not_adj n r u b t l.0 label is.1 is.2))

pub node-action : (n : Net) → IsNet n → (closed : List Bool) (choice u t : ℕ) (b : NodeNo) (hops : List (LinkNo × Out)) (l : LinkNo) (out : Out) → IsEntry n u t (Node b hops) → Some (l, out) ≡ chosen_hop closed choice hops → IsAction n closed choice u t (Crossed l, out)
node-action n r closed choice u t b hops l out is picked =
    let opens : List (LinkNo × Out) = open_hops closed hops in
    let place : ℕ = choice % length (open_hops closed hops) in
    let from : (is_open closed (l, out) ≡ true) × (k : ℕ) × (slice_get hops k ≡ Some (l, out)) = filter-from (is_open closed) hops (choice % length (open_hops closed hops)) (l, out) (sym picked) in
    let some : choice % length (open_hops closed hops) < length (open_hops closed hops) = slice_get_within (open_hops closed hops) (choice % length (open_hops closed hops)) (l, out) (sym picked) in
    let long : length (map link_no (open_hops closed hops)) ≡ length (open_hops closed hops) = length-map (open_hops closed hops) link_no in
    let at : slice_get (map link_no (open_hops closed hops)) (choice % length (open_hops closed hops)) ≡ Some l.0 =
    slice_get-map link_no (open_hops closed hops) (choice % length (open_hops closed hops)) ∙ ap (λ (o : Option (LinkNo × Out)). option_map link_no o) (sym picked) in
    λ rest.
    let s : Step n [] u (t ∷ rest) (Crossed l) (head n.graph l.0) (leaves out rest) =
    (entry-steps n r u t (Node b hops) is rest (Crossed l) (head n.graph l.0) (leaves out rest)).1 (from.1, (l, out), from.2, refl, refl, refl) in (
      (s.0, not_true (has closed l.0) from.0, s.2, s.3, s.4),
      λ c label ne.
          let e : b.0 ≡ c = same_node n r u b.0 c t is.0 label in (
            map link_no (open_hops closed hops),
            subst (λ (k : ℕ). AreLawful n closed u k (map link_no (open_hops closed hops))) e (open-lawful n closed u b.0 hops is.2),
            omega arith,
            ap (λ (k : ℕ). slice_get (map link_no (open_hops closed hops)) (choice % k)) long ∙ at,
          ),
    )

-- ---- where nothing is done
pub none-idle : (n : Net) (closed : List Bool) (u t : ℕ) → HasNoStep n u t → HasNoAction n closed u t
none-idle n closed u t none = λ rest m v after s. none rest m v after (step_opens n closed u (t ∷ rest) m v after s)

-- where none is picked no hop is open
no_open : (hops : List (LinkNo × Out)) (choice : ℕ) → None ≡ slice_get hops (choice % length hops) → (j : ℕ) (h : LinkNo × Out) → slice_get hops j ≡ Some h → ⊥
no_open hops choice none j h e =
    let lt : j < length hops = slice_get_within hops j h e in
    let some : 0 < length hops = omega arith in
    let there = slice_get-get_or hops (choice % length hops) h (mod_below choice (length hops) some) in
    absurd {0} (cc)

pub node-idle : (n : Net) → IsNet n → (closed : List Bool) (choice u t : ℕ) (b : NodeNo) (hops : List (LinkNo × Out)) → IsEntry n u t (Node b hops) → None ≡ chosen_hop closed choice hops → (rest : List ℕ) (m : Move) (v : ℕ) (after : List ℕ) → Step n closed u (t ∷ rest) m v after → ⊥
node-idle n r closed choice u t b hops is none rest Popped v after s = (entry-steps n r u t (Node b hops) is rest Popped v after).0 s
node-idle n r closed choice u t b hops is none rest (Crossed l) v after s =
    let a = (entry-steps n r u t (Node b hops) is rest (Crossed l) v after).0 (step_opens n closed u (t ∷ rest) (Crossed l) v after s) in
    let passes : is_open closed a.1 ≡ true = ap not (ap (has closed) a.3 ∙ s.1) in
    let j = filter-place (is_open closed) hops a.0 a.1 a.2 passes in
    no_open (open_hops closed hops) choice none j.0 a.1 j.1
