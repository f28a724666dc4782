-- P where just the links at one node fail: the nodes towards which no shortest walk reaches that node.
use Rattle.std.proofs.Common.{◌≡◌, ◌≢◌, ℕ, ◌+◌, ◌<◌, ◌≤◌, ◌⊎◌, ⊎_elim, inl, inr, Bool, true, List, [], ◌∷◌, ◌++◌, append_assoc, refl, arith, ap, subst, sym, ◌∙◌}
use Rattle.std.proofs.lemmas.List.{append-nil}
use Rattle.sr_model.specs.Graph.{Graph, carries, head, tail, IsGraph, IsLink, link_at}
use Rattle.sr_model.specs.Walk.{IsCell, IsDistance, IsOnWay, IsShortest, IsWalk, OnShortest, Passes, cost}
use Rattle.sr_model.specs.Space.{InP}
use Rattle.sr_model.specs.Case.{Touches, IsFailedSet, end_of}
use Rattle.sr_model.specs.declared.case.Case.{Case}
use Rattle.sr_model.specs.declared.case.Kind.TheVariants.{Node as NodeKind}
use Rattle.sr_model.specs.declared.link.TheConstants.{FAR}
use Rattle.sr_walks.proofs.Walks.{IsWalk-cut, walk-end, cost-append, carries-same, carries-clear, passes-cases}
use Rattle.sr_walks.proofs.Distances.{cell-distance, distance-from_shortest, distance-self, shortest-cut, sum-from_OnShortest, walk-into, IsShortest-from_cost, InP-from_none, none-from_InP}
use Rattle.sr_spaces.specs.Failure.{IsAround}
use Rattle.sr_spaces.proofs.SpaceLemmas.{OnShortest-within}

-- the last link of a walk ends at its end
last_link : (g : Graph) (u l : ℕ) (p : List ℕ) (v : ℕ) → IsWalk g [] u (l ∷ p) v → (front : List ℕ) × (k : ℕ) × (l ∷ p ≡ front ++ k ∷ []) × (head g k ≡ v)
last_link g u l [] v a = ([], l, refl, a.3)
last_link g u l (m ∷ p) v a = let r = last_link g (head g l) m p v a.3 in (l ∷ r.0, r.1, ap (λ q. l ∷ q) r.2, r.3)

-- a shortest walk that reaches f, and doesn't both begin and end there, holds a link that begins or ends there
pub touching : (g : Graph) (u v f : ℕ) → (u ≡ f → f ≢ v) → (before after : List ℕ) → IsWalk g [] u before f → IsWalk g [] f after v → IsShortest g [] u (before ++ after) v → (l : ℕ) × Touches g l f × OnShortest g [] u v l
touching g u v f apart [] [] a b s = absurd (apart a b)
touching g u v f apart (l ∷ p) [] a b s =
    let r = last_link g u l p f a in
    (r.1, inr r.3, record { before = r.0; after = []; shortest = subst (λ q. IsShortest g [] u q v) (append-nil (l ∷ p) ∙ r.2) s })
touching g u v f apart before (l ∷ q) a b s = (l, inl b.2, record { before = before; after = q; shortest = s })

-- a shortest walk that holds such a link reaches f
pub way-from_touching : (g : Graph) (u v f l : ℕ) → Touches g l f → OnShortest g [] u v l → IsOnWay g [] u v f
way-from_touching g u v f l touch on =
    ⊎_elim
    (λ (begins : tail g l ≡ f).
    let r = IsWalk-cut g [] u on.before (l ∷ on.after) v on.shortest.0 in
    let at : r.0 ≡ f = sym r.2.2 ∙ begins in
    record {
      before = on.before;
      after = l ∷ on.after;
      to = subst (λ k. IsWalk g [] u on.before k) at r.1;
      from = subst (λ k. IsWalk g [] k (l ∷ on.after) v) at r.2;
      shortest = on.shortest;
    })
    (λ (ends : head g l ≡ f).
    let split : (on.before ++ l ∷ []) ++ on.after ≡ on.before ++ l ∷ on.after = append_assoc on.before (l ∷ []) on.after in
    let whole : IsShortest g [] u ((on.before ++ l ∷ []) ++ on.after) v = subst (λ q. IsShortest g [] u q v) (sym split) on.shortest in
    let r = IsWalk-cut g [] u (on.before ++ l ∷ []) on.after v whole.0 in
    let t = IsWalk-cut g [] u on.before (l ∷ []) r.0 r.1 in
    let at : r.0 ≡ f = sym t.2.3 ∙ ends in
    record {
      before = on.before ++ l ∷ [];
      after = on.after;
      to = subst (λ k. IsWalk g [] u (on.before ++ l ∷ []) k) at r.1;
      from = subst (λ k. IsWalk g [] k on.after v) at r.2;
      shortest = whole;
    })
    touch

-- where just the links at f fail and u isn't v, v is outside P of u where a shortest walk reaches f
pub way-outside : (g : Graph) (x : List Bool) (u v f : ℕ) → IsAround g x f → u ≢ v → IsOnWay g [] u v f → InP g x u v → ⊥
way-outside g x u v f around apart way inside =
    let t = touching g u v f (λ begins ends. apart (begins ∙ ends)) way.before way.after way.to way.from way.shortest in
    none-from_InP g x u v t.0 inside ((around t.0 (OnShortest-within g [] u v t.0 t.2)).1 t.1) t.2

-- and inside where u reaches v and none does
pub no_way-inside : (g : Graph) (x : List Bool) (u v f e : ℕ) → IsAround g x f → IsDistance g [] u v e → (IsOnWay g [] u v f → ⊥) → InP g x u v
no_way-inside g x u v f e around d none =
    InP-from_none g x u v d.reached.0 d.reached.1 (λ l within is on. none (way-from_touching g u v f l ((around l within).0 is) on))

-- a node is in its own P, since no shortest walk to itself has links
pub own-inside : (g : Graph) (x : List Bool) (u : ℕ) → IsGraph g → InP g x u u
own-inside g x u graph =
    InP-from_none g x u u [] refl (λ l within is on.
    let r = sum-from_OnShortest g [] u u l 0 (distance-self g [] u) on in
    let ends : IsLink g (link_at g l) = graph.each l within in
    omega (arith, ends.2, r.4))

-- the cells from u to f, from f to v and from u to v
module _ (g : Graph) (u v f a b e : ℕ) (first : IsCell g [] u f a) (second : IsCell g [] f v b) (whole : IsCell g [] u v e) (near : e < FAR) where
  -- where a shortest walk reaches f, they add up
  pub way-sum : IsOnWay g [] u v f → a + b ≡ e
  way-sum w =
      let r = shortest-cut g [] u w.before w.after v w.shortest in
      let at : r.0 ≡ f = walk-end g [] u w.before r.0 f r.1.0 w.to in
      let all : IsDistance g [] u v (cost g (w.before ++ w.after)) = distance-from_shortest g [] u v (w.before ++ w.after) w.shortest in
      let to : IsDistance g [] u f (cost g w.before) = subst (λ k. IsDistance g [] u k (cost g w.before)) at (distance-from_shortest g [] u r.0 w.before r.1) in
      let from : IsDistance g [] f v (cost g w.after) = subst (λ k. IsDistance g [] k v (cost g w.after)) at (distance-from_shortest g [] r.0 v w.after r.2) in
      let sum : cost g (w.before ++ w.after) ≡ cost g w.before + cost g w.after = cost-append g w.before w.after in
      let le : e ≤ cost g (w.before ++ w.after) = (whole.near near).least (w.before ++ w.after) w.shortest.0 in
      let ge : cost g (w.before ++ w.after) ≤ e = subst (λ k. cost g (w.before ++ w.after) ≤ k) (whole.near near).reached.2 (all.least (whole.near near).reached.0 (whole.near near).reached.1) in
      let same_a : a ≡ cost g w.before = cell-distance g [] u f a (cost g w.before) first to (omega arith) in
      let same_b : b ≡ cost g w.after = cell-distance g [] f v b (cost g w.after) second from (omega arith) in
      omega arith

  -- and the walk may pass f, or ends there
  pub way-passes : IsOnWay g [] u v f → (f ≡ v) ⊎ (carries g u f ≡ true)
  way-passes w =
      let r = shortest-cut g [] u w.before w.after v w.shortest in
      let at : r.0 ≡ f = walk-end g [] u w.before r.0 f r.1.0 w.to in
      ⊎_elim
      (λ none. let here : u ≡ f = subst (λ p. IsWalk g [] u p f) none w.to in inr (carries-same g u f (sym here)))
      (λ pass. ⊎_elim
      (λ none. let here : f ≡ v = subst (λ p. IsWalk g [] f p v) none w.from in inl here)
      (λ clear. inr (carries-clear g u f clear))
      (passes-cases g f w.after (subst (λ k. Passes g k w.after) at pass)))
      r.3

  -- where they add up and a walk may pass f, one reaches f
  pub sum-way : carries g u f ≡ true → a + b ≡ e → IsOnWay g [] u v f
  sum-way carry sum =
      let near_a : a < FAR = omega arith in
      let near_b : b < FAR = omega arith in
      let to = walk-into g [] u f a carry (first.near near_a) in
      let d : IsDistance g [] f v b = second.near near_b in
      record {
        before = to.0;
        after = d.reached.0;
        to = to.1;
        from = d.reached.1;
        shortest = IsShortest-from_cost g [] u v e (to.0 ++ d.reached.0) (whole.near near) (to.3 d.reached.0 v d.reached.1) (omega (arith, cost-append g to.0 d.reached.0, to.2, d.reached.2));
      }

-- each walk reaches its end
pub end-way : (g : Graph) (u v e : ℕ) → IsDistance g [] u v e → IsOnWay g [] u v v
end-way g u v e d = record {
  before = d.reached.0;
  after = [];
  to = d.reached.1;
  from = refl;
  shortest = subst (λ p. IsShortest g [] u p v) (sym (append-nil d.reached.0)) (IsShortest-from_cost g [] u v e d.reached.0 d d.reached.1 d.reached.2);
}

-- where a link is protected against a failure of the node at its end, just the links at that node fail
pub node-around : (g : Graph) (case : Case) (x : List Bool) → IsFailedSet g case x → case.kind ≡ NodeKind → IsAround g x (end_of g case)
node-around g case x set kind l within = rw kind at (set.each l within)
