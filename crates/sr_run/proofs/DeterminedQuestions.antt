-- Questions about a version are told alike: distances, next hops, labels, walks and loads.
use Rattle.std.proofs.Common.{◌≡◌, ℕ, ◌<◌, Bool, List, [], ◌∷◌, refl, sym, ap, subst, ◌∙◌, arith, inl, inr, ⊎_elim, Option, Some, None}
use Rattle.std.specs.Prelude.{slice_get}
use Rattle.sr_model.specs.declared.link.LinkNo.{LinkNo}
use Rattle.sr_model.specs.declared.entry.Move.{Move}
use Rattle.sr_model.specs.Forward.{StepBy, RunBy, crossed}
use Rattle.sr_model.specs.Graph.{Graph}
use Rattle.sr_model.specs.Label.{Net, labels_at}
use Rattle.sr_model.specs.Rule.{IsNet}
use Rattle.sr_model.specs.Walk.{Distance as IsDistanceOf}
use Rattle.sr_walks.proofs.Distances.{distance-unique}
use Rattle.sr_laws.proofs.Ascending.{ascending-one}
use Rattle.sr_laws.proofs.Choices.{step-one}
use Rattle.sr_laws.proofs.Entries.{lookup-one}
use Rattle.sr_laws.proofs.Parts.{link_is}
use Rattle.sr_laws.proofs.Stacks.{label-same}
use Rattle.sr_spf.specs.Hops.{AreNextHops}
use Rattle.sr_fib.specs.Entries.{numbers}
use Rattle.sr_loads.proofs.Uniqueness.{loads-one}
use Rattle.sr_script.specs.declared.name.EndNames.{EndNames}
use Rattle.sr_print.specs.declared.refusal.Refusal.TheVariants.{NoDestination}
use Rattle.sr_print.specs.Told.{Told}
use Rattle.sr_print.specs.Told.Told.{Distance, NextHops, Lookup, Walk, Loads}
use Rattle.sr_repair.specs.Version.{NumberedNet}
use Rattle.sr_run.specs.Questions.{IsRefused, IsForwarded, TellsDistance, TellsNextHops, TellsLookup, TellsWalk, TellsWalkOf, TellsLoads}
use Rattle.sr_run.proofs.DeterminedTold.{AreAlike, alike, alike-refused}
use Rattle.sr_run.proofs.DeterminedNames.{of-node, of-ends}
use Rattle.sr_seq.proofs.ListLemmas.{none-not_some}

-- ---- what is told

distance-one : (g : Graph) (x : List Bool) (u v : ℕ) (a b : Option ℕ) → IsDistanceOf g x u v a → IsDistanceOf g x u v b → a ≡ b
distance-one g x u v None None p q = refl
distance-one g x u v None (Some b) p q = absurd (p q.reached.0 q.reached.1)
distance-one g x u v (Some a) None p q = absurd (q p.reached.0 p.reached.1)
distance-one g x u v (Some a) (Some b) p q = ap Some (distance-unique g x u v a b p q)

hops-among : (g : Graph) (u v : ℕ) (xs ys : List LinkNo) → AreNextHops g u v xs → AreNextHops g u v ys → (i : ℕ) (l : LinkNo) → slice_get xs i ≡ Some l → (j : ℕ) × (slice_get ys j ≡ Some l)
hops-among g u v xs ys p q i l is =
    let r = q.all l.0 (p.each i l is) in
    (r.0, r.2 ∙ ap (λ (k : LinkNo). Some k) (link_is r.1 l r.3))

-- there is one list of next hops
pub hops-one : (g : Graph) (u v : ℕ) (xs ys : List LinkNo) → AreNextHops g u v xs → AreNextHops g u v ys → xs ≡ ys
hops-one g u v xs ys p q =
    ascending-one (λ (k l : LinkNo). k.0 < l.0) (λ k lt. omega (arith, lt)) (λ j k l lt more. omega (arith, lt, more)) xs ys p.ascending q.ascending
    (hops-among g u v xs ys p q) (hops-among g u v ys xs q p)

-- links are their numbers
pub numbers-one : (xs ys : List LinkNo) → numbers xs ≡ numbers ys → xs ≡ ys
numbers-one [] [] e = refl
numbers-one [] (y ∷ ys) e = absurd (cc)
numbers-one (x ∷ xs) [] e = absurd (cc)
numbers-one (x ∷ xs) (y ∷ ys) e =
    let first : x.0 ≡ y.0 = cc in
    let later : numbers xs ≡ numbers ys = cc in
    let here : x ≡ y = link_is x y first in
    let rest : xs ≡ ys = numbers-one xs ys later in
    cc

-- ---- runs that empty the stack

-- at an empty stack there is no step
no-step : (n : Net) (x : List Bool) (choice u : ℕ) (stack : List ℕ) (m : Move) (v : ℕ) (after : List ℕ) → [] ≡ stack → StepBy n x choice u stack m v after → ⊥
no-step n x choice u stack m v after e step = (subst (λ (st : List ℕ). StepBy n x choice u st m v after) (sym e) step).0

-- so a choice number has one run to the empty stack
pub emptied-one : (n : Net) → IsNet n → (x : List Bool) (choice u : ℕ) (stack : List ℕ) (ms os : List Move) (v w : ℕ) → RunBy n x choice u stack ms v [] → RunBy n x choice u stack os w [] → ms ≡ os
emptied-one n net x choice u stack [] [] v w p q = refl
emptied-one n net x choice u stack [] (o ∷ os) v w p q = absurd (no-step n x choice u stack o q.0 q.1 p.1 q.2)
emptied-one n net x choice u stack (m ∷ ms) [] v w p q = absurd (no-step n x choice u stack m p.0 p.1 q.1 p.2)
emptied-one n net x choice u stack (m ∷ ms) (o ∷ os) v w p q =
    let s = step-one n net x choice u stack m o p.0 q.0 p.1 q.1 p.2 q.2 in
    let here : m ≡ o = s.0 in
    let there : RunBy n x choice p.0 p.1 os w [] =
    subst (λ (k : ℕ). RunBy n x choice k p.1 os w []) (sym s.1) (subst (λ (st : List ℕ). RunBy n x choice q.0 st os w []) (sym s.2) q.3) in
    let rest : ms ≡ os = emptied-one n net x choice p.0 p.1 ms os v w p.3 there in
    cc

-- the packet of a node's label crosses one list of links
forwarded-one : (n : Net) → IsNet n → (first second choice : ℕ) (links more : List LinkNo) → IsForwarded n first second choice links → IsForwarded n first second choice more → links ≡ more
forwarded-one n net first second choice links more p q =
    let label : q.label ≡ p.label = label-same n first second q.label p.label q.is_label p.is_label in
    let run : RunBy n [] choice first (p.label ∷ []) q.moves second [] = subst (λ (t : ℕ). RunBy n [] choice first (t ∷ []) q.moves second []) label q.run in
    let moves : p.moves ≡ q.moves = emptied-one n net [] choice first (p.label ∷ []) p.moves q.moves second second p.run run in
    numbers-one links more (sym p.crosses ∙ ap crossed moves ∙ q.crosses)

-- ---- the questions

module _ (version : NumberedNet) (net : IsNet version.net) (a b : Told) where
  -- the distance
  pub distance-alike : (ends : EndNames) → TellsDistance ends version a → TellsDistance ends version b → AreAlike a b
  distance-alike ends =
      of-ends (AreAlike a b) (IsRefused a) (IsRefused b) (alike-refused a b) version.net.graph net.named ends _ _
      (λ u v x y. alike a b (Distance x.0) (Distance y.0) x.2 y.2 (ap Distance (distance-one version.net.graph [] u v x.0 y.0 x.1 y.1)))

  -- the next hops
  pub hops-alike : (ends : EndNames) → TellsNextHops ends version a → TellsNextHops ends version b → AreAlike a b
  hops-alike ends =
      of-ends (AreAlike a b) (IsRefused a) (IsRefused b) (alike-refused a b) version.net.graph net.named ends _ _
      (λ u v x y. alike a b (NextHops version.net x.0) (NextHops version.net y.0) x.2 y.2 (ap (NextHops version.net) (hops-one version.net.graph u v x.0 y.0 x.1 y.1)))

  -- what a label does
  pub lookup-alike : (system label : ℕ) → TellsLookup system label version a → TellsLookup system label version b → AreAlike a b
  lookup-alike system label =
      of-node (AreAlike a b) (IsRefused a) (IsRefused b) (alike-refused a b) version.net.graph net.named system _ _
      (λ v x y. alike a b (Lookup version.net x.0) (Lookup version.net y.0) x.2 y.2 (ap (Lookup version.net) (lookup-one version.net net v label x.0 y.0 x.1 y.1)))

  walk-between : (from to choice : ℕ) → TellsWalkOf version.net from to choice a → TellsWalkOf version.net from to choice b → AreAlike a b
  walk-between from to choice (inl x) (inl y) = alike a b (Walk version.net from None) (Walk version.net from None) x.1 y.1 refl
  walk-between from to choice (inl x) (inr y) = absurd (x.0 y.1.costs.reached.0 y.1.costs.reached.1)
  walk-between from to choice (inr x) (inl y) = absurd (y.0 x.1.costs.reached.0 x.1.costs.reached.1)
  walk-between from to choice (inr x) (inr y) =
      alike a b (Walk version.net from (Some x.0)) (Walk version.net from (Some y.0)) x.2 y.2
      (ap (λ (links : List LinkNo). Walk version.net from (Some links)) (forwarded-one version.net net from to choice x.0 y.0 x.1 y.1))

  -- the walk of a packet
  pub walk-alike : (ends : EndNames) (choice : ℕ) → TellsWalk ends choice version a → TellsWalk ends choice version b → AreAlike a b
  walk-alike ends choice =
      of-ends (AreAlike a b) (IsRefused a) (IsRefused b) (alike-refused a b) version.net.graph net.named ends _ _
      (λ from to x y.
      ⊎_elim
      (λ none. ⊎_elim (λ also. alike-refused a b (NoDestination ends.to) none.1 also.1) (λ there. absurd (none-not_some (labels_at version.net to).index none.0 there.0)) y)
      (λ there. ⊎_elim (λ none. absurd (none-not_some (labels_at version.net to).index none.0 there.0)) (λ also. walk-between from to choice there.1 also.1) y)
      x)

  -- the loads of the links
  pub loads-alike : (each : ℕ) → TellsLoads each version a → TellsLoads each version b → AreAlike a b
  loads-alike each x y =
      alike a b (Loads version.net x.0) (Loads version.net y.0) x.2 y.2
      (ap (Loads version.net) (loads-one version.net net each x.0 y.0 x.1 y.1))
