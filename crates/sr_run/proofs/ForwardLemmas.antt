-- What the answers on next hops, labels and walks owe.
use Rattle.std.proofs.Common.{◌≡◌, ℕ, ◌≤◌, Bool, false, List, [], ◌∷◌, refl, sym, subst, arith}
use Rattle.sr_model.specs.declared.link.LinkNo.{LinkNo}
use Rattle.sr_model.specs.Graph.{Graph, has}
use Rattle.sr_model.specs.Walk.{IsDistance, IsShortest, cost}
use Rattle.sr_model.specs.Label.{Net, IsLabel}
use Rattle.sr_model.specs.Forward.{IsWalked, RunBy}
use Rattle.sr_laws.specs.Delivery.{Arrives}
use Rattle.sr_forward.specs.Runs.{PacketArrives}
use Rattle.sr_fib.specs.Entries.{numbers}
use Rattle.sr_run.specs.Questions.{IsForwarded}

-- a shortest walk costs the distance
pub shortest-costs : (g : Graph) (x : List Bool) (u v c : ℕ) (p : List ℕ) → IsDistance g x u v c → IsShortest g x u p v → cost g p ≡ c
shortest-costs g x u v c p far shortest =
    let low : c ≤ cost g p = far.least p shortest.0 in
    let high : cost g p ≤ cost g far.reached.0 = shortest.1 far.reached.0 far.reached.1 in
    omega (arith, low, high, far.reached.2)

-- the walk of a packet without closed links
pub packet-arrives : (n : Net) (closed : List Bool) (u d label c : ℕ) (stack links : List ℕ) (v : ℕ) (after : List ℕ)
    → closed ≡ [] → stack ≡ label ∷ [] → IsLabel n u d label → IsDistance n.graph [] u d c → PacketArrives n closed u stack links v after → Arrives n [] u d [] links v after
packet-arrives n closed u d label c stack links v after none one is far arrives =
    arrives (λ l. subst (λ (x : List Bool). has x l ≡ false) (sym none) refl) d label c one is far

-- is the run that is told
pub packet-forwarded : (n : Net) (closed : List Bool) (choice u d label turns c : ℕ) (stack : List ℕ) (links : List LinkNo) (v : ℕ) (after : List ℕ)
    → closed ≡ [] → stack ≡ label ∷ [] → IsLabel n u d label → IsWalked n closed choice u stack turns (numbers links) v after → IsDistance n.graph [] u d c → Arrives n [] u d [] (numbers links) v after
    → IsForwarded n u d choice links
packet-forwarded n closed choice u d label turns c stack links v after none one is walked far arrives = record {
  label = label;
  is_label = is;
  moves = walked.moves;
  run =
      subst (λ (x : List Bool). RunBy n x choice u (label ∷ []) walked.moves d []) none
      (subst (λ (t : List ℕ). RunBy n closed choice u t walked.moves d []) one
      (subst (λ (w : ℕ). RunBy n closed choice u stack walked.moves w []) arrives.there
      (subst (λ (t : List ℕ). RunBy n closed choice u stack walked.moves v t) arrives.spent walked.run)));
  crosses = walked.crosses;
  costs = subst (λ (k : ℕ). IsDistance n.graph [] u d k) (sym (shortest-costs n.graph [] u d c (numbers links) far arrives.shortest)) far;
}
