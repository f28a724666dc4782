-- What the answers on the walks of repaired packets owe.
use Rattle.std.proofs.Common.{◌≡◌, ℕ, ◌<◌, Bool, List, [], ◌∷◌, ap, sym, subst}
use Rattle.sr_model.specs.declared.case.Case.{Case}
use Rattle.sr_model.specs.declared.link.LinkNo.{LinkNo}
use Rattle.sr_model.specs.declared.repair.Answer.TheVariants.{Least}
use Rattle.sr_model.specs.declared.repair.RepairList.{RepairList}
use Rattle.sr_model.specs.Graph.{node_count, head}
use Rattle.sr_model.specs.Case.{IsCase, IsFailedSet, source_of}
use Rattle.sr_model.specs.Forward.{IsStack, IsWalked, RunBy}
use Rattle.sr_model.specs.Label.{Net}
use Rattle.sr_model.specs.Repair.{IsAnswer, IsCaseAnswer, path_of}
use Rattle.sr_model.specs.Rule.{IsNet}
use Rattle.sr_laws.specs.Delivery.{Arrives}
use Rattle.sr_laws.proofs.Failures.{failed-one}
use Rattle.sr_forward.specs.Runs.{RepairArrives}
use Rattle.sr_fib.specs.Entries.{numbers}
use Rattle.sr_run.specs.Failures.{IsRepairWalked}
use Rattle.sr_run.proofs.ForwardLemmas.{shortest-costs}

-- the packet of a repair that goes on from the end of the first link under the stack is walked
pub repair-walked : (n : Net) (case : Case) (d choice : ℕ) (list : RepairList) (labels : List ℕ) (closed : List Bool) (start turns : ℕ) (links : List LinkNo) (v : ℕ) (after : List ℕ)
    → IsNet n → IsCase n.graph case → d < node_count n.graph → IsCaseAnswer n case d (Least list) → IsStack n d list.first.0 list.segments labels → IsFailedSet n.graph case closed → start ≡ head n.graph list.first.0
    → IsWalked n closed choice start labels turns (numbers links) v after → RepairArrives n closed start labels (numbers links) v after → IsRepairWalked n case d choice (list.first ∷ links)
repair-walked n case d choice list labels closed start turns links v after net within destination answer stack failed at walked arrives =
    let is : IsAnswer n closed (source_of n.graph case) d (Least list) = subst (λ (x : List Bool). IsAnswer n x (source_of n.graph case) d (Least list)) (failed-one n.graph case answer.failed closed answer.set failed) answer.answers in
    let comes : Arrives n closed (source_of n.graph case) d (list.first.0 ∷ []) (numbers links) v after = arrives (source_of n.graph case) d (path_of list) (net.graph.each case.link.0 within).0 destination is.0.sound at stack in
    record {
      list = list;
      answer = answer;
      labels = labels;
      stack = stack;
      x = closed;
      failed = failed;
      moves = walked.moves;
      run =
          subst (λ (u : ℕ). RunBy n closed choice u labels walked.moves d []) at
          (subst (λ (w : ℕ). RunBy n closed choice start labels walked.moves w []) comes.there
          (subst (λ (t : List ℕ). RunBy n closed choice start labels walked.moves v t) comes.spent walked.run));
      crosses = ap (λ (ls : List ℕ). list.first.0 ∷ ls) (sym walked.crosses);
      costs = shortest-costs n.graph closed (source_of n.graph case) d list.cost (list.first.0 ∷ numbers links) is.2 comes.shortest;
    }
