-- Repairs deliver.
use Rattle.std.proofs.Common.{ℕ, ◌<◌, List, reverse, subst}
use Rattle.sr_model.specs.declared.case.Case.{Case}
use Rattle.sr_model.specs.declared.repair.RepairList.{RepairList}
use Rattle.sr_model.specs.declared.repair.Answer.{Answer}
use Rattle.sr_model.specs.declared.repair.Answer.TheVariants.{Least}
use Rattle.sr_model.specs.Graph.{node_count}
use Rattle.sr_model.specs.Case.{IsCase, IsAffected, source_of}
use Rattle.sr_model.specs.Label.{Net}
use Rattle.sr_model.specs.Rule.{IsNet}
use Rattle.sr_model.specs.Repair.{IsSound, path_of, IsCaseAnswer}
use Rattle.sr_model.specs.Forward.{IsStack, Delivers}
use Rattle.sr_laws.proofs.Failures.{failed-one}
use Rattle.sr_laws.proofs.Delivery.{sound-delivers, sound-meets}
use Rattle.sr_laws.proofs.StacksThere.{stack-there}
use Rattle.sr_encode.proofs.AnswerLemmas.{affected-within}
use Rattle.sr_model.specs.Audit.{AreLabelsOf}
use Rattle.sr_repair.specs.Delivery.{RepairDelivers, EachRepairDelivers, DeliverWhereListed}

-- a repair is a sound list, and the links that fail in its case are always the same: so it delivers under any labels that are its stack
pub stack-delivers : (n : Net) → IsNet n → (case : Case) (d : ℕ) (list : RepairList) (labels : List ℕ) → IsCase n.graph case → IsAffected n case d → IsCaseAnswer n case d (Least list) → IsStack n d list.first.0 list.segments labels → RepairDelivers n case d list labels
stack-delivers n r case d list labels within affected a stack =
    let source : source_of n.graph case < node_count n.graph = (r.graph.each case.link.0 within).0 in
    let end : d < node_count n.graph = affected-within n case d r.nodes affected in
    let sound : IsSound n a.failed (source_of n.graph case) d (path_of list) = a.answers.0.sound in
    record {
      delivers = λ x set.
          subst (λ y. Delivers n y (source_of n.graph case) d list.first.0 labels) (failed-one n.graph case a.failed x a.set set)
          (sound-delivers n r a.failed (source_of n.graph case) d (path_of list) labels source end sound stack);
      distinct = sound-meets n r a.failed (source_of n.graph case) d (path_of list) labels source end sound stack;
    }

-- and it has a stack
pub repair_delivers : (n : Net) → IsNet n → EachRepairDelivers n
repair_delivers n r case d list within affected a =
    let end : d < node_count n.graph = affected-within n case d r.nodes affected in
    let there = stack-there n r a.failed (source_of n.graph case) d (path_of list) end affected.index a.answers.0.sound in
    (there.0, there.1, stack-delivers n r case d list there.0 within affected a there.1)

-- so the labels of an answer that is a list deliver
pub labels-deliver : (n : Net) → IsNet n → (case : Case) (d : ℕ) (answer : Answer) (labels : List ℕ) → IsCase n.graph case → IsAffected n case d → IsCaseAnswer n case d answer → AreLabelsOf n d answer labels → DeliverWhereListed n case d answer labels
labels-deliver n r case d answer labels within affected a are = λ list is.
    stack-delivers n r case d list (reverse labels) within affected (subst (IsCaseAnswer n case d) is a) (subst (λ x. AreLabelsOf n d x labels) is are)
