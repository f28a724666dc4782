use Rattle.std.proofs.Common.{sym, subst}
use Rattle.sr_encode.specs.declared.answers.NodeAnswer.{NodeAnswer}
use Rattle.sr_encode.specs.Answered.{AreLists}
use Rattle.sr_encode.specs.Placed.{ArePlacedLists}
use Rattle.sr_graph.specs.Failed.{FailsAsLink}
use Rattle.std.specs.Prelude.{List}
use Rattle.sr_repair.specs.Answers.{link_case, AffectsSome, IsFound}
use Rattle.sr_repair.proofs.KindLemmas.{placed-from}
use Rattle.sr_repair.proofs.KeptLemmas.{none-listed}
use Rattle.sr_repair.proofs.answers.lists_of.Goals as goal

pub returns-in-Nothing : goal.returns-in-Nothing
returns-in-Nothing c =
    let n = c.args.net.now in
    let case = c.args.case in
    let none : AffectsSome n case → ⊥ = subst (λ f. IsFound n case f) c.in-Nothing.is c.found_of.ensures in
    record { from = λ first end holds. subst (λ (list : List NodeAnswer). AreLists n case list) (sym (c.requires.none first)) (none-listed n case none) }

pub returns-in-AsLink : goal.returns-in-AsLink
returns-in-AsLink c =
    let n = c.args.net.now in
    let case = c.args.case in
    let like : FailsAsLink n.graph case = subst (λ f. IsFound n case f) c.in-AsLink.is c.found_of.ensures in
    let list : ArePlacedLists n (link_case case) c.lists_of_link.result.now = rw c.link_case.ensures at c.lists_of_link.ensures in
    placed-from n case like c.lists_of_link.result.now list
