use Rattle.std.proofs.Common.{sym, subst}
use Rattle.std.specs.Prelude.{List}
use Rattle.sr_encode.specs.declared.answers.NodeAnswer.{NodeAnswer}
use Rattle.sr_encode.specs.Answered.{AreLists}
use Rattle.sr_repair.specs.Answers.{AffectsSome, IsFound}
use Rattle.sr_repair.proofs.KeptLemmas.{none-listed}
use Rattle.sr_repair.proofs.answers.lists_of_link.Goals as goal

pub returns-in-Nothing : goal.returns-in-Nothing
returns-in-Nothing c =
    let n = c.args.net.now in
    let case = c.args.case in
    let none : AffectsSome n case → ⊥ = subst (λ f. IsFound n case f) c.in-Nothing.is c.found_of.ensures in
    record { from = λ first end holds. subst (λ (list : List NodeAnswer). AreLists n case list) (sym (c.requires.none first)) (none-listed n case none) }
