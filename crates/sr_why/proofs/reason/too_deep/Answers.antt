use Rattle.std.proofs.Common.{subst}
use Rattle.std.proofs.lemmas.Option.{MatchOption-at_some}
use Rattle.sr_model.specs.declared.repair.Answer.{Answer}
use Rattle.sr_model.specs.declared.repair.RepairList.{RepairList}
use Rattle.sr_model.specs.Case.{IsAffected}
use Rattle.sr_laws.specs.Listed.{IsCaseListed}
use Rattle.sr_why.proofs.ListedLemmas.{deep-listed, list-from_listed}
use Rattle.sr_why.proofs.ReasonLemmas.{reason-too_deep}
use Rattle.sr_why.proofs.reason.too_deep.Goals.{After-unwrap-listed}
use Rattle.sr_why.proofs.reason.too_deep.Goals as goal

-- what is listed
listed : (c : After-unwrap-listed) → IsCaseListed c.args.version.now.net c.args.case c.args.destination.0 c.unwrap-listed.result
listed c =
    let n = c.args.version.now.net in
    let d = c.args.destination.0 in
    (MatchOption-at_some (IsAffected n c.args.case d → ⊥) (λ (answer : Answer). IsAffected n c.args.case d × IsCaseListed n c.args.case d answer) c.unwrap-listed.result c.unwrap-listed.ensures c.listed.ensures).1

pub whole_list-requires : goal.whole_list-requires
whole_list-requires c =
    deep-listed c.args.version.now.net c.args.case c.args.destination.0 c.requires.answer.1.0 c.requires.answer.1.1 c.unwrap-listed.result (listed (goal.at.whole_list-requires c).After-unwrap-listed)

pub returns : goal.returns
returns c =
    let n = c.args.version.now.net in
    let case = c.args.case in
    let d = c.args.destination.0 in
    let i = c.requires.answer.1.1 in
    let list : RepairList = record { first = c.in_ok-list.list.first; segments = c.in_ok-list.list.segments; cost = c.in_ok-list.list.cost } in
    reason-too_deep n case d c.requires.answer.1.0 i c.in_ok-list.list
    (list-from_listed n case i.failed i.set d list (subst (λ (a : Answer). IsCaseListed n case d a) c.in_ok-list.ensures (listed (goal.at.returns c).After-unwrap-listed)))
