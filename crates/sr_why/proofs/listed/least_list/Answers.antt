use Rattle.std.proofs.Common.{subst}
use Rattle.std.proofs.lemmas.Option.{MatchOption-at_some}
use Rattle.std.proofs.lemmas.Result.{IfOk-weaker}
use Rattle.sr_model.specs.declared.repair.Answer.{Answer}
use Rattle.sr_model.specs.declared.repair.RepairList.{RepairList}
use Rattle.sr_model.specs.Case.{source_of}
use Rattle.sr_laws.specs.Listed.{IsCaseListed}
use Rattle.sr_why.specs.declared.whole.WholeList.{WholeList}
use Rattle.sr_why.specs.Reasons.{IsLeastList}
use Rattle.sr_why.proofs.ListedLemmas.{list-from_listed}
use Rattle.sr_why.proofs.listed.least_list.Goals as goal

pub returns : goal.returns
returns c =
    let m = c.args.net.now in
    let case = c.args.case in
    let d = c.args.destination.0 in
    let x = c.args.post.now.failed in
    let found : IsCaseListed m case d c.unwrap.result = (MatchOption-at_some _ _ c.unwrap.result c.unwrap.ensures c.listed.ensures).1 in
    IfOk-weaker c.whole_list.result _ (IsLeastList m x (source_of m.graph case) d)
    (λ (whole : WholeList) e.
    let list : RepairList = record { first = whole.first; segments = whole.segments; cost = whole.cost } in
    list-from_listed m case x c.requires.post.failed d list (subst (λ (a : Answer). IsCaseListed m case d a) e found))
    c.whole_list.ensures
