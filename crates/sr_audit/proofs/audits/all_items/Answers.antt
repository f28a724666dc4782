use Rattle.std.proofs.Common.{arith}
use Rattle.std.specs.Global.{Vec}
use Rattle.std.proofs.lemmas.Result.{IfOk-weaker}
use Rattle.sr_model.specs.declared.audit.Item.{Item}
use Rattle.sr_audit.proofs.JoinLemmas.{few-joined}
use Rattle.sr_audit.proofs.audits.all_items.Goals as goal

pub returns-clause-audits : goal.returns-clause-audits
returns-clause-audits g c = c.made_of_each.ensures

pub returns-clause-few : goal.returns-clause-few
returns-clause-few g c = IfOk-weaker c.made_of_each.result _ _
    (λ (lists : Vec (Vec Item)) zip. let few = few-joined c.args.version.now.net 0 c.args.count lists.items zip in omega (arith, few, c.requires.few))
    c.made_of_each.ensures
