use Rattle.std.proofs.lemmas.Result.{IfOk-weaker}
use Rattle.sr_audit.proofs.CaseLemmas.{items-audit, items-few}
use Rattle.sr_audit.proofs.audits.case_items.Goals as goal

pub returns-clause-audit : goal.returns-clause-audit
returns-clause-audit c =
    IfOk-weaker c.items_of.result _ _
    (λ items zip. items-audit c.args.version.now.net c.args.case c.answers.result items.items c.requires c.answers.ensures zip)
    (rw c.net.ensures.value at c.items_of.ensures)

pub returns-clause-few : goal.returns-clause-few
returns-clause-few c =
    IfOk-weaker c.items_of.result _ _
    (λ items zip. items-few c.args.version.now.net c.args.case c.answers.result items.items c.net.ensures.net c.answers.ensures zip)
    (rw c.net.ensures.value at c.items_of.ensures)
