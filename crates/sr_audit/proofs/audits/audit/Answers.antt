use Rattle.std.proofs.Common.{◌≡◌, ◌∙◌, ap, sym, subst}
use Rattle.sr_model.specs.Audit.{IsAudit}
use Rattle.sr_repair.specs.Answers.{case_count}
use Rattle.sr_audit.proofs.JoinLemmas.{audit-joined}
use Rattle.sr_audit.proofs.audits.audit.Goals as goal

pub returns-clause-audit : goal.returns-clause-audit
returns-clause-audit g c =
    let net = c.args.version.now.net in
    let count : c.case_count-count.result ≡ case_count net.graph = c.case_count-count.ensures.count ∙ ap case_count (c.graph.ensures.value ∙ ap (λ n. n.graph) c.net.ensures.value) in
    let audit = audit-joined net c.in_ok-lists.lists.items (rw count at c.in_ok-lists.ensures.audits) in
    rw c.new.ensures (subst (IsAudit net) (sym c.in_ok-items.ensures) audit)
