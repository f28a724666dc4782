-- Questions are told alike, of the last version and of one that is tried.
use Rattle.std.proofs.Common.{◌≡◌, ◌+◌, length, Option, IfSome, sym, ap, subst, ◌∙◌, arith, inl, inr}
use Rattle.sr_model.specs.declared.rule.DomainRule.{DomainRule}
use Rattle.sr_model.specs.Label.{Net}
use Rattle.sr_model.specs.Rule.{IsNet}
use Rattle.sr_laws.proofs.Accepted.{net-from_accepted}
use Rattle.sr_lsdb.specs.declared.facts.Facts.{Facts}
use Rattle.sr_script.specs.declared.command.Command.{Command}
use Rattle.sr_script.specs.declared.command.Command.TheVariants.{Dist, Next, Label, Spaces, Repair, AdjRepair, AdjBackup, Walk, WalkRepair, Load, Audit, AuditFull, Nodes, Links, Aside, AuditBy, AuditLabels, RepairCase, FailsNode, Diff}
use Rattle.sr_print.specs.declared.refusal.Refusal.TheVariants.{VersionsFull, Rule}
use Rattle.sr_print.specs.Told.{Told}
use Rattle.sr_print.specs.Told.Told.{Refused}
use Rattle.sr_repair.specs.Version.{NumberedNet, version_of}
use Rattle.sr_run.specs.Domain.{Domain, last_version, with_tried}
use Rattle.sr_run.specs.Asked.{TellsQuestion}
use Rattle.sr_run.specs.Tries.{Tries}
use Rattle.sr_run.proofs.DeterminedTold.{AreAlike, AreOne, alike, one-refused}
use Rattle.sr_domain.proofs.DeterminedRules.{fault-one, broken-no_net}
use Rattle.sr_domain.proofs.DeterminedNets.{net-one}
use Rattle.sr_run.proofs.DeterminedQuestions.{distance-alike, hops-alike, lookup-alike, walk-alike, loads-alike}
use Rattle.sr_run.proofs.DeterminedInsight.{nodes-alike, links-alike, asides-alike, coverage-alike, stacks-alike, case-repairs-alike, node-repairs-alike}
use Rattle.sr_run.proofs.DeterminedDifferences.{diff-alike}
use Rattle.sr_run.proofs.DeterminedFailures.{spaces-alike, repair-alike, adjrepair-alike, adjbackup-alike, repair-walk-alike, summary-alike, audit-alike}

-- a question about a version; the last clause serves all commands that are none
pub question-alike : (question : Command) (facts : Facts) (previous : Option NumberedNet) → IfSome previous (λ v. IsNet v.net) → (version : NumberedNet) → IsNet version.net → (a b : Told)
    → TellsQuestion question facts previous version a → TellsQuestion question facts previous version b → AreAlike a b
question-alike (Dist ends) facts previous before version net a b p q = distance-alike version net a b ends p q
question-alike (Next ends) facts previous before version net a b p q = hops-alike version net a b ends p q
question-alike (Label node label) facts previous before version net a b p q = lookup-alike version net a b node label p q
question-alike (Spaces repair) facts previous before version net a b p q = spaces-alike version net a b repair p q
question-alike (Repair repair) facts previous before version net a b p q = repair-alike version net a b repair p q
question-alike (RepairCase kind link) facts previous before version net a b p q = case-repairs-alike version net a b kind link p q
question-alike (FailsNode node) facts previous before version net a b p q = node-repairs-alike version net a b node p q
question-alike (AdjRepair link) facts previous before version net a b p q = adjrepair-alike version net a b link facts p q
question-alike (AdjBackup link) facts previous before version net a b p q = adjbackup-alike version net a b link facts p q
question-alike (Walk ends choice) facts previous before version net a b p q = walk-alike version net a b ends choice p q
question-alike (WalkRepair repair choice) facts previous before version net a b p q = repair-walk-alike version net a b repair choice p q
question-alike (Load workers each) facts previous before version net a b p q = loads-alike version net a b each p q
question-alike Audit facts previous before version net a b p q = summary-alike version net a b p q
question-alike AuditFull facts previous before version net a b p q = audit-alike version net a b p q
question-alike (AuditBy grouping) facts previous before version net a b p q = coverage-alike version net a b grouping p q
question-alike AuditLabels facts previous before version net a b p q = stacks-alike version net a b p q
question-alike Nodes facts previous before version net a b p q = nodes-alike version net a b p q
question-alike Links facts previous before version net a b p q = links-alike version net a b facts p q
question-alike Aside facts previous before version net a b p q = asides-alike version net a b facts p q
question-alike (Diff number) facts previous before version net a b p q = diff-alike version net previous before a b number p q
question-alike command facts previous before version net a b p q = absurd p

-- a question that is tried is refused for one reason, or put to one net
pub tries-one : (question : Command) (old : Domain) → IfSome (last_version old.nets) (λ v. IsNet v.net) → (a b : Told) (new next : Domain) → Tries question old a new → Tries question old b next → AreOne a b new next
tries-one question old before a b new next (inl p) (inl q) = one-refused old a b new next VersionsFull p.1 q.1
tries-one question old before a b new next (inl p) (inr q) = absurd (omega (arith, p.0, q.0))
tries-one question old before a b new next (inr p) (inl q) = absurd (omega (arith, p.0, q.0))
tries-one question old before a b new next (inr (room, inl p)) (inr (more, inl q)) =
    let e : p.rule ≡ q.rule = fault-one old.editing.tentative p.rule q.rule p.broken q.broken in
    record { told = alike a b (Refused (Rule p.rule)) (Refused (Rule q.rule)) p.refused.0 q.refused.0 (ap (λ (r : DomainRule). Refused (Rule r)) e); state = p.refused.1 ∙ sym q.refused.1 }
tries-one question old before a b new next (inr (room, inl p)) (inr (more, inr q)) = absurd (broken-no_net old.editing.tentative p.rule q.net p.broken q.is_net)
tries-one question old before a b new next (inr (room, inr p)) (inr (more, inl q)) = absurd (broken-no_net old.editing.tentative q.rule p.net q.broken p.is_net)
tries-one question old before a b new next (inr (room, inr p)) (inr (more, inr q)) =
    let e : p.net ≡ q.net = net-one old.editing.tentative p.net q.net p.is_net q.is_net in
    let one : TellsQuestion question old.editing.tentative (last_version old.nets) (version_of (length old.nets + 1) q.net) a = subst (λ (n : Net). TellsQuestion question old.editing.tentative (last_version old.nets) (version_of (length old.nets + 1) n) a) e p.tells in
    record {
      told = question-alike question old.editing.tentative (last_version old.nets) before (version_of (length old.nets + 1) q.net) (net-from_accepted q.net q.is_net.accepted) a b one q.tells;
      state = p.tried ∙ ap (with_tried old) e ∙ sym q.tried;
    }
