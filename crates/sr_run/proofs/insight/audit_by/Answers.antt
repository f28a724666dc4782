use Rattle.std.proofs.Common.{◌≡◌, List, ◌++◌, refl, ap, ◌∙◌, subst, sym}
use Rattle.sr_model.specs.Label.{Net}
use Rattle.sr_insight.specs.declared.group.Group.{Group}
use Rattle.sr_print.specs.Insight.{AreGroupsWithin, coverage_lines}
use Rattle.sr_print.specs.Repairs.{summary_line}
use Rattle.sr_print.specs.Told.Told.{Coverage}
use Rattle.sr_print.proofs.Appended.{two_pieces}
use Rattle.sr_print.proofs.Within.{groups-within}
use Rattle.sr_run.specs.Insight.{TellsCoverage}
use Rattle.sr_run.proofs.HandlerLemmas.{puts-of}
use Rattle.sr_run.proofs.InsightLemmas.{coverage-told}
use Rattle.sr_run.proofs.insight.audit_by.Goals as goal

pub put_coverage-requires : goal.put_coverage-requires
put_coverage-requires g c =
    subst (λ (gs : List Group). AreGroupsWithin c.args.grouping c.net.result.now.graph gs) (sym c.deref.ensures.value)
    (subst (λ (n : Net). AreGroupsWithin c.args.grouping n.graph c.in_ok-groups.groups.items) (sym c.net.ensures.value)
    (groups-within c.args.grouping c.in-Ok.found.now.net.graph c.in_ok-groups.ensures.items c.in_ok-groups.groups.items c.in_ok-groups.ensures.groups_are))

pub returns : goal.returns
returns g c =
    let version = c.in-Ok.found.now in
    let groups = c.in_ok-groups.groups.items in
    let counts = c.counts.result in
    puts-of (TellsCoverage c.args.grouping) c.args.current.now version _ _ (Coverage version c.args.grouping groups counts) c.in-Ok.ensures
    (coverage-told version counts c.counts.ensures c.args.grouping groups c.net.ensures.net c.groups_add_up.ensures c.in_ok-groups.ensures)
    refl (λ number. two_pieces c.args.out.now.items c.put_coverage.new.out.items c.put_audit_counts.new.out.items (coverage_lines version.net c.args.grouping groups) (summary_line version.number counts)
    (subst (λ (n : Net). c.put_coverage.new.out.items ≡ c.args.out.now.items ++ coverage_lines n c.args.grouping groups) c.net.ensures.value (rw c.deref.ensures.value at c.in_ok-put_coverage.ensures.line))
    (c.in_ok-put_audit_counts.ensures ∙ ap (λ k. c.put_coverage.new.out.items ++ summary_line k counts) c.number.ensures))
