use Rattle.std.proofs.Common.{◌++◌, refl, ap, ◌∙◌}
use Rattle.sr_print.specs.Insight.{stack_lines}
use Rattle.sr_print.specs.Repairs.{summary_line}
use Rattle.sr_print.specs.Told.Told.{Stacks}
use Rattle.sr_print.proofs.Appended.{two_pieces}
use Rattle.sr_run.specs.Insight.{TellsStacks}
use Rattle.sr_run.proofs.HandlerLemmas.{puts-of}
use Rattle.sr_run.proofs.InsightLemmas.{stacks-told}
use Rattle.sr_run.proofs.insight.audit_labels.Goals as goal

pub returns : goal.returns
returns g c =
    let version = c.in-Ok.found.now in
    let stacks = c.in_ok-stacks.stacks.items in
    let counts = c.counts.result in
    puts-of TellsStacks c.args.current.now version _ _ (Stacks version.number stacks counts) c.in-Ok.ensures
    (stacks-told version counts c.counts.ensures stacks c.in_ok-stacks.ensures)
    refl (λ number. two_pieces c.args.out.now.items c.put_stacks.new.out.items c.put_audit_counts.new.out.items (stack_lines stacks) (summary_line version.number counts)
    (rw c.deref.ensures.value at c.in_ok-put_stacks.ensures.line)
    (c.in_ok-put_audit_counts.ensures ∙ ap (λ k. c.put_stacks.new.out.items ++ summary_line k counts) c.number.ensures))
