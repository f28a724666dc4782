use Rattle.std.proofs.Common.{◌++◌, refl, ◌∙◌, ap}
use Rattle.sr_model.specs.declared.audit.Counts.{Counts}
use Rattle.sr_model.specs.Audit.{counts_of}
use Rattle.sr_print.specs.Repairs.{summary_line}
use Rattle.sr_print.specs.Told.Told.{Summary}
use Rattle.sr_run.specs.Failures.{TellsSummary}
use Rattle.sr_run.proofs.HandlerLemmas.{puts-of}
use Rattle.sr_run.proofs.audits.audit_counts.Goals as goal

pub returns : goal.returns
returns c =
    let version = c.in-Ok.found.now in
    let counted = c.counts.ensures in
    puts-of TellsSummary c.args.current.now version _ _ (Summary version.number (counts_of counted.items)) c.in-Ok.ensures (counted.items, counted.audit, refl) refl
    (λ number. c.in_ok-put_audit_counts.ensures ∙ ap (λ k. c.args.out.now.items ++ summary_line k c.counts.result) c.number.ensures ∙ ap (λ (k : Counts). c.args.out.now.items ++ summary_line version.number k) counted.counted)
