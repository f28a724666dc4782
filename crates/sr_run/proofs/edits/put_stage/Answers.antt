use Rattle.std.proofs.Common.{ℕ, sym, subst, refl}
use Rattle.std.specs.declared.result.Result.{Result}
use Rattle.sr_lsdb.specs.declared.stage_fault.StageFault.{StageFault}
use Rattle.sr_print.specs.Told.Told.{Staged}
use Rattle.sr_run.specs.Handlers.{TellsStaged}
use Rattle.sr_run.proofs.edits.put_stage.Goals as goal

pub returns-in_ok-put_staged-in-Ok : goal.returns-in_ok-put_staged-in-Ok
returns-in_ok-put_staged-in-Ok c = record {
  told = Staged c.in-Ok.count;
  is = subst (λ (r : Result ℕ StageFault). TellsStaged r (Staged c.in-Ok.count)) (sym c.in-Ok.is) refl;
  accepted = refl;
  appended = λ number. c.in_ok-put_staged-in-Ok.ensures.line;
}
