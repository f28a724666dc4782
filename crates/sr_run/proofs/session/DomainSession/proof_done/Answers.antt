use Rattle.sr_script.specs.declared.command.Command.TheVariants.{ProofDone}
use Rattle.sr_run.specs.Certificates.{DecidesDraft}
use Rattle.sr_run.specs.State.{State}
use Rattle.sr_run.proofs.HandlerLemmas.{drafted-told}
use Rattle.sr_run.proofs.session.DomainSession.proof_done.Goals as goal

pub returns-clause-told : goal.returns-clause-told
returns-clause-told c =
    let old : State = record { editing = c.self.inside.editor; current = c.self.inside.current; previous = c.self.inside.previous; draft = c.self.inside.draft } in
    drafted-told (ProofDone c.args.labels) (DecidesDraft c.args.labels) old c.args.self.now c.decide.new.draft _ _ _ (λ domain told next w. w) c.self.view_is c.decide.ensures.told
