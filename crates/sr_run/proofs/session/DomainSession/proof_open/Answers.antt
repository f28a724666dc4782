use Rattle.sr_script.specs.declared.command.Command.TheVariants.{ProofOpen}
use Rattle.sr_run.specs.Certificates.{OpensDraft}
use Rattle.sr_run.specs.State.{State}
use Rattle.sr_run.proofs.HandlerLemmas.{drafted-told}
use Rattle.sr_run.proofs.session.DomainSession.proof_open.Goals as goal

pub returns-clause-told : goal.returns-clause-told
returns-clause-told c =
    let old : State = record { editing = c.self.inside.editor; current = c.self.inside.current; previous = c.self.inside.previous; draft = c.self.inside.draft } in
    drafted-told (ProofOpen c.args.repair.now) (OpensDraft c.args.repair.now) old c.args.self.now c.open_draft.new.draft _ _ _ (λ domain told next w. w) c.self.view_is c.open_draft.ensures.told
