use Rattle.sr_script.specs.declared.command.Command.TheVariants.{ProofRow}
use Rattle.sr_run.specs.Certificates.{KeepsRow}
use Rattle.sr_run.specs.State.{State}
use Rattle.sr_run.proofs.HandlerLemmas.{drafted-told}
use Rattle.sr_run.proofs.session.DomainSession.proof_row.Goals as goal

pub returns-clause-told : goal.returns-clause-told
returns-clause-told c =
    let old : State = record { editing = c.self.inside.editor; current = c.self.inside.current; previous = c.self.inside.previous; draft = c.self.inside.draft } in
    drafted-told (ProofRow c.args.cells) (KeepsRow c.args.cells) old c.args.self.now c.keep_row.new.draft _ _ _ (λ domain told next w. w) c.self.view_is c.keep_row.ensures.told
