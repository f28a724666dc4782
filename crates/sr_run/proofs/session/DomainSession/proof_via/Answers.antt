use Rattle.sr_cert.specs.declared.draft.CertLine.TheVariants.{Via}
use Rattle.sr_script.specs.declared.command.Command.TheVariants.{ProofVia}
use Rattle.sr_run.specs.Certificates.{KeepsLink}
use Rattle.sr_run.specs.State.{State}
use Rattle.sr_run.proofs.HandlerLemmas.{drafted-told}
use Rattle.sr_run.proofs.session.DomainSession.proof_via.Goals as goal

pub returns-clause-told : goal.returns-clause-told
returns-clause-told c =
    let old : State = record { editing = c.self.inside.editor; current = c.self.inside.current; previous = c.self.inside.previous; draft = c.self.inside.draft } in
    drafted-told (ProofVia c.args.link.now) (KeepsLink (λ l. Via l) c.args.link.now) old c.args.self.now c.keep_via.new.draft _ _ _ (λ domain told next w. w) c.self.view_is c.keep_via.ensures.told
