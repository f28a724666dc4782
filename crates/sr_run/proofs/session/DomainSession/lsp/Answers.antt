use Rattle.sr_run.specs.Handlers.{TellsStaged}
use Rattle.sr_run.specs.State.{State}
use Rattle.sr_run.proofs.HandlerLemmas.{carries-weaker, pdu-told}
use Rattle.sr_run.proofs.session.DomainSession.lsp.Goals as goal

pub returns-in-Ok-clause-told : goal.returns-in-Ok-clause-told
returns-in-Ok-clause-told c =
    let old : State = record { editing = c.self.inside.editor; current = c.self.inside.current; previous = c.self.inside.previous; draft = c.self.inside.draft } in
    let staged = c.stage_lsp-staged.result in
    carries-weaker (TellsStaged staged) _ _ _ _
    (λ told is. pdu-told c.args.octets.now c.in-Ok.lsp old c.args.self.now c.stage_lsp-staged.new.self staged told c.self.view_is c.in-Ok.ensures.says c.stage_lsp-staged.ensures is)
    c.put_stage.ensures
