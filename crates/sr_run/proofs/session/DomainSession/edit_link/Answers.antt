use Rattle.sr_run.specs.Handlers.{TellsStaged, edit_of}
use Rattle.sr_run.specs.State.{State}
use Rattle.sr_run.proofs.HandlerLemmas.{carries-weaker, link-told, link-missing}
use Rattle.sr_run.proofs.session.DomainSession.edit_link.Goals as goal

pub returns-in-Err-find_announced-clause-told : goal.returns-in-Err-find_announced-clause-told
returns-in-Err-find_announced-clause-told c =
    let old : State = record { editing = c.self.inside.editor; current = c.self.inside.current; previous = c.self.inside.previous; draft = c.self.inside.draft } in
    link-missing (edit_of c.args.edit) c.args.link.now old c.args.self.now c.in-Ok.found.now c.in-Err-find_announced.reason c.self.view_is c.in-Ok.ensures c.in-Err-find_announced.ensures

pub returns-clause-told : goal.returns-clause-told
returns-clause-told c =
    let old : State = record { editing = c.self.inside.editor; current = c.self.inside.current; previous = c.self.inside.previous; draft = c.self.inside.draft } in
    let staged = c.stage-staged.result in
    carries-weaker (TellsStaged staged) _ _ _ _
    (λ told is. link-told (edit_of c.args.edit) c.args.link.now old c.args.self.now c.in-Ok.found.now c.in-Ok-find_announced.found c.stage-staged.new.editor staged told c.self.view_is c.in-Ok.ensures c.in-Ok-find_announced.ensures c.stage-staged.ensures is)
    c.put_stage.ensures
