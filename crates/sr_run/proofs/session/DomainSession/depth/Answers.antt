use Rattle.sr_lsdb.specs.Edit.Edit.{SetDepth}
use Rattle.sr_run.specs.Handlers.{TellsStaged}
use Rattle.sr_run.specs.State.{State}
use Rattle.sr_run.proofs.HandlerLemmas.{carries-weaker, stages-told}
use Rattle.sr_run.proofs.session.DomainSession.depth.Goals as goal

pub returns-clause-told : goal.returns-clause-told
returns-clause-told c =
    let old : State = record { editing = c.self.inside.editor; current = c.self.inside.current; previous = c.self.inside.previous; draft = c.self.inside.draft } in
    let staged = c.stage_depth-staged.result in
    carries-weaker (TellsStaged staged) _ _ _ _
    (λ told is. stages-told (SetDepth c.args.depth) old c.args.self.now c.stage_depth-staged.new.self staged told c.self.view_is c.stage_depth-staged.ensures is)
    c.put_stage.ensures
