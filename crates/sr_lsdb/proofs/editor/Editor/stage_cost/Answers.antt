use Rattle.std.proofs.Common.{◌<◌, arith}
use Rattle.sr_lsdb.specs.Edit.Edit.{SetCost}
use Rattle.sr_lsdb.proofs.DraftLemmas.{AreSteadySides-staged}
use Rattle.sr_lsdb.proofs.editor.Editor.stage_cost.Goals as goal

pub invariant_of-self-2 : goal.invariant_of-self-2
invariant_of-self-2 c =
    let room : c.self.inside.staged < 4096 = omega arith in
    AreSteadySides-staged (SetCost c.args.key.now c.args.metric) c.self.inside.sides c.set_cost.new.self c.self.inside.staged (c.requires.positive, c.requires.in_use) c.self.invariant room c.set_cost.ensures.accepted c.set_cost.ensures.noted c.in_ok-set_cost.ensures.ok
