use Rattle.std.proofs.Common.{◌≡◌, true, rules}
use Rattle.std.specs.Prelude.{None, is_some}
use Rattle.sr_model.specs.Label.{labels_at}
use Rattle.sr_run.proofs.NameLemmas.{fails-affected, lacks-index, lacks-effect}
use Rattle.sr_run.proofs.names.find_affected.Goals as goal

pub returns-in-Err : goal.returns-in-Err
returns-in-Err c = fails-affected c.args.version.now.net c.args.repair.now c.in-Err.reason c.in-Err.ensures

pub returns-then-is_none : goal.returns-then-is_none
returns-then-is_none c =
    let none : (labels_at c.args.version.now.net c.in-Ok.failure.destination.0).index ≡ None = search rules in
    lacks-index c.args.version.now.net c.args.repair.now c.in-Ok.failure.case c.in-Ok.failure.destination.0 c.in-Ok.ensures none

pub returns-in-None : goal.returns-in-None
returns-in-None c =
    let some : is_some (labels_at c.args.version.now.net c.in-Ok.failure.destination.0).index ≡ true = search rules in
    lacks-effect c.args.version.now.net c.args.repair.now c.in-Ok.failure.case c.in-Ok.failure.destination.0 c.in-Ok.ensures some c.in-None.ensures
