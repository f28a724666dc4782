use Rattle.std.proofs.Common.{◌≡◌, ◌↔◌, IsTrue, List, Bool, length, arith}
use Rattle.sr_model.specs.Graph.{node_count}
use Rattle.sr_model.specs.Case.{IsFailedSet}
use Rattle.sr_model.specs.Label.{Net}
use Rattle.sr_delta.specs.Idle.{AreIdleOrFailed}
use Rattle.sr_delta.proofs.SteadyLemmas.{idle-from_steady}
use Rattle.sr_delta.proofs.FailureLemmas.{failed-exists}
use Rattle.sr_delta.proofs.early.may_stay.Goals as goal

pub are_idle_or_failed-requires-clause-within : goal.are_idle_or_failed-requires-clause-within
are_idle_or_failed-requires-clause-within c = λ k lt.
    let ends = c.links.ensures.within k lt in
    let x : (x : List Bool) × IsFailedSet c.args.net.now.graph c.args.case x = failed-exists c.args.net.now.graph c.args.case in
    let long : length c.args.cells.now ≡ node_count c.args.net.now.graph = (c.requires.row x.0 x.1).long in
    (omega (arith, ends.0, long, c.requires.nodes), omega (arith, ends.1, long, c.requires.nodes))

pub returns : goal.returns
returns c = λ m changes same steady.
    let n : Net = c.args.net.now in
    let idle : IsTrue c.are_idle_or_failed.result ↔ AreIdleOrFailed n.graph c.args.case c.args.cells.now c.args.changes.now.links =
    rw (c.graph.ensures.value, c.links.ensures.links) at c.are_idle_or_failed.ensures in
    idle.1 (idle-from_steady n m c.args.case c.args.cells.now c.args.changes.now c.requires.row changes same steady)
