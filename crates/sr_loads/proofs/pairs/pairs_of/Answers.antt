use Rattle.std.proofs.Common.{◌≡◌, arith, ap}
use Rattle.sr_model.specs.Graph.{node_count}
use Rattle.sr_loads.proofs.PairOrder.{pairs-none, pairs-all}
use Rattle.sr_loads.proofs.pairs.pairs_of.Goals as goal

pub loop-from-init : goal.loop-from-init
loop-from-init c = rw c.in_ok-pairs.ensures.items (pairs-none c.args.net.now)

pub returns : goal.returns
returns c =
    let e : node_count c.graph.result.now ≡ node_count c.args.net.now.graph = ap node_count c.graph.ensures.value in
    let count : c.loop-from.from ≡ node_count c.args.net.now.graph = omega arith in
    pairs-all c.args.net.now c.loop-from.from c.loop-from.pairs.items count c.loop-from.invariant
