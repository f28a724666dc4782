use Rattle.std.proofs.Common.{◌≡◌, ◌∙◌, ℕ, true, false, sym, arith, ap}
use Rattle.sr_model.specs.Graph.{node_count}
use Rattle.sr_loads.proofs.PairOrder.{pairs-push, pairs-skip, pairs-from}
use Rattle.sr_loads.proofs.pairs.push_from.Goals as goal
use Rattle.sr_loads.proofs.pairs.push_from.Goals.{then-are_peers+in_ok-push, else-are_peers}

pub returns : goal.returns
returns c =
    let e : node_count c.graph.result.now ≡ node_count c.args.net.now.graph = ap node_count c.graph.ensures.value in
    let count : c.loop-number.number ≡ node_count c.args.net.now.graph = omega arith in
    pairs-from c.args.net.now c.args.from.0 c.loop-number.number c.loop-number.pairs.items count c.loop-number.invariant

pub loop-number-preserved : goal.loop-number-preserved
loop-number-preserved c =
    let a : ℕ = c.args.from.0 in
    let d : ℕ = c.loop-number.number in
    let pairs = c.loop-number.pairs.items in
    elim c.if-are_peers.branch [
      | then-are_peers+in_ok-push w ↦
          rw (w.pairs-is, w.in_ok-push.ensures.items) (pairs-push c.args.net.now a d pairs (c.are_peers.ensures.0 w.if-are_peers.true) c.loop-number.invariant)
      | else-are_peers w ↦
          rw w.pairs-is (pairs-skip c.args.net.now a d pairs (λ peers. let bad : false ≡ true = sym w.if-are_peers.false ∙ c.are_peers.ensures.1 peers in cc) c.loop-number.invariant)
    ]
