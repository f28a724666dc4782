use Rattle.std.proofs.Common.{◌≡◌, ◌≢◌, ◌<◌, ◌∙◌, ap, arith}
use Rattle.sr_model.specs.Graph.{Graph, node_count, head}
use Rattle.sr_spf.specs.Trees.{hops_at}
use Rattle.sr_loads.proofs.RunLemmas.{forwarded-none, forwarded-few, forwarded-hop, forwarded-more}
use Rattle.sr_loads.proofs.forwarding.forward.Goals as goal

pub loop-turn-init : goal.loop-turn-init
loop-turn-init c = forwarded-none c.args.net.now c.graph-graph.ensures.net c.args.packet c.args.counts.now.items c.requires.packet

pub chosen_hop-link-requires-clause-some : goal.chosen_hop-link-requires-clause-some
chosen_hop-link-requires-clause-some c =
    let away : c.loop-turn.node.0 ≢ c.args.packet.to.0 = (λ e. let ne = c.if-node-packet.false in omega (arith, e, ne)) in
    forwarded-hop c.args.net.now c.graph-graph.ensures.net c.args.packet c.requires.packet c.args.counts.now.items c.loop-turn.turn c.loop-turn.counts.items c.loop-turn.node.0 c.loop-turn.invariant
    (hops_at c.args.trees.now c.loop-turn.node.0 c.args.packet.to.0) away
    (c.requires.trees.hops c.loop-turn.node.0 c.args.packet.to.0 c.loop-turn.invariant.run.within c.requires.packet.peers.to)

pub count-requires : goal.count-requires
count-requires c =
    let hops = c.requires.trees.hops c.loop-turn.node.0 c.args.packet.to.0 c.loop-turn.invariant.run.within c.requires.packet.peers.to in
    let hop = hops.each _ c.chosen_hop-link.result c.chosen_hop-link.ensures in
    omega (arith, hop.shortest.0.0, c.loop-turn.invariant.run.adds.long, c.requires.counts)

pub edge-requires : goal.edge-requires
edge-requires c =
    let hops = c.requires.trees.hops c.loop-turn.node.0 c.args.packet.to.0 c.loop-turn.invariant.run.within c.requires.packet.peers.to in
    let hop = hops.each _ c.chosen_hop-link.result c.chosen_hop-link.ensures in
    rw c.graph-graph.ensures.value hop.shortest.0.0

pub loop-turn-preserved : goal.loop-turn-preserved
loop-turn-preserved c =
    let away : c.loop-turn.node.0 ≢ c.args.packet.to.0 = (λ e. let ne = c.if-node-packet.false in omega (arith, e, ne)) in
    let end : c.edge.result.to.0 ≡ head c.args.net.now.graph c.chosen_hop-link.result.0 =
    c.edge.ensures.to ∙ ap (λ (g : Graph). head g c.chosen_hop-link.result.0) c.graph-graph.ensures.value in
    rw end
    (forwarded-more c.args.net.now c.graph-graph.ensures.net c.args.packet c.requires.packet c.args.counts.now.items c.loop-turn.turn c.loop-turn.counts.items c.loop-turn.node.0 c.loop-turn.invariant
    (hops_at c.args.trees.now c.loop-turn.node.0 c.args.packet.to.0) c.chosen_hop-link.result c.count.new.counts.items away
    (c.requires.trees.hops c.loop-turn.node.0 c.args.packet.to.0 c.loop-turn.invariant.run.within c.requires.packet.peers.to)
    c.chosen_hop-link.ensures c.count.ensures)

pub unreachable-requires : goal.unreachable-requires
unreachable-requires c =
    let e : node_count c.graph-graph.result.now ≡ node_count c.args.net.now.graph = ap node_count c.graph-graph.ensures.value in
    let few : c.loop-turn.turn < node_count c.args.net.now.graph = forwarded-few c.args.net.now c.graph-graph.ensures.net c.args.packet c.requires.packet c.args.counts.now.items c.loop-turn.turn c.loop-turn.counts.items c.loop-turn.node.0 c.loop-turn.invariant in
    omega (arith, e, few, c.loop-turn-test.false, c.node_count-turn-end.ensures.count)
