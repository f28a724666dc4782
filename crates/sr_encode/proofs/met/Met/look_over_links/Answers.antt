use Rattle.std.proofs.Common.{◌≡◌, ◌+◌, ◌<◌, length, arith, ap, sym, ◌∙◌}
use Rattle.sr_model.specs.Graph.{node_count}
use Rattle.sr_graph.specs.Ranges.{HoldsLinks}
use Rattle.sr_encode.specs.declared.waypoint.Waypoint.{Waypoint}
use Rattle.sr_encode.specs.Waypoints.{waypoint_node}
use Rattle.sr_encode.proofs.QueueLemmas.{extends-same, searching-upto, searching-past}
use Rattle.sr_encode.proofs.LookLemmas.{looks-longer}
use Rattle.sr_encode.proofs.met.Met.look_over_links.Goals as goal

pub loop-link-init : goal.loop-link-init
loop-link-init c =
    let holds : HoldsLinks c.args.scene.now.net.graph c.args.w.0 c.links_from-first.result.first c.links_from-first.result.end = rw c.graph.ensures.value at c.links_from-first.ensures.links in (
      looks-longer c.args.scene.now c.args.self.now c.args.self.now c.args.i (node_count c.args.scene.now.net.graph) (node_count c.args.scene.now.net.graph + c.links_from-first.result.first) c.requires.looks (extends-same c.args.self.now.queue.items)
          (searching-upto c.args.scene.now c.args.self.now.queue.items c.args.self.now.unmet c.args.i c.links_from-first.result.first
          c.requires.looks.search c.requires.looks.place (omega (arith, holds.ordered, holds.inside)) (λ k within begins. (holds.to k within (begins ∙ c.requires.w)).0)),
      extends-same c.args.self.now.queue.items,
      holds.ordered,
      omega arith,
    )

pub look_over-requires-clause-begins : goal.look_over-requires-clause-begins
look_over-requires-clause-begins c =
    let holds : HoldsLinks c.args.scene.now.net.graph c.args.w.0 c.links_from-first.result.first c.links_from-first.result.end = rw c.graph.ensures.value at c.links_from-first.ensures.links in
    holds.from c.loop-link.link c.loop-link.invariant.3 (omega (arith, c.loop-link-test.true)) ∙ sym (ap (λ (t : Waypoint). t.node.0) (c.loop-link.invariant.1.same c.args.i c.requires.looks.place) ∙ c.requires.w)

pub returns-clause-search : goal.returns-clause-search
returns-clause-search c =
    let holds : HoldsLinks c.args.scene.now.net.graph c.args.w.0 c.links_from-first.result.first c.links_from-first.result.end = rw c.graph.ensures.value at c.links_from-first.ensures.links in
    let at : waypoint_node c.loop-link.self.queue.items c.args.i ≡ c.args.w.0 = ap (λ (t : Waypoint). t.node.0) (c.loop-link.invariant.1.same c.args.i c.requires.looks.place) ∙ c.requires.w in
    let inside : c.args.i < length c.loop-link.self.queue.items = omega (arith, c.loop-link.invariant.1.longer, c.requires.looks.place) in
    searching-past c.args.scene.now c.loop-link.self.queue.items c.loop-link.self.unmet c.args.i c.loop-link.link c.links_from-first.result.end c.loop-link.invariant.0.search
    inside (omega (arith, holds.inside, c.loop-link.invariant.2)) (λ k within begins. (holds.to k within (begins ∙ at)).1) (omega (arith, c.loop-link-test.false))
