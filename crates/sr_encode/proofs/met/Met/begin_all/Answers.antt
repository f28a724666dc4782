use Rattle.std.proofs.Common.{◌≤◌, ◌<◌, arith}
use Rattle.sr_model.specs.Graph.{link_count}
use Rattle.sr_graph.specs.Ranges.{HoldsLinks}
use Rattle.sr_encode.proofs.QueueLemmas.{starting-jump, searching-from_start}
use Rattle.sr_encode.proofs.met.Met.begin_all.Goals as goal

pub returns : goal.returns
returns c =
    let holds : HoldsLinks c.args.scene.now.net.graph c.args.scene.now.source c.links_from-first.result.first c.links_from-first.result.end = rw (c.graph.ensures.value, c.source.ensures.value) at c.links_from-first.ensures.links in
    let end : c.links_from-first.result.end ≤ c.loop-link.link = omega (arith, c.loop-link-test.false) in
    let inside : c.loop-link.link ≤ link_count c.args.scene.now.net.graph = omega (arith, holds.inside, c.loop-link.invariant.1) in
    record {
      search = searching-from_start c.args.scene.now c.loop-link.self.queue.items c.loop-link.self.unmet
          (starting-jump c.args.scene.now c.loop-link.self.queue.items c.loop-link.self.unmet c.loop-link.link (link_count c.args.scene.now.net.graph) c.loop-link.invariant.0 inside
          (λ k at below within begins. let lt : k < c.links_from-first.result.end = (holds.to k within begins).1 in omega arith));
    }
