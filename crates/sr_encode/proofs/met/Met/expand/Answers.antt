use Rattle.std.proofs.Common.{◌≡◌, ◌<◌, length, true, arith, ap, sym, ◌∙◌, subst}
use Rattle.sr_model.specs.Graph.{node_count, is_overloaded}
use Rattle.std.proofs.lemmas.List.{get_or_default}
use Rattle.sr_encode.specs.declared.waypoint.Waypoint.{Waypoint}
use Rattle.sr_encode.specs.Waypoints.{no_waypoint, waypoint_node}
use Rattle.sr_encode.proofs.QueueLemmas.{extends-trans, searching-pass, searching-all_met}
use Rattle.sr_encode.proofs.met.Met.expand.Goals as goal

pub returns-then-overloaded-clause-search : goal.returns-then-overloaded-clause-search
returns-then-overloaded-clause-search c =
    let same : c.index.result.now.node.0 ≡ waypoint_node c.args.self.now.queue.items c.args.i =
    ap (λ (t : Waypoint). t.node.0) (c.index.ensures ∙ get_or_default c.args.self.now.queue.items c.args.i c.index.result.now no_waypoint c.requires.i) in
    let over : is_overloaded c.args.scene.now.net.graph c.index.result.now.node.0 ≡ true =
    ap (λ g. is_overloaded g c.index.result.now.node.0) (sym c.graph.ensures.value) ∙ sym c.overloaded.ensures ∙ c.if-overloaded.true in
    searching-pass c.args.scene.now c.args.self.now.queue.items c.args.self.now.unmet c.args.i c.requires.search c.requires.i (subst (λ k. is_overloaded c.args.scene.now.net.graph k ≡ true) same over)

pub look_at_nodes-requires-clause-looks : goal.look_at_nodes-requires-clause-looks
look_at_nodes-requires-clause-looks c =
    let same : waypoint_node c.args.self.now.queue.items c.args.i ≡ c.index.result.now.node.0 =
    ap (λ (t : Waypoint). t.node.0) (sym (c.index.ensures ∙ get_or_default c.args.self.now.queue.items c.args.i c.index.result.now no_waypoint c.requires.i)) in
    record {
      search = c.requires.search;
      place = c.requires.i;
      clear = ap (λ k. is_overloaded c.args.scene.now.net.graph k) same ∙ ap (λ g. is_overloaded g c.index.result.now.node.0) (sym c.graph.ensures.value) ∙ sym c.overloaded.ensures ∙ c.if-overloaded.false;
    }

pub returns-then-is_empty-clause-search : goal.returns-then-is_empty-clause-search
returns-then-is_empty-clause-search c =
    searching-all_met c.args.scene.now c.args.self.now.queue.items c.args.self.now.unmet c.args.i 0 c.graph.ensures.after.graph c.requires.search c.requires.i (omega arith) (c.is_empty.ensures.0 c.if-is_empty.true)

pub returns-then-is_empty-2-clause-search : goal.returns-then-is_empty-2-clause-search
returns-then-is_empty-2-clause-search c =
    let inside : c.args.i < length c.look_at_nodes.new.self.queue.items = omega (arith, c.in_ok-look_at_nodes.ensures.longer.longer, c.requires.i) in
    searching-all_met c.args.scene.now c.look_at_nodes.new.self.queue.items c.look_at_nodes.new.self.unmet c.args.i (node_count c.args.scene.now.net.graph) c.graph.ensures.after.graph
    c.in_ok-look_at_nodes.ensures.looks.search inside (omega arith) (c.is_empty-2.ensures.0 c.if-is_empty-2.true)

pub returns-clause-longer : goal.returns-clause-longer
returns-clause-longer c = extends-trans _ _ _ c.in_ok-look_at_nodes.ensures.longer c.in_ok-look_over_links.ensures.longer
