use Rattle.std.proofs.Common.{◌≡◌, ◌+◌, false, arith, sym, ◌∙◌, subst}
use Rattle.sr_model.specs.declared.repair.Segment.TheVariants.{Adj}
use Rattle.sr_lanes.specs.Bits.{is_in}
use Rattle.sr_model.specs.Graph.{node_count}
use Rattle.sr_encode.specs.Waypoints.{waypoint_node, met_from, Extends}
use Rattle.sr_encode.specs.Search.{StepsTo}
use Rattle.sr_encode.proofs.QueueLemmas.{step-link, extends-same, extends-push}
use Rattle.sr_encode.proofs.LookLemmas.{link-within, has-room, looks-longer, link-passed, link-met}
use Rattle.sr_encode.proofs.met.Met.look_over.Goals as goal

pub returns-in_default-clause-looks : goal.returns-in_default-clause-looks
returns-in_default-clause-looks c =
    looks-longer c.args.scene.now c.args.self.now c.args.self.now c.args.i (node_count c.args.scene.now.net.graph + c.args.link.0) (node_count c.args.scene.now.net.graph + (c.args.link.0 + 1)) c.requires.looks (extends-same c.args.self.now.queue.items)
    (link-passed c.args.scene.now c.args.self.now.queue.items c.args.self.now.unmet c.args.i c.args.link c.step_over.ensures.after c.requires.looks.search c.requires.looks.place
    (λ v step. absurd (c.in_default.ensures.step v (subst (λ w. StepsTo c.args.scene.now w (Adj c.args.link) v) (sym c.requires.begins) step))))

pub has-requires : goal.has-requires
has-requires c = omega (arith, link-within c.args.scene.now c.args.link c.in-Some.to.0 _ c.step_over.ensures.after c.in-Some.ensures.step, c.step_over.ensures.after.graph.few_nodes)

pub returns-then-not-has-clause-looks : goal.returns-then-not-has-clause-looks
returns-then-not-has-clause-looks c =
    let met : is_in c.args.self.now.unmet c.in-Some.to.0 ≡ false = sym c.has.ensures ∙ c.if-not-has.true in
    let w = waypoint_node c.args.self.now.queue.items c.args.i in
    looks-longer c.args.scene.now c.args.self.now c.args.self.now c.args.i (node_count c.args.scene.now.net.graph + c.args.link.0) (node_count c.args.scene.now.net.graph + (c.args.link.0 + 1)) c.requires.looks (extends-same c.args.self.now.queue.items)
    (link-passed c.args.scene.now c.args.self.now.queue.items c.args.self.now.unmet c.args.i c.args.link c.step_over.ensures.after c.requires.looks.search c.requires.looks.place
    (λ v other. subst (λ k. is_in c.args.self.now.unmet k ≡ false) (step-link c.args.scene.now w c.args.link c.in-Some.to.0 (subst (λ w. StepsTo c.args.scene.now w (Adj c.args.link) c.in-Some.to.0) c.requires.begins c.in-Some.ensures.step) ∙ sym (step-link c.args.scene.now w c.args.link v other)) met))

pub meet-requires-clause-room : goal.meet-requires-clause-room
meet-requires-clause-room c = has-room c.args.scene.now c.args.self.now.queue.items c.args.self.now.unmet c.args.i (node_count c.args.scene.now.net.graph + c.args.link.0) c.step_over.ensures.after c.requires.looks.search c.requires.looks.place

pub meet-requires-clause-v : goal.meet-requires-clause-v
meet-requires-clause-v c = omega (arith, link-within c.args.scene.now c.args.link c.in-Some.to.0 _ c.step_over.ensures.after c.in-Some.ensures.step, c.step_over.ensures.after.graph.few_nodes)

pub returns-clause-looks : goal.returns-clause-looks
returns-clause-looks c =
    let longer : Extends c.args.self.now.queue.items c.meet.new.self.queue.items = rw c.in_ok-meet.ensures.queue (extends-push c.args.self.now.queue.items (met_from c.args.self.now.queue.items c.args.i c.in-Some.to (Adj c.args.link))) in
    looks-longer c.args.scene.now c.args.self.now c.meet.new.self c.args.i (node_count c.args.scene.now.net.graph + c.args.link.0) (node_count c.args.scene.now.net.graph + (c.args.link.0 + 1)) c.requires.looks longer
    (rw c.in_ok-meet.ensures.queue (link-met c.args.scene.now c.args.self.now.queue.items c.args.self.now.unmet c.meet.new.self.unmet c.args.i c.args.link c.in-Some.to c.step_over.ensures.after c.requires.looks.search c.requires.looks.place
    (subst (λ w. StepsTo c.args.scene.now w (Adj c.args.link) c.in-Some.to.0) c.requires.begins c.in-Some.ensures.step)
    (sym c.has.ensures ∙ c.if-not-has.false) c.in_ok-meet.ensures.unmet))

pub returns-clause-longer : goal.returns-clause-longer
returns-clause-longer c = rw c.in_ok-meet.ensures.queue (extends-push c.args.self.now.queue.items (met_from c.args.self.now.queue.items c.args.i c.in-Some.to (Adj c.args.link)))
