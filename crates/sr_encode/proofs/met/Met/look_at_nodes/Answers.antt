use Rattle.std.proofs.Common.{◌≡◌, ◌<◌, ◌↔◌, IsTrue, true, length, arith, ap, sym, ◌∙◌, subst}
use Rattle.sr_model.specs.declared.repair.Segment.TheVariants.{Node}
use Rattle.sr_model.specs.Graph.{node_count, is_overloaded}
use Rattle.sr_lanes.specs.Bits.{is_in}
use Rattle.sr_encode.specs.Waypoints.{met_from}
use Rattle.sr_encode.specs.Search.{StepsTo}
use Rattle.sr_lanes.proofs.SizeLemmas.{size-less}
use Rattle.sr_encode.proofs.QueueLemmas.{extends-same, extends-push, extends-trans, searching-node}
use Rattle.sr_encode.proofs.LookLemmas.{unmet-inside, has-room, looks-longer, ahead-start, ahead-next, ahead-end}
use Rattle.sr_encode.proofs.met.Met.look_at_nodes.Goals as goal

pub steps-ends-requires-clause-w : goal.steps-ends-requires-clause-w
steps-ends-requires-clause-w c =
    subst (λ k. k < node_count c.args.scene.now.net.graph) c.requires.w (searching-node c.args.scene.now c.args.self.now.queue.items c.args.self.now.unmet c.args.i 0 c.args.i c.requires.looks.search c.requires.looks.place)

pub steps-ends-requires-clause-clear : goal.steps-ends-requires-clause-clear
steps-ends-requires-clause-clear c = ap (λ k. is_overloaded c.args.scene.now.net.graph k) (sym c.requires.w) ∙ c.requires.looks.clear

pub steps-ends-requires-clause-among : goal.steps-ends-requires-clause-among
steps-ends-requires-clause-among c = unmet-inside c.args.scene.now c.args.self.now.queue.items c.args.self.now.unmet c.args.i 0 c.requires.looks.search

pub ends-init : goal.ends-init
ends-init c = (
  ahead-start c.args.scene.now c.args.self.now.queue.items c.args.self.now.unmet c.args.i c.steps-ends.result c.requires.looks.search
      (λ v. subst (λ w. IsTrue (is_in c.steps-ends.result v) ↔ ((is_in c.args.self.now.unmet v ≡ true) × StepsTo c.args.scene.now w (Node (record { 0 = v })) v)) (sym c.requires.w) (c.steps-ends.ensures.these v)),
  extends-same c.args.self.now.queue.items,
)

pub meet-requires-clause-room : goal.meet-requires-clause-room
meet-requires-clause-room c =
    let inside : c.args.i < length c.ends.self.queue.items = omega (arith, c.ends.invariant.1.longer, c.requires.looks.place) in
    has-room c.args.scene.now c.ends.self.queue.items c.ends.self.unmet c.args.i c.ends.invariant.0.cur c.steps-ends.ensures.after c.ends.invariant.0.search inside

pub ends-smaller : goal.ends-smaller
ends-smaller c = size-less c.ends.ends c.take_first.new.self c.in-Some.node c.in-Some.ensures.first c.in-Some.ensures.left

pub ends-preserved : goal.ends-preserved
ends-preserved c =
    let inside : c.args.i < length c.ends.self.queue.items = omega (arith, c.ends.invariant.1.longer, c.requires.looks.place) in (
      rw c.in_ok-meet.ensures.queue
          (ahead-next c.args.scene.now c.ends.self.queue.items c.ends.self.unmet c.meet.new.self.unmet c.args.i c.in-Some.node c.ends.ends c.take_first.new.self c.steps-ends.ensures.after
          c.ends.invariant.0 inside c.in-Some.ensures.first c.in-Some.ensures.left c.in_ok-meet.ensures.unmet),
      rw c.in_ok-meet.ensures.queue
          (extends-trans _ _ _ c.ends.invariant.1 (extends-push c.ends.self.queue.items (met_from c.ends.self.queue.items c.args.i (record { 0 = c.in-Some.node }) (Node (record { 0 = c.in-Some.node }))))),
    )

pub returns-clause-looks : goal.returns-clause-looks
returns-clause-looks c =
    let inside : c.args.i < length c.ends.self.queue.items = omega (arith, c.ends.invariant.1.longer, c.requires.looks.place) in
    looks-longer c.args.scene.now c.args.self.now c.ends.self c.args.i 0 (node_count c.args.scene.now.net.graph) c.requires.looks c.ends.invariant.1
    (ahead-end c.args.scene.now c.ends.self.queue.items c.ends.self.unmet c.args.i c.ends.ends c.ends.invariant.0 inside c.in_default.ensures.first)
