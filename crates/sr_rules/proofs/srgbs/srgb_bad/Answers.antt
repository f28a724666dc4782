use Rattle.std.proofs.Common.{List, arith, subst}
use Rattle.sr_model.specs.declared.label.Range.{Range}
use Rattle.sr_model.specs.Label.{IsSrgb}
use Rattle.sr_rules.proofs.SrgbLemmas.{none-announced, good-announced, bad-first, none-bad}
use Rattle.sr_rules.proofs.srgbs.srgb_bad.Goals as goal
use Rattle.sr_rules.proofs.srgbs.srgb_bad.Goals.{in-None, in-Some+in-Ok+in-Ok-1, in-Some+in-Ok+in-Err-1}

pub returns-in-Err : goal.returns-in-Err
returns-in-Err c =
    bad-first c.args.facts.now c.args.nodes.now c.requires.nodes c.loop-node.node-index c.node-item.result (omega arith) c.node-item.is c.in-Some.ranges.items c.in-Err.field-0 c.requires.ascending
    (rw c.in-Some.is at c.in_ok-srgb_of.ensures) c.in-Err.ensures.bad c.loop-node.invariant

pub loop-node-preserved : goal.loop-node-preserved
loop-node-preserved c = elim c.match-branch-2.branch [
  | in-None w ↦
      none-announced c.args.facts.now c.args.nodes.now c.requires.nodes c.loop-node.node-index c.node-item.result (omega arith) c.node-item.is
      (rw w.in-None.is at c.in_ok-srgb_of.ensures) c.loop-node.invariant
  | in-Some+in-Ok+in-Ok-1 w ↦
      good-announced c.args.facts.now c.args.nodes.now c.requires.nodes c.loop-node.node-index c.node-item.result (omega arith) c.node-item.is w.in-Some.ranges.items
      (rw w.in-Some.is at c.in_ok-srgb_of.ensures) (subst (λ (r : List Range). IsSrgb r) w.in-Ok.ensures.value w.in-Ok.ensures.good) c.loop-node.invariant
  | in-Some+in-Ok+in-Err-1 w ↦
      good-announced c.args.facts.now c.args.nodes.now c.requires.nodes c.loop-node.node-index c.node-item.result (omega arith) c.node-item.is w.in-Some.ranges.items
      (rw w.in-Some.is at c.in_ok-srgb_of.ensures) (subst (λ (r : List Range). IsSrgb r) w.in-Ok.ensures.value w.in-Ok.ensures.good) c.loop-node.invariant
]

pub returns : goal.returns
returns c = none-bad c.args.facts.now c.args.nodes.now c.requires.nodes c.loop-node.node-index (omega arith) c.loop-node.invariant
