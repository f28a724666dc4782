use Rattle.std.proofs.Common.{◌≡◌, ◌+◌, ◌*◌, inl, inr, length, arith, reverse}
use Rattle.std.proofs.lemmas.List.{length-reverse}
use Rattle.sr_model.specs.Graph.{node_count}
use Rattle.sr_fib.specs.Entries.{numbers}
use Rattle.sr_forward.proofs.RunLemmas.{under-way-more, under-way-links, under-way-arrives}
use Rattle.sr_forward.proofs.walks.walk.Goals as goal

pub loop-turn-preserved : goal.loop-turn-preserved
loop-turn-preserved c =
    under-way-more c.args.net.now c.args.closed.now c.args.choice c.args.node.0 (reverse c.args.stack.items) c.loop-turn.turn (numbers c.loop-turn.links.items) c.loop-turn.end.0 (reverse c.loop-turn.rest.items) c.in-Some.moved c.advance.new.end.0 (reverse c.step.new.stack.items) (numbers c.advance.new.links.items)
    c.loop-turn.invariant
    (rw c.in_ok-advance-in-Some.ensures.end c.in-Some.ensures.step)
    c.in_ok-advance-in-Some.ensures.within
    c.in_ok-advance-in-Some.ensures.links

pub returns-in-None-clause-arrives : goal.returns-in-None-clause-arrives
returns-in-None-clause-arrives c =
    let turns : c.node_count.result * (c.len.result + 2) ≡ node_count c.args.net.now.graph * (length (reverse c.args.stack.items) + 2) = cc (length-reverse c.args.stack.items) in
    rw c.in-None.ensures.stays (under-way-arrives c.graph.ensures.net c.requires.node c.loop-turn.invariant (inl c.in-None.ensures.none) (omega (arith, turns)))

pub returns-in-None-clause-within : goal.returns-in-None-clause-within
returns-in-None-clause-within c = (
  c.loop-turn.invariant.within,
  under-way-links c.args.net.now c.args.closed.now c.args.choice c.args.node.0 (reverse c.args.stack.items) c.loop-turn.turn c.loop-turn.links.items c.loop-turn.end.0 (reverse c.loop-turn.rest.items) c.loop-turn.invariant,
)

pub returns-clause-arrives : goal.returns-clause-arrives
returns-clause-arrives c =
    let turns : c.node_count.result * (c.len.result + 2) ≡ node_count c.args.net.now.graph * (length (reverse c.args.stack.items) + 2) = cc (length-reverse c.args.stack.items) in
    under-way-arrives c.graph.ensures.net c.requires.node c.loop-turn.invariant (inr (omega (arith, turns))) (omega (arith, turns))

pub returns-clause-within : goal.returns-clause-within
returns-clause-within c = (
  c.loop-turn.invariant.within,
  under-way-links c.args.net.now c.args.closed.now c.args.choice c.args.node.0 (reverse c.args.stack.items) c.loop-turn.turn c.loop-turn.links.items c.loop-turn.end.0 (reverse c.loop-turn.rest.items) c.loop-turn.invariant,
)
