use Rattle.std.proofs.Common.{sym, ◌∙◌}
use Rattle.sr_forward.proofs.ActionLemmas.{adj-action, node-action, none-idle, node-idle}
use Rattle.sr_forward.proofs.moves.action.Goals as goal

pub returns-in-None-clause-none : goal.returns-in-None-clause-none
returns-in-None-clause-none c =
    none-idle c.args.net.now c.args.closed.now c.args.node.0 c.args.label
    (c.in-None.ensures c.args.net.now c.graph-graph.ensures.net c.requires.fib)

pub returns-in-None-chosen-clause-none : goal.returns-in-None-chosen-clause-none
returns-in-None-chosen-clause-none c =
    let found = rw c.in-Some-Node.field-0-is at c.in-Some-Node.ensures in
    node-idle c.args.net.now c.graph-graph.ensures.net c.args.closed.now c.args.choice c.args.node.0 c.args.label c.in-Some-Node.field-0-0 c.in-Some-Node.hops
    (found c.args.net.now c.graph-graph.ensures.net c.requires.fib)
    c.in-None-chosen.ensures

pub returns-in-Some-clause-some : goal.returns-in-Some-clause-some
returns-in-Some-clause-some c =
    let found = rw c.in-Some-Node.field-0-is at c.in-Some-Node.ensures in
    node-action c.args.net.now c.graph-graph.ensures.net c.args.closed.now c.args.choice c.args.node.0 c.args.label c.in-Some-Node.field-0-0 c.in-Some-Node.hops c.in-Some.link c.in-Some.out
    (found c.args.net.now c.graph-graph.ensures.net c.requires.fib)
    c.in-Some.ensures

pub returns-else-has-clause-some : goal.returns-else-has-clause-some
returns-else-has-clause-some c =
    let found = rw c.in-Some-Adj.field-0-is at c.in-Some-Adj.ensures in
    adj-action c.args.net.now c.graph-graph.ensures.net c.args.closed.now c.args.choice c.args.node.0 c.args.label c.in-Some-Adj.link
    (found c.args.net.now c.graph-graph.ensures.net c.requires.fib)
    (sym c.has.ensures ∙ c.if-has.false)
