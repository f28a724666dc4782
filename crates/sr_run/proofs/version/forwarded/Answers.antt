use Rattle.std.proofs.Common.{ap, reverse}
use Rattle.sr_fib.specs.Entries.{numbers}
use Rattle.sr_run.proofs.ForwardLemmas.{packet-arrives, packet-forwarded}
use Rattle.sr_run.proofs.version.forwarded.Goals as goal

pub returns-in_ok-walk-in-Some-clause-forwarded : goal.returns-in_ok-walk-in-Some-clause-forwarded
returns-in_ok-walk-in-Some-clause-forwarded c =
    let is = rw c.net-net.ensures.value at c.node_label-label.ensures in
    let one = ap reverse c.in_ok-stack-in-Some.ensures.items in
    let walked = rw c.net-net.ensures.value at c.in_ok-walk-in-Some.ensures.walked in
    let packet = rw c.net-net.ensures.value at c.in_ok-walk-in-Some.ensures.arrives.0 in
    let arrives = packet-arrives c.args.version.now.net _ c.args.from.0 c.args.to.0 c.node_label-label.result c.in-Some._cost _ (numbers c.in_ok-walk-in-Some.walk.links.items) _ _ c.in_ok-nothing-in-Some.ensures one is c.in-Some.ensures packet in
    packet-forwarded c.args.version.now.net _ c.args.choice c.args.from.0 c.args.to.0 c.node_label-label.result _ c.in-Some._cost _ c.in_ok-walk-in-Some.walk.links.items _ _ c.in_ok-nothing-in-Some.ensures one is walked c.in-Some.ensures arrives
