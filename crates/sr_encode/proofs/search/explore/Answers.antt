use Rattle.std.proofs.Common.{◌≡◌, ◌+◌, ◌≤◌, length, arith, subst}
use Rattle.sr_encode.specs.Serve.{AreOffered}
use Rattle.sr_encode.proofs.StopLemmas.{are-least_from}
use Rattle.sr_encode.proofs.ServeLemmas.{offered-longer, searched-end}
use Rattle.sr_encode.proofs.search.explore.Goals as goal

pub offer_from-requires-clause-least : goal.offer_from-requires-clause-least
offer_from-requires-clause-least c =
    rw c.deref.ensures.value (are-least_from c.args.scene.now c.args.met.now.queue.items c.args.met.now.unmet 0 c.graph-graph.ensures.after c.requires.search 0 (omega arith))

pub offer_from-requires-in-queue-clause-least : goal.offer_from-requires-in-queue-clause-least
offer_from-requires-in-queue-clause-least c =
    let from : c.queue.i + 1 ≤ c.len-offered.result = omega (arith, c.len.ensures, c.len-offered.ensures, c.queue-test.true) in
    rw c.deref-in-queue.ensures.value
    (are-least_from c.args.scene.now c.expand.new.self.queue.items c.expand.new.self.unmet (c.queue.i + 1) c.graph-graph.ensures.after c.in_ok-expand.ensures.search c.len-offered.result from)

pub offer_from-requires-in-queue-clause-offered : goal.offer_from-requires-in-queue-clause-offered
offer_from-requires-in-queue-clause-offered c =
    let whole : length c.queue.met.queue.items ≡ c.len-offered.result = omega (arith, c.queue.met.queue.ok.0, c.len-offered.ensures) in
    let before : AreOffered c.args.scene.now c.queue.met.queue.items c.len-offered.result c.queue.served = subst (λ k. AreOffered c.args.scene.now c.queue.met.queue.items k c.queue.served) whole c.queue.invariant.1 in
    rw c.deref-in-queue.ensures.value
    (offered-longer c.args.scene.now c.queue.met.queue.items c.expand.new.self.queue.items c.len-offered.result c.queue.served c.queue.invariant.0.agrees.parents c.in_ok-expand.ensures.longer (omega arith) before)

pub returns-clause-over : goal.returns-clause-over
returns-clause-over c =
    let over : length c.queue.met.queue.items ≤ c.queue.i = omega (arith, c.queue.met.queue.ok.0, c.len.ensures, c.queue-test.false) in
    searched-end c.args.scene.now c.queue.met.queue.items c.queue.met.unmet c.queue.i c.queue.served c.graph-graph.ensures.after c.queue.invariant.0 over c.queue.invariant.3 c.queue.invariant.1
