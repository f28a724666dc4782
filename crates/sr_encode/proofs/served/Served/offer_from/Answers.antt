use Rattle.std.proofs.Common.{◌≡◌, length, arith, subst}
use Rattle.sr_encode.specs.Serve.{AreOffered}
use Rattle.sr_encode.proofs.served.Served.offer_from.Goals as goal

pub returns-clause-offered : goal.returns-clause-offered
returns-clause-offered c =
    let all : c.loop-at.at ≡ length c.args.queue.now = omega (arith, c.loop-at.invariant.2, c.loop-at-test.false) in
    subst (λ k. AreOffered c.args.scene.now c.args.queue.now k c.loop-at.self) all c.loop-at.invariant.0
