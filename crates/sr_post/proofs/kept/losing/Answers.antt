use Rattle.std.proofs.Common.{arith}
use Rattle.sr_post.proofs.DangerLemmas.{losing-next, losing-over}
use Rattle.sr_post.proofs.kept.losing.Goals as goal

pub loop-link-preserved : goal.loop-link-preserved
loop-link-preserved c =
    losing-next c.args.spaces.now.graph c.args.spaces.now.failed c.args.source.0 c.links-link-items.result.now c.loop-link.link-index
    c.loop-link.losing c.behind.result c.or-losing.result c.loop-link.invariant
    (rw c.failed.ensures at c.links-link-items.ensures.each c.loop-link.link-index c.loop-link-test.true) c.behind.ensures c.or-losing.ensures

pub returns : goal.returns
returns c =
    losing-over c.args.spaces.now.graph c.args.spaces.now.failed c.args.source.0 c.links-link-items.result.now c.loop-link.link-index
    c.loop-link.losing (rw c.failed.ensures at c.links-link-items.ensures) (omega (arith, c.loop-link-test.false)) c.loop-link.invariant
