use Rattle.std.proofs.Common.{arith}
use Rattle.sr_rules.proofs.LinksLemmas.{zero-here, none-zero}
use Rattle.sr_rules.proofs.links.first_zero.Goals as goal

pub returns-then-link-eq0 : goal.returns-then-link-eq0
returns-then-link-eq0 c = zero-here c.args.links.now c.loop-link.link-index c.link-item.result c.requires (omega arith) c.link-item.is c.loop-link.invariant c.if-link-eq0.true

pub returns : goal.returns
returns c = none-zero c.args.links.now c.loop-link.link-index (omega arith) c.loop-link.invariant
