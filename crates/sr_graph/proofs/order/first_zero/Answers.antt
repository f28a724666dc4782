use Rattle.std.proofs.Common.{arith}
use Rattle.sr_graph.proofs.LinksLemmas.{zero-read, no_zero}
use Rattle.sr_graph.proofs.order.first_zero.Goals as goal

pub returns-then-link-eq0 : goal.returns-then-link-eq0
returns-then-link-eq0 c = zero-read c.args.links.now c.loop-link.link-index _ c.requires (omega arith) c.link-item.is c.loop-link.invariant c.if-link-eq0.true

pub returns : goal.returns
returns c = no_zero c.args.links.now c.loop-link.link-index (omega arith) c.loop-link.invariant
