use Rattle.std.proofs.Common.{arith, ◌∙◌, sym}
use Rattle.sr_graph.proofs.LinksLemmas.{duplicate-read, ascend-none, ascend-read, none_twice}
use Rattle.sr_graph.proofs.order.first_duplicate.Goals as goal

pub loop-i-init : goal.loop-i-init
loop-i-init c = ascend-none _

pub returns-in_default : goal.returns-in_default
returns-in_default c =
    duplicate-read c.args.links.now c.loop-i.i c.index-links-i.result c.index-links-i-in-loop-i.result (omega arith) (omega arith) _ c.requires c.loop-i.invariant
    (λ less. c.in_default.not-Less (c.cmp.ensures ∙ less))

pub loop-i-preserved : goal.loop-i-preserved
loop-i-preserved c =
    ascend-read c.args.links.now c.loop-i.i c.index-links-i.result c.index-links-i-in-loop-i.result (omega arith) (omega arith) c.loop-i.invariant (sym c.cmp.ensures ∙ c.in-Less.is)

pub returns : goal.returns
returns c = none_twice c.args.links.now c.loop-i.i (omega arith) c.loop-i.invariant
