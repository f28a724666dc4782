use Rattle.std.proofs.Common.{arith, ◌∙◌, sym}
use Rattle.sr_rules.proofs.LinksLemmas.{keys-start, keys-more, repeated-here, none-repeated}
use Rattle.sr_rules.proofs.links.first_repeated.Goals as goal

pub loop-i-init : goal.loop-i-init
loop-i-init c = keys-start c.args.links.now

pub returns-in_default : goal.returns-in_default
returns-in_default c =
    repeated-here c.args.links.now c.loop-i.i c.index-links-i.result c.index-links-i-in-loop-i.result (omega arith) (omega arith) c.index-links-i-in_default.result c.requires c.loop-i.invariant
    (λ less. c.in_default.not-Less (c.cmp.ensures ∙ less))

pub loop-i-preserved : goal.loop-i-preserved
loop-i-preserved c =
    keys-more c.args.links.now c.loop-i.i c.index-links-i.result c.index-links-i-in-loop-i.result (omega arith) (omega arith) c.loop-i.invariant (sym c.cmp.ensures ∙ c.in-Less.is)

pub returns : goal.returns
returns c = none-repeated c.args.links.now c.loop-i.i (omega arith) c.loop-i.invariant
