use Rattle.std.proofs.Common.{arith}
use Rattle.sr_lsp.proofs.PartsLemmas.{kept-all, kept-more, kept-none}
use Rattle.sr_lsp.proofs.parts.Parts.new.Goals as goal

pub loop-part-init : goal.loop-part-init
loop-part-init c = kept-none _ _ _ _ _ c.in_ok-order.ensures.items c.into_iter-part-iterator.ensures.into_iter_gives.0 (omega (arith, c.into_iter-part-iterator.ensures.into_iter_gives.1))

pub loop-part-preserved : goal.loop-part-preserved
loop-part-preserved c = kept-more _ _ _ _ _ _ _ _ _ c.in-Some.part _ c.in_ok-push.ensures.items c.in-Some.ensures.steps.0 (omega (arith, c.in-Some.ensures.steps.1)) c.in_ok-keep.ensures c.loop-part.invariant

pub invariant_of-result : goal.invariant_of-result
invariant_of-result c = c.loop-part.invariant.inside

pub returns : goal.returns
returns c = kept-all _ _ _ _ _ c.in-None.ensures.steps.0 c.loop-part.invariant
