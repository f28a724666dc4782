use Rattle.sr_delta.proofs.PairLemmas.{fails-from_key}
use Rattle.sr_delta.proofs.pairs.is_failing_key.Goals as goal

pub returns-in-Some : goal.returns-in-Some
returns-in-Some c = (
  λ is. (c.in-Some.link.0, c.in-Some.ensures.found.0, c.fails.ensures.0 is, c.in-Some.ensures.found.1),
  λ h. c.fails.ensures.1 (fails-from_key c.args.graph.now c.args.case c.args.key.now c.in-Some.link.0 c.find.ensures.named c.in-Some.ensures.found.0 c.in-Some.ensures.found.1 h),
)

pub returns-in-None : goal.returns-in-None
returns-in-None c = (λ is. absurd (cc), λ h. absurd (c.in-None.ensures.none h.0 h.1 h.3))
