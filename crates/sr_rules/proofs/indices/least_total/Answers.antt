use Rattle.std.proofs.Common.{arith}
use Rattle.sr_rules.specs.RuleSurvey.{nodes_with}
use Rattle.sr_rules.proofs.OutsideLemmas.{least-start, least-more, least-end}
use Rattle.sr_rules.proofs.indices.least_total.Goals as goal

pub loop-place-init : goal.loop-place-init
loop-place-init c = least-start (nodes_with c.args.ranges.now)

pub loop-place-preserved : goal.loop-place-preserved
loop-place-preserved c = least-more (nodes_with c.args.ranges.now) c.loop-place.place c.loop-place.least c.total_at.result c.min-least.result c.loop-place.invariant c.total_at.ensures (omega (arith, c.min-least.ensures))

pub returns : goal.returns
returns c = least-end c.args.ranges.now c.loop-place.place c.loop-place.least (omega arith) (omega arith) c.loop-place.invariant
