use Rattle.std.proofs.Common.{◌<◌, length, arith}
use Rattle.sr_lanes.proofs.MarkLemmas.{marked-whole, marked-hit, marked-miss}
use Rattle.sr_lanes.proofs.marks.tight_mask.Goals.{then-cost-base, else-cost-base}
use Rattle.sr_lanes.proofs.marks.tight_mask.Goals as goal

pub loop-v-preserved : goal.loop-v-preserved
loop-v-preserved c =
    let row = c.args.row.now in
    let cost = c.args.cost in
    let base = c.args.base.now in
    let before = c.args.hits.now in
    let within : c.loop-v.v < length row = omega arith in
    elim c.if-cost-base.branch [
      | then-cost-base w ↦ marked-hit row cost base before c.loop-v.hits c.loop-v.v within c.loop-v.invariant c.if-cost-base.hits w.hits-is (omega arith) w.if-cost-base.true
      | else-cost-base w ↦ marked-miss row cost base before c.loop-v.hits c.loop-v.v within c.loop-v.invariant c.if-cost-base.hits w.hits-is w.if-cost-base.false
    ]

pub returns : goal.returns
returns c = marked-whole c.args.row.now c.args.cost c.args.base.now c.args.hits.now c.loop-v.hits c.loop-v.v (omega arith) c.loop-v.invariant
