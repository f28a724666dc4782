use Rattle.std.proofs.Common.{arith}
use Rattle.sr_loads.proofs.TallyLemmas.{added-none, added-all}
use Rattle.sr_loads.proofs.counts.add_counts.Goals as goal

pub loop-link-init : goal.loop-link-init
loop-link-init c = added-none c.args.other.now c.args.counts.now.items

pub returns : goal.returns
returns c =
    added-all c.args.other.now c.args.counts.now.items c.loop-link.counts.items c.loop-link.link (let l = c.loop-link.invariant.long in omega arith) c.loop-link.invariant
