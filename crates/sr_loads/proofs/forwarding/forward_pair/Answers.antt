use Rattle.sr_loads.proofs.TallyLemmas.{adds-choice}
use Rattle.sr_loads.proofs.forwarding.forward_pair.Goals as goal

pub loop-choice-preserved : goal.loop-choice-preserved
loop-choice-preserved c =
    adds-choice c.args.net.now c.args.pair c.loop-choice.choice c.args.counts.now.items c.loop-choice.counts.items c.forward.new.counts.items c.loop-choice.invariant c.forward.ensures
