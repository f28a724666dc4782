use Rattle.std.proofs.lemmas.Option.{slice_get-get_or}
use Rattle.sr_loads.proofs.TallyLemmas.{adds-pair}
use Rattle.sr_loads.proofs.batch.forward_pairs.Goals as goal

pub forward_pair-requires-clause-pair : goal.forward_pair-requires-clause-pair
forward_pair-requires-clause-pair c =
    c.requires.pairs c.loop-pair.pair-index _ (slice_get-get_or c.args.pairs.now c.loop-pair.pair-index _ c.loop-pair-test.true)

pub loop-pair-preserved : goal.loop-pair-preserved
loop-pair-preserved c =
    adds-pair c.args.net.now c.args.choices c.args.pairs.now c.loop-pair.pair-index _ c.args.counts.now.items c.loop-pair.counts.items c.forward_pair.new.counts.items
    c.loop-pair-test.true c.loop-pair.invariant c.forward_pair.ensures
