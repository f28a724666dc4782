use Rattle.sr_loads.specs.Packets.{ArePairsBefore, pair}
use Rattle.sr_loads.proofs.pairs.pairs_of.Given as goal

abbrev pub invariant-loop-from : goal.invariant-loop-from
invariant-loop-from l = ArePairsBefore l.net (pair l.from 0) l.pairs.items
