use Rattle.sr_loads.specs.Packets.{ArePairsBefore, pair}
use Rattle.sr_loads.proofs.pairs.push_from.Given as goal

abbrev pub invariant-loop-number : goal.invariant-loop-number
invariant-loop-number l = ArePairsBefore l.net (pair l.from.0 l.number) l.pairs.items
