use Rattle.std.proofs.Common.{take}
use Rattle.sr_loads.specs.Packets.{packets_of}
use Rattle.sr_loads.specs.Tally.{AddsPackets}
use Rattle.sr_loads.proofs.batch.forward_pairs.Given as goal

-- the packets of the pairs so far are counted
abbrev pub invariant-loop-pair : goal.invariant-loop-pair
invariant-loop-pair l = AddsPackets l.net (packets_of l.choices (take l.pair-index l.pairs)) l.fn.counts.items l.counts.items
