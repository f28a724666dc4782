use Rattle.sr_loads.specs.Packets.{packets_between}
use Rattle.sr_loads.specs.Tally.{AddsPackets}
use Rattle.sr_loads.proofs.forwarding.forward_pair.Given as goal

abbrev pub invariant-loop-choice : goal.invariant-loop-choice
invariant-loop-choice l = AddsPackets l.net (packets_between l.choice l.pair) l.fn.counts.items l.counts.items
