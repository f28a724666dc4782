use Rattle.sr_loads.proofs.RunLemmas.{IsForwarded}
use Rattle.sr_loads.proofs.forwarding.forward.Given as goal

abbrev pub invariant-loop-turn : goal.invariant-loop-turn
invariant-loop-turn l = IsForwarded l.net l.packet l.fn.counts.items l.turn l.counts.items l.node.0
