use Rattle.std.proofs.Common.{reverse}
use Rattle.sr_fib.specs.Entries.{numbers}
use Rattle.sr_forward.proofs.RunLemmas.{IsUnderWay}
use Rattle.sr_forward.proofs.walks.walk.Given as goal

abbrev pub invariant-loop-turn : goal.invariant-loop-turn
invariant-loop-turn l =
    IsUnderWay l.net l.closed l.choice l.fn.node.0 (reverse l.fn.stack.items) l.turn (numbers l.links.items) l.end.0 (reverse l.rest.items)
