use Rattle.sr_fib.specs.Tables.{AreLinkLists}
use Rattle.sr_fib.proofs.sids.Sids.build.Given as goal

abbrev pub invariant-loop-node : goal.invariant-loop-node
invariant-loop-node l = AreLinkLists l.net l.links.items l.node
