use Rattle.std.proofs.Common.{◌≡◌, ◌++◌, map, take}
use Rattle.sr_graph.specs.Holdings.{held_by}
use Rattle.sr_graph.proofs.sharing.add_holdings.Given as goal

abbrev pub invariant-loop-group : goal.invariant-loop-group
invariant-loop-group l = l.out.items ≡ l.fn.out.items ++ map (held_by l.link) (take l.group-index l.groups)
