use Rattle.std.proofs.Common.{◌≡◌, take}
use Rattle.sr_graph.proofs.copied.copied_lists.Given as goal

abbrev pub invariant-loop-list : goal.invariant-loop-list
invariant-loop-list g l = l.copies.items ≡ take l.list-index l.lists
