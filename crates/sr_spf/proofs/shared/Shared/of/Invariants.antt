use Rattle.std.proofs.Common.{◌≡◌, ◌++◌}
use Rattle.sr_spf.proofs.shared.Shared.of.Given as goal

abbrev pub invariant-loop-item : goal.invariant-loop-item
invariant-loop-item g l = l.shared ++ l.item-iterator.rest.items ≡ l.fn.items.items
