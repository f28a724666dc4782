use Rattle.std.proofs.Common.{◌≡◌, ◌++◌, flat_map, vec_items}
use Rattle.sr_audit.proofs.audits.joined.Given as goal

-- all items are those so far, and then those of the lists to come
abbrev pub invariant-loop-list : goal.invariant-loop-list
invariant-loop-list l = flat_map vec_items l.fn.lists.items ≡ l.items.items ++ flat_map vec_items l.list-iterator.rest.items
