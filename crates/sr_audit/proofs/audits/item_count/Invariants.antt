use Rattle.std.proofs.Common.{◌≡◌, length, take, flat_map, vec_items}
use Rattle.sr_audit.proofs.audits.item_count.Given as goal

-- how many items the lists so far have
abbrev pub invariant-loop-list : goal.invariant-loop-list
invariant-loop-list l = l.count ≡ length (flat_map vec_items (take l.list-index l.fn.lists))
