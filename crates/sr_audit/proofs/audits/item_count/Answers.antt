use Rattle.std.proofs.Common.{arith, vec_items}
use Rattle.std.proofs.lemmas.List.Folds.{length-flat_map-take}
use Rattle.sr_audit.proofs.audits.item_count.Goals as goal

pub overflow_add-count : goal.overflow_add-count
overflow_add-count c =
    let list = c.list-item.result in
    let within = rw (← c.list-item.is) at (length-flat_map-take vec_items c.args.lists.now c.loop-list.list-index list c.loop-list-test.true) in
    omega (arith, within, c.requires, c.loop-list.invariant, c.len-count.ensures, list.ok.0)
