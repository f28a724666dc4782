use Rattle.std.proofs.Common.{◌≡◌, ◌+◌, ◌<◌, ◌∷◌, ◌++◌, [], true, length, get_or, take, refl, sym, ap, ◌∙◌, arith}
use Rattle.std.proofs.lemmas.List.{get_or_read, take_more}
use Rattle.std.proofs.lemmas.Option.{slice_get_read}
use Rattle.sr_model.specs.declared.audit.Item.{Item}
use Rattle.sr_model.specs.Audit.{is_least}
use Rattle.sr_coverage.specs.Pushed.{pushed_slot}
use Rattle.sr_coverage.proofs.PushedLemmas.{slot-within, tallied-room, tallied-skip, tallied-push}
use Rattle.sr_coverage.proofs.pushed.tallied.Goals as goal
use Rattle.sr_coverage.proofs.pushed.tallied.Goals.{then-has_list, else-has_list}

pub overflow_add-index_mut : goal.overflow_add-index_mut
overflow_add-index_mut c =
    let items = c.args.items.now in
    let i = c.loop-item.item-index in
    let item = c.item-item.result in
    let width = c.args.width in
    let table = c.loop-item.table.items in
    let slot = c.pushed_slot-slot.result in
    let few = c.requires.narrow i item (slice_get_read items (length items) i item refl (omega arith) c.item-item.is) (sym c.has_list.ensures ∙ c.if-has_list.true) in
    let at : slot ≡ pushed_slot width item.case.kind (length item.labels) = c.pushed_slot-slot.ensures.slot ∙ ap (λ l. pushed_slot width item.case.kind (length l)) c.as_slice.ensures in
    let lt : slot < length table = omega (arith, at, slot-within width item.case.kind (length item.labels) few, c.loop-item.invariant.long) in
    let read : c.index_mut.result.now ≡ get_or table slot 0 = get_or_read table slot c.index_mut.result.now lt c.index_mut.ensures.value 0 in
    let room = tallied-room width items i table item.case.kind (length item.labels) few (omega arith) c.requires.few c.loop-item.invariant in
    omega (arith, read, room, ap (λ k. get_or table k 0) at)

pub loop-item-preserved : goal.loop-item-preserved
loop-item-preserved c =
    let items = c.args.items.now in
    let i = c.loop-item.item-index in
    let item = c.item-item.result in
    let width = c.args.width in
    let table = c.loop-item.table.items in
    let more : take (i + 1) items ≡ take i items ++ item ∷ [] = take_more items i item (omega arith) ∙ ap (λ (x : Item). take i items ++ x ∷ []) (sym c.item-item.is) in
    elim c.if-has_list.branch [
      | then-has_list w ↦
          let least : is_least item.answer ≡ true = sym c.has_list.ensures ∙ w.if-has_list.true in
          let few = c.requires.narrow i item (slice_get_read items (length items) i item refl (omega arith) c.item-item.is) least in
          let at : w.pushed_slot-slot.result ≡ pushed_slot width item.case.kind (length item.labels) = w.pushed_slot-slot.ensures.slot ∙ ap (λ l. pushed_slot width item.case.kind (length l)) w.as_slice.ensures in
          let lt : w.pushed_slot-slot.result < length table = omega (arith, at, slot-within width item.case.kind (length item.labels) few, c.loop-item.invariant.long) in
          let read : w.index_mut.result.now ≡ get_or table w.pushed_slot-slot.result 0 = get_or_read table w.pushed_slot-slot.result w.index_mut.result.now lt w.index_mut.ensures.value 0 in
          rw (more, w.table-is, read) (tallied-push width (take i items) item table w.pushed_slot-slot.result least few at c.loop-item.invariant)
      | else-has_list w ↦ rw (more, w.table-is) (tallied-skip width (take i items) item table (sym c.has_list.ensures ∙ w.if-has_list.false) c.loop-item.invariant)
    ]
