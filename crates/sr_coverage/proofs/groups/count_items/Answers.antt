use Rattle.std.proofs.Common.{◌≡◌, ◌+◌, ◌<◌, ◌∷◌, ◌++◌, [], length, get_or, take, refl, sym, ap, ◌∙◌, subst, arith}
use Rattle.std.proofs.lemmas.List.{get_or_read, take_more}
use Rattle.std.proofs.lemmas.Option.{slice_get_read}
use Rattle.sr_model.specs.declared.audit.Counts.{Counts}
use Rattle.sr_model.specs.declared.audit.Item.{Item}
use Rattle.sr_insight.specs.declared.group.Group.{Group}
use Rattle.sr_coverage.specs.Counting.{CanCountMore, no_group}
use Rattle.sr_coverage.proofs.GroupLemmas.{counted-push, counts-room}
use Rattle.sr_coverage.proofs.groups.count_items.Goals as goal

pub group_number-place-requires : goal.group_number-place-requires
group_number-place-requires c =
    (c.requires.within c.loop-item.item-index c.item-item.result (slice_get_read c.args.items.now (length c.args.items.now) c.loop-item.item-index c.item-item.result refl (omega arith) c.item-item.is)).0

pub index-requires : goal.index-requires
index-requires c =
    let within = (c.requires.within c.loop-item.item-index c.item-item.result (slice_get_read c.args.items.now (length c.args.items.now) c.loop-item.item-index c.item-item.result refl (omega arith) c.item-item.is)).1 in
    omega (arith, within, c.group_number-place.ensures, c.loop-item.invariant.long, c.loop-item.groups.ok.0)

pub with_answer-requires : goal.with_answer-requires
with_answer-requires c =
    let within = (c.requires.within c.loop-item.item-index c.item-item.result (slice_get_read c.args.items.now (length c.args.items.now) c.loop-item.item-index c.item-item.result refl (omega arith) c.item-item.is)).1 in
    let place = c.group_number-place.result in
    let lt : place < length c.loop-item.groups.items = omega (arith, within, c.group_number-place.ensures, c.loop-item.invariant.long) in
    let is : c.index.result.now ≡ get_or c.loop-item.groups.items place no_group = get_or_read c.loop-item.groups.items place c.index.result.now lt c.index.ensures no_group in
    let counts = ap (λ (a : Group). a.counts) (is ∙ c.loop-item.invariant.each place lt) in
    subst (λ (k : Counts). CanCountMore k) (sym counts) (counts-room c.args.grouping c.args.graph.now c.args.items.now c.loop-item.item-index place (omega arith) c.requires.few)

pub index_mut-requires : goal.index_mut-requires
index_mut-requires c =
    let within = (c.requires.within c.loop-item.item-index c.item-item.result (slice_get_read c.args.items.now (length c.args.items.now) c.loop-item.item-index c.item-item.result refl (omega arith) c.item-item.is)).1 in
    omega (arith, within, c.group_number-place.ensures, c.loop-item.invariant.long, c.loop-item.groups.ok.0)

pub loop-item-preserved : goal.loop-item-preserved
loop-item-preserved c =
    let items = c.args.items.now in
    let i = c.loop-item.item-index in
    let item = c.item-item.result in
    let groups = c.loop-item.groups.items in
    let place = c.group_number-place.result in
    let within = (c.requires.within i item (slice_get_read items (length items) i item refl (omega arith) c.item-item.is)).1 in
    let lt : place < length groups = omega (arith, within, c.group_number-place.ensures, c.loop-item.invariant.long) in
    let more : take (i + 1) items ≡ take i items ++ item ∷ [] = take_more items i item (omega arith) ∙ ap (λ (x : Item). take i items ++ x ∷ []) (sym c.item-item.is) in
    let read : c.index.result.now ≡ get_or groups place no_group = get_or_read groups place c.index.result.now lt c.index.ensures no_group in
    let written : c.index_mut.result.now ≡ get_or groups place no_group = get_or_read groups place c.index_mut.result.now lt c.index_mut.ensures.value no_group in
    rw (more, c.with_answer.ensures, read, written)
    (counted-push c.args.grouping c.args.graph.now (take i items) item groups place c.loop-item.invariant c.group_number-place.ensures lt)
