use Rattle.std.proofs.Common.{◌≡◌, ◌<◌, List, length, true, slice_index, arith, ap, sym, ◌∙◌, subst}
use Rattle.sr_lanes.specs.Bits.{is_in}
use Rattle.sr_lanes.proofs.SizeLemmas.{size-less}
use Rattle.sr_repair.specs.declared.row.ChangedCell.{ChangedCell}
use Rattle.sr_repair.specs.Rows.{widened}
use Rattle.sr_repair.proofs.RowLemmas.{IsWriting, widened-narrowed, writing-end, writing-next, writing-start}
use Rattle.sr_repair.proofs.row.changed_from.Goals as goal

pub left-init : goal.left-init
left-init c =
    rw c.in_ok-changed.ensures.items (writing-start c.args.base.now c.args.cells.now c.differ-left.result c.requires.long c.differ-left.ensures)

pub left-smaller : goal.left-smaller
left-smaller c = size-less c.left.left c.take_first.new.self c.in-Some.node c.in-Some.ensures.first c.in-Some.ensures.left

pub left-preserved : goal.left-preserved
left-preserved c =
    let node = c.in-Some.node in
    let one : is_in c.left.left node ≡ true = c.in-Some.ensures.first.member in
    let inside : node < length c.args.cells.now = omega (arith, c.left.invariant.within node one, c.requires.long) in
    let last : ChangedCell = record { node = record { 0 = node }; cost = c.narrowed.result } in
    let back : widened c.narrowed.result ≡ slice_index c.args.cells.now node = ap widened c.narrowed.ensures ∙ widened-narrowed (slice_index c.args.cells.now node) (c.requires.narrow node inside) in
    subst (IsWriting c.args.base.now c.args.cells.now c.take_first.new.self) (sym {A = List ChangedCell} c.in_ok-push.ensures.items)
    (writing-next c.args.base.now c.args.cells.now c.left.left c.take_first.new.self c.left.changed.items last c.left.invariant one c.in-Some.ensures.left back)

pub returns-clause-written : goal.returns-clause-written
returns-clause-written c =
    writing-end c.args.base.now c.args.cells.now c.left.left c.left.changed.items c.left.invariant c.in_default.ensures.first
