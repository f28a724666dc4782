use Rattle.std.proofs.Common.{◌≡◌, ◌<◌, false, List, [], length, arith, sym, ◌∙◌, subst}
use Rattle.std.proofs.lemmas.List.{get_or_default}
use Rattle.sr_model.specs.Graph.{has}
use Rattle.sr_spf.specs.Lost.{StandsBut, AreCellsWithout}
use Rattle.sr_spf.specs.Trees.{row_at}
use Rattle.sr_spf.proofs.RenewedLemmas.{row-stands}
use Rattle.sr_spf.proofs.renewed.found_row.Goals as goal

pub cells_without-requires : goal.cells_without-requires
cells_without-requires c =
    let row : c.as_slice.result.now ≡ row_at c.args.old.now c.args.node.0 = c.as_slice.ensures ∙ c.get.ensures [] in
    let lt : c.args.node.0 < length c.args.renewal.now.stays.items = omega (arith, c.requires.old.marks, c.requires.node) in
    let off : has c.args.renewal.now.stays.items c.args.node.0 ≡ false = get_or_default c.args.renewal.now.stays.items c.args.node.0 false c.index.result.now lt ∙ sym c.index.ensures ∙ c.if-index.false in
    let stands : StandsBut c.args.graph.now c.args.node.0 (row_at c.args.old.now c.args.node.0) c.index-lost.result.now = row-stands c.args.graph.now c.args.old.now c.args.renewal.now c.args.node.0 c.index-lost.result.now c.requires.old c.requires.node off c.index-lost.ensures in
    λ v is. subst (λ (r : List _). v < length r) (sym row) (stands.within v is)

pub measured_after-requires-clause-begun : goal.measured_after-requires-clause-begun
measured_after-requires-clause-begun c =
    let row : c.as_slice.result.now ≡ row_at c.args.old.now c.args.node.0 = c.as_slice.ensures ∙ c.get.ensures [] in
    let lt : c.args.node.0 < length c.args.renewal.now.stays.items = omega (arith, c.requires.old.marks, c.requires.node) in
    let off : has c.args.renewal.now.stays.items c.args.node.0 ≡ false = get_or_default c.args.renewal.now.stays.items c.args.node.0 false c.index.result.now lt ∙ sym c.index.ensures ∙ c.if-index.false in
    let stands : StandsBut c.args.graph.now c.args.node.0 (row_at c.args.old.now c.args.node.0) c.index-lost.result.now = row-stands c.args.graph.now c.args.old.now c.args.renewal.now c.args.node.0 c.index-lost.result.now c.requires.old c.requires.node off c.index-lost.ensures in
    let clear : AreCellsWithout (row_at c.args.old.now c.args.node.0) c.index-lost.result.now c.in_ok-cells.cells.items = subst (λ (r : List _). AreCellsWithout r c.index-lost.result.now c.in_ok-cells.cells.items) row c.in_ok-cells.ensures in
    rw c.deref.ensures.value (stands.begun c.in_ok-cells.cells.items c.in_ok-nodes.nodes.items clear c.in_ok-nodes.ensures)
