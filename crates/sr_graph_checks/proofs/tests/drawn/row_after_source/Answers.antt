use Rattle.std.proofs.Common.{refl, arith}
use Rattle.sr_graph_checks.proofs.BegunLemmas.{AreAllNodes, begun-alone}
use Rattle.sr_graph_checks.proofs.tests.drawn.row_after_source.Goals as goal

pub row_after_from-requires : goal.row_after_from-requires
row_after_from-requires c =
    let all : AreAllNodes _ _ = record { long = c.in_ok-lost.ensures.long; each = c.in_ok-lost.ensures.each } in
    record {
      source = c.requires;
      begun = rw c.deref.ensures.value
          (begun-alone _ _ _ _ _ c.all_nodes.ensures.graph c.requires c.in_ok-cells.ensures all);
      name = refl;
      parts = (refl, omega (arith, c.new.ensures));
    }
