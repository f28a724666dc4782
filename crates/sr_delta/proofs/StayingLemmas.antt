-- The nodes that stay, from the trees that do and the nodes with the same labels.
use Rattle.std.proofs.Common.{◌≡◌, ℕ, Bool, false, List, arith, sym, ◌∙◌}
use Rattle.std.specs.Prelude.{◌&&◌}
use Rattle.std.proofs.lemmas.Bool.{and_from, and_left, and_parts}
use Rattle.std.proofs.lemmas.List.{get_or_past}
use Rattle.sr_model.specs.Graph.{node_count, has}
use Rattle.sr_model.specs.Label.{Net}
use Rattle.sr_lanes.specs.declared.words.NodeBits.{NodeBits}
use Rattle.sr_lanes.specs.Bits.{is_in}
use Rattle.sr_delta.specs.Alike.{IsSetOf, HasSameLabels}
use Rattle.sr_delta.specs.KeptTrees.{AreKeptTrees}
use Rattle.sr_delta.specs.Stayers.{AreStaying}

pub staying-from_marks : (n m : Net) (marks : List Bool) (labels trees nodes : NodeBits) → AreKeptTrees n m marks
    → IsSetOf (HasSameLabels n m) (node_count n.graph) labels → ((v : ℕ) → is_in trees v ≡ has marks v)
    → ((v : ℕ) → is_in nodes v ≡ (is_in trees v && is_in labels v)) → AreStaying n m (record { trees = trees; nodes = nodes })
staying-from_marks n m marks labels trees nodes kept alike tests both = record {
  trees = record {
    each = λ v lt. (λ yes'. (kept.each v lt).0 (sym (tests v) ∙ yes'), λ stays. tests v ∙ (kept.each v lt).1 stays);
    above = λ v le. tests v ∙ get_or_past marks v false (omega (arith, kept.long));
  };
  nodes = record {
    each = λ v lt. (
      λ yes'.
          let parts = and_parts (is_in trees v) (is_in labels v) (sym (both v) ∙ yes') in
          let same : HasSameLabels n m v = (alike.each v lt).0 parts.1 in
          record {
            tree = (kept.each v lt).0 (sym (tests v) ∙ parts.0);
            index = same.index;
            keep = same.keep;
            explicit = same.explicit;
            adj = same.adj;
          },
      λ node. both v ∙ and_from (is_in trees v) (is_in labels v)
          (tests v ∙ (kept.each v lt).1 node.tree)
          ((alike.each v lt).1 (record { index = node.index; keep = node.keep; explicit = node.explicit; adj = node.adj })),
    );
    above = λ v le. both v ∙ and_left (is_in trees v) (is_in labels v) (tests v ∙ get_or_past marks v false (omega (arith, kept.long)));
  };
}
