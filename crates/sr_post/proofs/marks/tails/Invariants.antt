use Rattle.std.proofs.Common.{◌≡◌, ℕ, ◌<◌, true, length, Some}
use Rattle.std.specs.Prelude.{slice_get}
use Rattle.sr_lanes.specs.Bits.{is_in}
use Rattle.sr_lanes.specs.declared.words.NodeBits.{NodeBits}
use Rattle.sr_model.specs.Graph.{node_count, tail, head}
use Rattle.sr_post.proofs.marks.tails.Given as goal

abbrev pub invariant-loop-l : goal.invariant-loop-l
invariant-loop-l l = record {
  long : length l.tails.items ≡ node_count l.graph;
  each : (v : ℕ) (set : NodeBits) → slice_get l.tails.items v ≡ Some set
      → (k : ℕ) → k < l.l → head l.graph k ≡ v → is_in set (tail l.graph k) ≡ true;
}
