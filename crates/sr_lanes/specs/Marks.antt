-- Marks at tight nodes.
use Rattle.std.specs.Prelude.{◌≡◌, ℕ, ◌<◌, ◌≤◌, List, length, slice_index}
use Rattle.sr_lanes.specs.Passes.{AreCells, marked}
use Rattle.sr_lanes.specs.declared.limits.TheConstants.{CELL_AT_MOST}

-- the rows are as long as the marks, and no sum of the cost and a cell is too large
pub record CanBeMarked (row : List ℕ) (cost : ℕ) (base hits : List ℕ) : Type 0 where
  pub lengths : (length row ≡ length hits) × (length base ≡ length hits)
  pub low : cost ≤ CELL_AT_MOST
  pub cells : AreCells base

-- the cells below this place are marked where they are tight, and the others are as they were
pub record AreMarked (row : List ℕ) (cost : ℕ) (base before : List ℕ) (end : ℕ) (after : List ℕ) : Type 0 where
  pub done : (v : ℕ) → v < end → slice_index after v ≡ marked row cost base before v
  pub rest : (v : ℕ) → end ≤ v → slice_index after v ≡ slice_index before v
