-- How the distances that a case leaves are kept.
use Rattle.std.specs.Prelude.{◌≡◌, ℕ, ◌<◌, ◌⊎◌, ◌==◌, if◌then◌else◌, nat_lt, List, [], ◌∷◌, All, length, slice_index, slice_set}
use Rattle.sr_model.specs.declared.link.TheConstants.{FAR}
use Rattle.sr_repair.specs.declared.row.ChangedCell.{ChangedCell}
use Rattle.sr_repair.specs.declared.row.TheConstants.{NO_WALK}

-- the cell has a place among 32 bits
abbrev pub IsNarrowCell : ℕ → Type 0
IsNarrowCell cell = (cell < NO_WALK) ⊎ (cell ≡ FAR)

-- so it is with each cell of the row
abbrev pub AreNarrowCells : List ℕ → Type 0
AreNarrowCells cells = (v : ℕ) → v < length cells → IsNarrowCell (slice_index cells v)

-- the cell in 32 bits
abbrev pub narrowed : ℕ → ℕ
narrowed cell = if nat_lt cell FAR then cell else NO_WALK

-- the cell that stands so in 32 bits
abbrev pub widened : ℕ → ℕ
widened cost = if cost == NO_WALK then FAR else cost

-- the row with the changed cells written over its own
unfoldable pub overwritten : List ℕ → List ChangedCell → List ℕ
overwritten row [] = row
overwritten row (changed ∷ more) = overwritten (slice_set row changed.node.0 (widened changed.cost)) more

-- each changed cell is one of the row
abbrev pub LieInRow : List ℕ → List ChangedCell → Type 0
LieInRow row changed = All (λ (c : ChangedCell). c.node.0 < length row) changed
