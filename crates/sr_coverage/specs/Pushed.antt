-- The table in which repairs are counted by kind and by how many labels they push, and what is told of it.
use Rattle.std.specs.Prelude.{◌≡◌, ℕ, ◌+◌, ◌*◌, ◌<◌, true, List, length, count_by, Some, slice_get, slice_index}
use Rattle.sr_model.specs.declared.audit.Item.{Item}
use Rattle.sr_model.specs.declared.case.Kind.{Kind}
use Rattle.sr_model.specs.Audit.{is_least, rank_of}
use Rattle.sr_model.specs.Label.{Net}
use Rattle.sr_model.specs.Repair.{Fits}
use Rattle.sr_insight.specs.declared.stack_count.StackCount.{StackCount}
use Rattle.sr_insight.specs.Stacks.{pushes}

-- a segment list that is let through at a node below v pushes fewer labels than w: one for each segment, and one
-- for the destination
abbrev pub IsWide : Net → ℕ → ℕ → Type 0
IsWide n v w = (u k : ℕ) → u < v → Fits n u k → k + 1 < w

-- each repair among the items pushes fewer labels than w
abbrev pub AreNarrow : List Item → ℕ → Type 0
AreNarrow items w = (k : ℕ) (item : Item) → slice_get items k ≡ Some item → is_least item.answer ≡ true
    → length item.labels < w

-- the slot of a kind and a number of labels below w
abbrev pub pushed_slot : ℕ → Kind → ℕ → ℕ
pushed_slot w kind labels = rank_of kind * w + labels

-- how many repairs push each number of labels, for each kind and each number below w
pub record AreTallied (w : ℕ) (items : List Item) (table : List ℕ) : Type 0 where
  pub long : length table ≡ 3 * w
  pub each : (kind : Kind) (labels : ℕ) → labels < w
      → slice_index table (pushed_slot w kind labels) ≡ count_by (pushes kind labels) items

-- the slot of a row
abbrev pub row_slot : ℕ → StackCount → ℕ
row_slot w row = pushed_slot w row.kind row.labels

-- a row for each of the first m slots that isn't 0, in order
pub record AreRowsOf (w : ℕ) (table : List ℕ) (m : ℕ) (rows : List StackCount) : Type 0 where
  pub each : (k : ℕ) (row : StackCount) → slice_get rows k ≡ Some row
      → (row.labels < w) × (row_slot w row < m) × (row.repairs ≡ slice_index table (row_slot w row)) × (0 < row.repairs)
  pub ascending : (j k : ℕ) (a b : StackCount) → j < k → slice_get rows j ≡ Some a → slice_get rows k ≡ Some b
      → row_slot w a < row_slot w b
  pub all : (slot : ℕ) → slot < m → 0 < slice_index table slot
      → (k : ℕ) × (row : StackCount) × (slice_get rows k ≡ Some row) × (row_slot w row ≡ slot)
