-- How many labels the repairs of an audit push (this project's rules).
use Rattle.std.specs.Prelude.{◌≡◌, ℕ, ◌<◌, ◌⊎◌, ◌==◌, ◌&&◌, Bool, true, List, Some, length, count_by, slice_get, sum_by}
use Rattle.sr_model.specs.declared.audit.Item.{Item}
use Rattle.sr_model.specs.declared.case.Kind.{Kind}
use Rattle.sr_model.specs.Audit.{IsAudit, counts_of, is_least, rank_of}
use Rattle.sr_model.specs.Label.{Net}
use Rattle.sr_insight.specs.declared.stack_count.StackCount.{StackCount}

-- the item is a repair of a case of this kind, and pushes this many labels
abbrev pub pushes : Kind → ℕ → Item → Bool
pushes kind labels item =
    is_least item.answer && (rank_of item.case.kind == rank_of kind) && (length item.labels == labels)

-- by kind, then by how many labels
abbrev pub StackBefore : StackCount → StackCount → Type 0
StackBefore a b =
    (rank_of a.kind < rank_of b.kind) ⊎ ((rank_of a.kind ≡ rank_of b.kind) × (a.labels < b.labels))

-- for each kind and each number of labels that a repair among these items pushes, how many do so
pub record AreStackCounts (items : List Item) (counts : List StackCount) : Type 0 where
  pub each : (k : ℕ) (count : StackCount) → slice_get counts k ≡ Some count
      → (count.repairs ≡ count_by (pushes count.kind count.labels) items) × (0 < count.repairs)
  pub ascending : (j k : ℕ) (a b : StackCount) → j < k → slice_get counts j ≡ Some a → slice_get counts k ≡ Some b
      → StackBefore a b
  pub all : (n : ℕ) (item : Item) → slice_get items n ≡ Some item → is_least item.answer ≡ true
      → (k : ℕ) × (count : StackCount) × (slice_get counts k ≡ Some count)
      × (pushes count.kind count.labels item ≡ true)

-- those of the audit of a net
pub record HasStackCounts (n : Net) (counts : List StackCount) : Type 0 where
  pub items : List Item
  pub audit : IsAudit n items
  pub counts_are : AreStackCounts items counts

-- the repairs that are counted are those that the audit covers
abbrev pub StackCountsAddUp : Type 0
StackCountsAddUp = (items : List Item) (counts : List StackCount) → AreStackCounts items counts
    → sum_by (λ (count : StackCount). count.repairs) counts ≡ (counts_of items).covered

-- the items of an audit have one list of stack counts
abbrev pub StackCountsAreDetermined : Type 0
StackCountsAreDetermined = (items : List Item) (one two : List StackCount)
    → AreStackCounts items one → AreStackCounts items two → one ≡ two
