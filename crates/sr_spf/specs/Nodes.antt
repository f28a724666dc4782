-- Lists of nodes.
use Rattle.std.specs.Prelude.{◌≡◌, ℕ, ◌<◌, List, length, slice_index_or}
use Rattle.sr_model.specs.declared.link.NodeNo.{NodeNo}

-- the node at place j
abbrev pub listed_at : List NodeNo → ℕ → ℕ
listed_at nodes j = (slice_index_or nodes j (record { 0 = 0 })).0

-- the nodes are those below m that have the property, ascending
pub record AreThose (P : ℕ → Type 0) (m : ℕ) (nodes : List NodeNo) : Type 0 where
  pub ascending : (i j : ℕ) → i < j → j < length nodes → listed_at nodes i < listed_at nodes j
  pub each : (j : ℕ) → j < length nodes → (listed_at nodes j < m) × P (listed_at nodes j)
  pub all : (v : ℕ) → v < m → P v → (j : ℕ) × (j < length nodes) × (listed_at nodes j ≡ v)
