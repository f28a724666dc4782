-- Groups with the links that have them.
use Rattle.std.specs.Prelude.{◌≡◌, ◌↔◌, ℕ, ◌<◌, ◌≤◌, List, [], length, slice_index_or, Contains}
use Rattle.sr_model.specs.declared.link.LinkNo.{LinkNo}
use Rattle.sr_graph.specs.declared.sharing.Holding.{Holding}
use Rattle.sr_graph.specs.Bits.{IsIn}
use Rattle.sr_graph.specs.Sharing.{set_at}

-- the group, of the link
abbrev pub held_by : LinkNo → ℕ → Holding
held_by link group = record { group = group; link = link }

-- its group
abbrev pub held_group : Holding → ℕ
held_group holding = holding.group

-- what stands at place k
abbrev pub holding_at : List Holding → ℕ → Holding
holding_at list k = slice_index_or list k (record { group = 0; link = record { 0 = 0 } })

-- the group at place k
abbrev pub group_at : List Holding → ℕ → ℕ
group_at list k = (holding_at list k).group

-- the link at place k
abbrev pub holder_at : List Holding → ℕ → ℕ
holder_at list k = (holding_at list k).link.0

-- the list has the groups of the first n links
pub record AreHoldings (groups : List (List ℕ)) (n : ℕ) (list : List Holding) : Type 0 where
  pub each : (k : ℕ) → k < length list → (holder_at list k < n)
      × Contains (slice_index_or groups (holder_at list k) []) (group_at list k)
  pub all : (l r : ℕ) → l < n → Contains (slice_index_or groups l []) r
      → (k : ℕ) × (k < length list) × (holder_at list k ≡ l) × (group_at list k ≡ r)

-- from place i to below place j stands the group that stands at place i, and later ones from there on
pub record IsGroupRun (list : List Holding) (i j : ℕ) : Type 0 where
  pub forth : i < j
  pub inside : j ≤ length list
  pub same : (k : ℕ) → i ≤ k → k < j → group_at list k ≡ group_at list i
  pub later : (k : ℕ) → j ≤ k → k < length list → group_at list i < group_at list k

-- link l stands from place i to below place j
abbrev pub HasHolder : List Holding → ℕ → ℕ → ℕ → Type 0
HasHolder list i j l = (k : ℕ) × (i ≤ k) × (k < j) × (holder_at list k ≡ l)

-- below place n the links p and l stand with one group
pub record StandTogether (list : List Holding) (n p l : ℕ) : Type 0 where
  pub i : ℕ
  pub j : ℕ
  pub first : i < n
  pub second : j < n
  pub group : group_at list i ≡ group_at list j
  pub p_is : holder_at list i ≡ p
  pub l_is : holder_at list j ≡ l

-- the set of each link has the links that stand with it below place n
pub record AreJoined (list : List Holding) (n : ℕ) (sets : List (List ℕ)) : Type 0 where
  pub each : (p l : ℕ) → IsIn (set_at sets p) l ↔ StandTogether list n p l
