-- Links at a node, matched by keys, that are in the same risk groups.
use Rattle.std.specs.Prelude.{◌≡◌, ℕ, ◌<◌}
use Rattle.sr_model.specs.Graph.{Graph, link_count, groups_at}
use Rattle.sr_model.specs.Case.{Touches}
use Rattle.sr_model.specs.Stay.{HaveSameName}

-- link l of g has a partner in h, which is in the same groups
abbrev pub IsGroupedAlike : Graph → Graph → ℕ → Type 0
IsGroupedAlike g h l = (k : ℕ) × HaveSameName g h l k × (groups_at g l ≡ groups_at h k)

-- so has each link of g that begins or ends at node v
abbrev pub HaveGroupsIn : Graph → Graph → ℕ → Type 0
HaveGroupsIn g h v = (l : ℕ) → l < link_count g → Touches g l v → IsGroupedAlike g h l

-- the links that begin or end at node v are of the same keys in both graphs, and in the same groups
pub record HaveSameGroupsAt (g h : Graph) (v : ℕ) : Type 0 where
  pub there : HaveGroupsIn g h v
  pub back : HaveGroupsIn h g v
