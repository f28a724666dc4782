-- Overloaded nodes, as they are marked.
use Rattle.std.specs.Prelude.{◌≡◌, ◌↔◌, ℕ, ◌<◌, Bool, true, List, length, slice_index, Contains}
use Rattle.sr_model.specs.Graph.{Graph, node_count, system_at, has, is_overloaded}

-- there is a test for each of the systems, and it tells whether that is one of the overloaded ones
pub record AreMarks (systems overloaded : List ℕ) (tests : List Bool) : Type 0 where
  pub long : length tests ≡ length systems
  pub each : (v : ℕ) → v < length systems → (has tests v ≡ true) ↔ Contains overloaded (slice_index systems v)

-- the same graph, but that just the nodes with these system ids are overloaded
pub record IsMarked (before : Graph) (overloaded : List ℕ) (after : Graph) : Type 0 where
  pub systems : after.systems ≡ before.systems
  pub links : after.links ≡ before.links
  pub groups : after.groups ≡ before.groups
  pub long : length after.overloaded ≡ node_count before
  pub each : (v : ℕ) → v < node_count before → (is_overloaded after v ≡ true)
      ↔ Contains overloaded (system_at before v)
