-- Lists of cells, and hops that are kept, which sets of nodes change.
use Rattle.std.specs.Prelude.{◌≡◌, ℕ, ◌<◌, ◌⊎◌, Bool, true, not, ◌&&◌, List, [], length, All, Contains, slice_index}
use Rattle.sr_lanes.specs.Bits.{is_in}
use Rattle.sr_lanes.specs.declared.words.NodeBits.{NodeBits}
use Rattle.sr_model.specs.Graph.{Graph, node_count}
use Rattle.sr_model.specs.Walk.{IsRow}
use Rattle.sr_model.specs.declared.link.LinkNo.{LinkNo}
use Rattle.sr_model.specs.declared.link.NodeNo.{NodeNo}
use Rattle.sr_model.specs.declared.link.TheConstants.{FAR}
use Rattle.sr_post.specs.declared.kept.HopNodes.{HopNodes}
use Rattle.sr_post.specs.declared.kept.KeptHops.{KeptHops}
use Rattle.sr_post.specs.Kept.{AreKeptHops, AreLost, IsKept}
use Rattle.sr_spf.specs.Nodes.{listed_at}

-- the hop is kept towards the nodes of the set, which are left no more
pub record KeepsHop (before : KeptHops) (hop : LinkNo) (nodes : NodeBits) (after : KeptHops) : Type 0 where
  pub less : (v : ℕ) → is_in after.left v ≡ (is_in before.left v && not (is_in nodes v))
  pub older : (e : HopNodes) → Contains before.kept.items e → Contains after.kept.items e
  pub newer : (e : HopNodes) → Contains after.kept.items e
      → Contains before.kept.items e ⊎ (e ≡ record { hop = hop; nodes = nodes })
  pub these : (v : ℕ) → is_in nodes v ≡ true → Contains after.kept.items (record { hop = hop; nodes = nodes })

-- the hops are kept from s in spite of x, and the nodes that are left are lost
pub record AreKeptAndLost (g : Graph) (x : List Bool) (s : ℕ) (hops : KeptHops) : Type 0 where
  pub kept : AreKeptHops g x s hops.kept.items
  pub lost : AreLost g x s hops.left

-- the nodes that are kept have their cells of the row, and the others FAR, and are listed
pub record AreKeptCells (g : Graph) (x : List Bool) (s : ℕ) (row cells : List ℕ) (lost : List NodeNo) : Type 0 where
  pub long : length cells ≡ node_count g
  pub each : (v : ℕ) → v < node_count g
      → (IsKept g x s v × (slice_index cells v ≡ slice_index row v))
      ⊎ ((IsKept g x s v → ⊥) × (slice_index cells v ≡ FAR) × Contains lost (record { 0 = v }))
  pub nodes : All (λ (k : NodeNo). k.0 < node_count g) lost
  pub gone : (j : ℕ) → j < length lost → IsKept g x s (listed_at lost j) → ⊥

-- they are so for the distances from s in the whole graph
abbrev pub HaveKeptCells : Graph → List Bool → ℕ → List ℕ → List NodeNo → Type 0
HaveKeptCells g x s cells lost = (row : List ℕ) × IsRow g [] s row × AreKeptCells g x s row cells lost
