-- The nodes that keep their distance in a failure, the next hops that still lead to them, and how both are told.
use Rattle.std.specs.Prelude.{◌≡◌, ◌≢◌, ℕ, ◌<◌, ◌≤◌, ◌⊎◌, Bool, true, false, List, [], All, Contains}
use Rattle.sr_lanes.specs.Bits.{is_in}
use Rattle.sr_lanes.specs.declared.words.NodeBits.{NodeBits}
use Rattle.sr_model.specs.Graph.{Graph, node_count, link_count, head, has}
use Rattle.sr_model.specs.Walk.{IsNextHop}
use Rattle.sr_model.specs.Space.{InP}
use Rattle.sr_model.specs.Case.{Touches}
use Rattle.sr_post.specs.declared.kept.HopNodes.{HopNodes}

-- link l leads from s towards v in spite of x: it is outside x, begins a shortest walk to v, and v is in P of its end
pub record LeadsTo (g : Graph) (x : List Bool) (s v l : ℕ) : Type 0 where
  pub outside : has x l ≡ false
  pub hop : IsNextHop g [] s v l
  pub space : InP g x (head g l) v

-- towards each node outside the set a next hop of s that hasn't failed leads in spite of x: of the nodes in the set
-- it isn't known
pub record AreDoubtful (g : Graph) (x : List Bool) (s : ℕ) (set : NodeBits) : Type 0 where
  pub sure : (v h : ℕ) → is_in set v ≡ false → IsNextHop g [] s v h → has x h ≡ false → LeadsTo g x s v h

-- each link of x begins or ends at s
abbrev pub LieAt : Graph → List Bool → ℕ → Type 0
LieAt g x s = (l : ℕ) → l < link_count g → has x l ≡ true → Touches g l s

-- v is s, or some link leads from s towards v in spite of x: its distance from s is kept
abbrev pub IsKept : Graph → List Bool → ℕ → ℕ → Type 0
IsKept g x s v = (v ≡ s) ⊎ ((l : ℕ) × LeadsTo g x s v l)

-- a next hop of s towards v is a link of x
abbrev pub LosesHop : Graph → List Bool → ℕ → ℕ → Type 0
LosesHop g x s v = (h : ℕ) × IsNextHop g [] s v h × (has x h ≡ true)

-- nodes but s: those that lose a next hop are in the set, and to those outside it some link leads from s in spite of x
pub record AreEndangered (g : Graph) (x : List Bool) (s : ℕ) (set : NodeBits) : Type 0 where
  pub within : (v : ℕ) → is_in set v ≡ true → (v < node_count g) × (v ≢ s)
  pub losing : (v : ℕ) → LosesHop g x s v → is_in set v ≡ true
  pub safe : (v : ℕ) → v < node_count g → v ≢ s → is_in set v ≡ false → (l : ℕ) × LeadsTo g x s v l

-- the set has just the nodes but s to which no link leads from s in spite of x
pub record AreLost (g : Graph) (x : List Bool) (s : ℕ) (set : NodeBits) : Type 0 where
  pub within : (v : ℕ) → is_in set v ≡ true → (v < node_count g) × (v ≢ s)
  pub lost : (v l : ℕ) → is_in set v ≡ true → LeadsTo g x s v l → ⊥
  pub led : (v : ℕ) → v < node_count g → v ≢ s → is_in set v ≡ false → (l : ℕ) × LeadsTo g x s v l

-- link l is the least that leads from s towards v in spite of x
pub record IsKeptHop (g : Graph) (x : List Bool) (s v l : ℕ) : Type 0 where
  pub leads : LeadsTo g x s v l
  pub least : (k : ℕ) → LeadsTo g x s v k → l ≤ k

-- the link is the least that leads from s in spite of x towards each node that stands with it
abbrev pub IsSharedHop : Graph → List Bool → ℕ → HopNodes → Type 0
IsSharedHop g x s kept = (v : ℕ) → is_in kept.nodes v ≡ true → IsKeptHop g x s v kept.hop.0

-- each link of the list is the least that leads from s in spite of x towards each node that stands with it, and each
-- node that loses a next hop, and to which some link leads, stands with one
pub record AreKeptHops (g : Graph) (x : List Bool) (s : ℕ) (kept : List HopNodes) : Type 0 where
  pub least : All (IsSharedHop g x s) kept
  pub all : (v l : ℕ) → LosesHop g x s v → LeadsTo g x s v l
      → (e : HopNodes) × Contains kept e × (is_in e.nodes v ≡ true)
