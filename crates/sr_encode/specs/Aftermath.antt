-- What a failure leaves, as a search sees it.
use Rattle.std.specs.Prelude.{◌≡◌, ◌⊎◌, ℕ, ◌+◌, ◌<◌, Bool, true, List, [], slice_index}
use Rattle.sr_lanes.specs.declared.words.NodeBits.{NodeBits}
use Rattle.sr_lanes.specs.Bits.{is_in}
use Rattle.sr_model.specs.Case.{Touches}
use Rattle.sr_model.specs.Graph.{Graph, node_count, link_count, has, IsGraph}
use Rattle.sr_model.specs.Label.{Net}
use Rattle.sr_model.specs.Walk.{IsDistance, IsRow}
use Rattle.sr_post.specs.Kept.{LieAt}

-- a net, the links of it that fail, a source, and the distances from the source without those links
pub record Aftermath : Type 0 where
  pub net : Net
  pub failed : List Bool
  pub source : ℕ
  pub post : List ℕ

-- these belong together
pub record IsAftermath (after : Aftermath) : Type 0 where
  pub graph : IsGraph after.net.graph
  pub source : after.source < node_count after.net.graph
  pub row : IsRow after.net.graph after.failed after.source after.post

-- the failed links lie at node t: each of them touches it, and it is the source, or all links that touch it failed
pub record IsPivot (g : Graph) (x : List Bool) (s t : ℕ) : Type 0 where
  pub within : t < node_count g
  pub lie : LieAt g x t
  pub known : (t ≡ s) ⊎ ((l : ℕ) → l < link_count g → Touches g l t → has x l ≡ true)

-- the cells for w and v in the distances from the source, and that for v in those from w, add up
abbrev pub AddsUp : Aftermath → ℕ → ℕ → Type 0
AddsUp after w v =
    (row : List ℕ) × IsRow after.net.graph [] w row
    × (slice_index after.post w + slice_index row v ≡ slice_index after.post v)

-- the set has nodes alone
abbrev pub AreInside : Aftermath → NodeBits → Type 0
AreInside after nodes = (v : ℕ) → is_in nodes v ≡ true → v < node_count after.net.graph

-- the set has nodes alone, and the distances by w add up at each of them
abbrev pub AllAddUp : Aftermath → ℕ → NodeBits → Type 0
AllAddUp after w nodes = (v : ℕ) → is_in nodes v ≡ true → (v < node_count after.net.graph) × AddsUp after w v

-- of these nodes, those at which the distances by w add up: at each other that w reaches they don't
pub record AddUpFrom (after : Aftermath) (w : ℕ) (among nodes : NodeBits) : Type 0 where
  pub inside : (v : ℕ) → is_in nodes v ≡ true → is_in among v ≡ true
  pub sums : (v : ℕ) → is_in nodes v ≡ true → AddsUp after w v
  pub all : (v d : ℕ) → is_in among v ≡ true → IsDistance after.net.graph [] w v d
      → slice_index after.post w + d ≡ slice_index after.post v → is_in nodes v ≡ true
