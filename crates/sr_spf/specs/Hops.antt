-- Next hops as lists.
use Rattle.std.specs.Prelude.{◌≡◌, ℕ, ◌+◌, ◌<◌, ◌≤◌, List, [], length, Some, slice_get, slice_index, slice_range, ◌++◌}
use Rattle.sr_model.specs.declared.link.LinkNo.{LinkNo}
use Rattle.sr_model.specs.Graph.{Graph, node_count}
use Rattle.sr_model.specs.Walk.{IsNextHop}

-- the links are the next hops of u towards v, ascending: those that begin a shortest walk from u to v
pub record AreNextHops (g : Graph) (u v : ℕ) (links : List LinkNo) : Type 0 where
  pub each : (i : ℕ) (l : LinkNo) → slice_get links i ≡ Some l → IsNextHop g [] u v l.0
  pub ascending : (i j : ℕ) (k l : LinkNo) → i < j → slice_get links i ≡ Some k → slice_get links j ≡ Some l
      → k.0 < l.0
  pub all : (l : ℕ) → IsNextHop g [] u v l → (i : ℕ) × (k : LinkNo) × (slice_get links i ≡ Some k) × (k.0 ≡ l)

-- the next hops of u towards v stand behind the links that there were
pub record AddsNextHops (g : Graph) (u v : ℕ) (before after : List LinkNo) : Type 0 where
  pub added : List LinkNo
  pub joined : after ≡ before ++ added
  pub hops : AreNextHops g u v added

-- the next hops from one node, as they are kept: those towards node v stand from the place that `starts` has for v
-- up to the one that it has next
pub record HopLists : Type 0 where
  pub starts : List ℕ
  pub links : List LinkNo

-- the next hops towards node v
abbrev pub hops_to : HopLists → ℕ → List LinkNo
hops_to t v = slice_range t.links (slice_index t.starts v) (slice_index t.starts (v + 1))

-- the places ascend, and lie within the links
pub record IsCut (t : HopLists) : Type 0 where
  pub ascending : (v : ℕ) → v + 1 < length t.starts → slice_index t.starts v ≤ slice_index t.starts (v + 1)
  pub within : (v : ℕ) → v < length t.starts → slice_index t.starts v ≤ length t.links

-- there is a place for each node, and the links that stand there are the next hops of u towards it
pub record AreHopsFrom (g : Graph) (u : ℕ) (t : HopLists) : Type 0 where
  pub long : length t.starts ≡ node_count g + 1
  pub each : (v : ℕ) → v < node_count g → AreNextHops g u v (hops_to t v)
