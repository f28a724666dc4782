-- Which waypoints serve which destinations.
use Rattle.std.specs.Prelude.{◌≡◌, ◌≢◌, ℕ, ◌+◌, ◌<◌, ◌≤◌, ◌⊎◌, Bool, true, false, List, length, [], Option, Some, None, is_some, slice_index, slice_index_or, All}
use Rattle.sr_lanes.specs.declared.words.NodeBits.{NodeBits}
use Rattle.sr_lanes.specs.Bits.{is_in}
use Rattle.sr_model.specs.declared.link.TheConstants.{FAR}
use Rattle.sr_model.specs.Graph.{node_count, carries}
use Rattle.sr_model.specs.Label.{Net}
use Rattle.sr_model.specs.Space.{InP}
use Rattle.sr_model.specs.Walk.{IsDistance}
use Rattle.sr_model.specs.Repair.{Path, IsSound, IsLeast}
use Rattle.sr_encode.specs.declared.waypoint.Waypoint.{Waypoint}
use Rattle.sr_encode.specs.declared.served.Served.{Served}
use Rattle.sr_encode.specs.Waypoints.{waypoint_at, waypoint_node, path_to, AreParents}
use Rattle.sr_encode.specs.Aftermath.{Aftermath}
use Rattle.sr_post.specs.declared.kept.HopNodes.{HopNodes}
use Rattle.sr_post.specs.Kept.{IsSharedHop}

-- lists to w can end there towards d: w is d or isn't overloaded, has d in its P, and keeps to the distances from the
-- source as far as d
pub record EndsAt (after : Aftermath) (w d : ℕ) : Type 0 where
  pub rest : ℕ
  pub free : carries after.net.graph d w ≡ true
  pub ends : InP after.net.graph after.failed w d
  pub goes_on : IsDistance after.net.graph [] w d rest
  pub fits : slice_index after.post w + rest ≡ slice_index after.post d

-- at none of the first k waypoints lists can end towards d
abbrev pub NoneEnds : Aftermath → List Waypoint → ℕ → ℕ → Type 0
NoneEnds after queue d k = (j : ℕ) → j < k → EndsAt after (waypoint_node queue j) d → ⊥

-- at none of the waypoints from place k on, before place m, lists can end towards d
abbrev pub NoneEndsFrom : Aftermath → List Waypoint → ℕ → ℕ → ℕ → Type 0
NoneEndsFrom after queue d k m =
    (j : ℕ) → k ≤ j → j < m → EndsAt after (waypoint_node queue j) d → ⊥

-- place p is the first from place k on at which lists can end towards d
pub record IsFirstEnd (after : Aftermath) (queue : List Waypoint) (d k p : ℕ) : Type 0 where
  pub from : k ≤ p
  pub within : p < length queue
  pub none : NoneEndsFrom after queue d k p
  pub ends : EndsAt after (waypoint_node queue p) d

-- the list to the waypoint at place k is the least sound one to each node towards which lists can end there and can't
-- end at an earlier place
abbrev pub IsLeastThere : Aftermath → List Waypoint → ℕ → Type 0
IsLeastThere after queue k =
    (d : ℕ) → d < node_count after.net.graph → NoneEnds after queue d k → EndsAt after (waypoint_node queue k) d
    → IsLeast after.net after.failed after.source d (path_to queue k)

-- each waypoint of the queue is a node
abbrev pub AreNodes : Aftermath → List Waypoint → Type 0
AreNodes after queue = (j : ℕ) → j < length queue → waypoint_node queue j < node_count after.net.graph

-- the queue has no more waypoints than there are nodes, each of them is one, and so it is at each place from k on
pub record AreLeastFrom (after : Aftermath) (queue : List Waypoint) (k : ℕ) : Type 0 where
  pub short : length queue ≤ node_count after.net.graph
  pub nodes : AreNodes after queue
  pub each : (j : ℕ) → k ≤ j → j < length queue → IsLeastThere after queue j

-- the place in the queue that is kept for node j, if one is
abbrev pub place_at : List (Option ℕ) → ℕ → Option ℕ
place_at places j = slice_index_or places j None

-- the waypoint at this place has the least sound list to d
abbrev pub IsServedBy : Net → List Bool → ℕ → List Waypoint → ℕ → Option ℕ → Type 0
IsServedBy n x s queue d place = (k : ℕ) → place ≡ Some k → (k < length queue) × IsLeast n x s d (path_to queue k)

-- the link is the least that leads from the source in spite of the failed links towards each node that stands with it
abbrev pub IsHopOf : Aftermath → HopNodes → Type 0
IsHopOf after kept = IsSharedHop after.net.graph after.failed after.source kept

-- so it is with each link of the list
abbrev pub AreHopsOf : Aftermath → List HopNodes → Type 0
AreHopsOf after kept = All (IsHopOf after) kept

-- the list to the waypoint at place k is link l alone
abbrev pub IsMetBy : List Waypoint → ℕ → ℕ → Type 0
IsMetBy queue l k = (k < length queue) × ((waypoint_at queue k).first.0 ≡ l) × ((waypoint_at queue k).depth ≡ 0)

-- the first k waypoints were offered to the destinations: at none of them lists can end towards one that is pending,
-- and where one has a place, the waypoint there serves it
pub record AreOffered (after : Aftermath) (queue : List Waypoint) (k : ℕ) (served : Served) : Type 0 where
  pub long : length served.places.items ≡ node_count after.net.graph
  pub inside : (d : ℕ) → is_in served.pending d ≡ true → d < node_count after.net.graph
  pub none : (d : ℕ) → is_in served.pending d ≡ true → NoneEnds after queue d k
  pub some : (d : ℕ) → IsServedBy after.net after.failed after.source queue d (place_at served.places.items d)

-- the destination is pending, or has a place
abbrev pub IsTended : Served → ℕ → Type 0
IsTended served d = (is_in served.pending d ≡ true) ⊎ (is_some (place_at served.places.items d) ≡ true)

-- the destinations to which a walk leads are pending, or have a place
abbrev pub AreTended : Aftermath → NodeBits → Served → Type 0
AreTended after wanted served =
    (d : ℕ) → is_in wanted d ≡ true → slice_index after.post d < FAR → IsTended served d

-- what was pending still is, or has a place now, and what had a place has one
pub record IsLater (before served : Served) : Type 0 where
  pub pending : (d : ℕ) → is_in before.pending d ≡ true → IsTended served d
  pub places : (d : ℕ) → is_some (place_at before.places.items d) ≡ true
      → is_some (place_at served.places.items d) ≡ true

-- all waypoints were offered to d, and what is pending of the others is as it was
pub record IsTried (after : Aftermath) (queue : List Waypoint) (d : ℕ) (before served : Served) : Type 0 where
  pub none : is_in served.pending d ≡ true → NoneEnds after queue d (length queue)
  pub others : (e : ℕ) → e ≢ d → is_in served.pending e ≡ is_in before.pending e
  pub later : IsLater before served

-- these nodes have place k, and the others what they had
pub record ArePlaced (before : List (Option ℕ)) (nodes : NodeBits) (k : ℕ) (places : List (Option ℕ)) : Type 0 where
  pub long : length places ≡ length before
  pub these : (d : ℕ) → is_in nodes d ≡ true → place_at places d ≡ Some k
  pub others : (d : ℕ) → is_in nodes d ≡ false → place_at places d ≡ place_at before d

-- the search is over: no list to a node that is pending is sound, and where a node has a place, the waypoint there
-- serves it
pub record AreSearched (after : Aftermath) (queue : List Waypoint) (served : Served) : Type 0 where
  pub parents : AreParents queue
  pub long : length served.places.items ≡ node_count after.net.graph
  pub none : (d : ℕ) → is_in served.pending d ≡ true → (a : Path) → IsSound after.net after.failed after.source d a → ⊥
  pub some : (d : ℕ) → IsServedBy after.net after.failed after.source queue d (place_at served.places.items d)

-- d is served, or no list to it is sound, or no walk leads there
pub record IsResolved (after : Aftermath) (queue : List Waypoint) (d : ℕ) (place : Option ℕ) : Type 0 where
  pub none : place ≡ None → slice_index after.post d < FAR
      → (a : Path) → IsSound after.net after.failed after.source d a → ⊥
  pub some : IsServedBy after.net after.failed after.source queue d place

-- so it is with each destination, whose place stands at its number, and the lists can be read from the queue
pub record AreResolved (after : Aftermath) (queue : List Waypoint) (wanted : NodeBits)
    (places : List (Option ℕ)) : Type 0 where
  pub parents : AreParents queue
  pub long : length places ≡ node_count after.net.graph
  pub each : (d : ℕ) → is_in wanted d ≡ true → IsResolved after queue d (place_at places d)
