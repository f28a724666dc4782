-- The waypoints that a search meets, and the lists that they stand for.
use Rattle.std.specs.Prelude.{ℕ, zero, suc, ◌<◌, ◌≤◌, ◌+◌, ◌≡◌, List, [], ◌∷◌, ◌++◌, length, slice_index_or}
use Rattle.sr_model.specs.declared.link.LinkNo.{LinkNo}
use Rattle.sr_model.specs.declared.link.NodeNo.{NodeNo}
use Rattle.sr_model.specs.declared.repair.Segment.{Segment}
use Rattle.sr_model.specs.declared.repair.Segment.TheVariants.{Node}
use Rattle.sr_model.specs.Repair.{Path}
use Rattle.sr_encode.specs.declared.waypoint.Waypoint.{Waypoint}

-- what stands for a waypoint past the end of a queue
abbrev pub no_waypoint : Waypoint
no_waypoint = record {
  node = record { 0 = 0 };
  first = record { 0 = 0 };
  depth = 0;
  parent = 0;
  segment = Node (record { 0 = 0 });
}

-- the waypoint at place k of the queue
abbrev pub waypoint_at : List Waypoint → ℕ → Waypoint
waypoint_at queue k = slice_index_or queue k no_waypoint

-- the node of the waypoint at place k
abbrev pub waypoint_node : List Waypoint → ℕ → ℕ
waypoint_node queue k = (waypoint_at queue k).node.0

-- the last m segments of the list to the waypoint at place k: its own comes after those of its parent
abbrev pub segments_to : List Waypoint → ℕ → ℕ → List Segment
segments_to queue zero k = []
segments_to queue (suc m) k = segments_to queue m (waypoint_at queue k).parent ++ (waypoint_at queue k).segment ∷ []

-- the list to the waypoint at place k: its first link, and as many segments as it is deep
abbrev pub path_to : List Waypoint → ℕ → Path
path_to queue k = record {
  first = (waypoint_at queue k).first.0;
  segments = segments_to queue (waypoint_at queue k).depth k;
}

-- parents don't stand behind their waypoints, and a waypoint isn't deeper than its place
abbrev pub AreParents : List Waypoint → Type 0
AreParents queue = (k : ℕ) → k < length queue → ((waypoint_at queue k).parent ≤ k) × ((waypoint_at queue k).depth ≤ k)

-- the second queue is the first with more behind
pub record Extends (queue more : List Waypoint) : Type 0 where
  pub longer : length queue ≤ length more
  pub same : (k : ℕ) → k < length queue → waypoint_at more k ≡ waypoint_at queue k

-- the waypoint at node v, met by this segment from the one at place i
abbrev pub met_from : List Waypoint → ℕ → NodeNo → Segment → Waypoint
met_from queue i v t = record {
  node = v;
  first = (waypoint_at queue i).first;
  depth = (waypoint_at queue i).depth + 1;
  parent = i;
  segment = t;
}

-- the waypoint at node v, met by a first link alone
abbrev pub met_first : LinkNo → NodeNo → Waypoint
met_first l v = record { node = v; first = l; depth = 0; parent = 0; segment = Node v }
