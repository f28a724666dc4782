-- What is counted of packets.
use Rattle.std.specs.Prelude.{◌≡◌, ℕ, ◌+◌, ◌*◌, ◌%◌, ◌^◌, ◌<◌, ◌≤◌, List, [], length, replicate, Some, slice_index, slice_get, slice_range}
use Rattle.std.specs.List.{AllZip, flat_map}
use Rattle.sr_model.specs.declared.link.TheConstants.{MOST_NODES}
use Rattle.sr_model.specs.Graph.{link_count}
use Rattle.sr_model.specs.Walk.{IsDistance}
use Rattle.sr_model.specs.Label.{Net}
use Rattle.sr_loads.specs.declared.packet.Packet.{Packet}
use Rattle.sr_loads.specs.declared.packet.Pair.{Pair}
use Rattle.sr_loads.specs.declared.batch.TheConstants.{BATCH_PAIRS}
use Rattle.sr_loads.specs.Packets.{ArePeers, IsPacketRun, packets_of}
use Rattle.sr_loads.specs.Loads.{crossings, all_crossings}

-- packets go from node a to node d, which has a distance from there
pub record AreNear (net : Net) (a d : ℕ) : Type 0 where
  pub peers : ArePeers net a d
  pub far : (c : ℕ) × IsDistance net.graph [] a d c

-- so it is with the nodes of each pair
abbrev pub GoBetweenPeers : Net → List Pair → Type 0
GoBetweenPeers net pairs = (i : ℕ) (p : Pair) → slice_get pairs i ≡ Some p → AreNear net p.from.0 p.to.0

-- the run of a packet crosses no more links than a net may have nodes
pub record IsShortRun (net : Net) (p : Packet) (links : List ℕ) : Type 0 where
  pub run : IsPacketRun net p links
  pub few : length links ≤ MOST_NODES

-- the crossings of a run over these links are added to the counts, which have 64 bits and wrap
pub record AddsRun (links before after : List ℕ) : Type 0 where
  pub long : length after ≡ length before
  pub each : (l : ℕ) → l < length before → slice_index before l < 2 ^ 64
      → slice_index after l ≡ (slice_index before l + crossings l links) % 2 ^ 64

-- the run of the packet is added to the counts
abbrev pub AddsPacket : Net → Packet → List ℕ → List ℕ → Type 0
AddsPacket net p before after = (links : List ℕ) × IsShortRun net p links × AddsRun links before after

-- the runs of these packets are added to the counts
pub record AddsPackets (net : Net) (packets : List Packet) (before after : List ℕ) : Type 0 where
  pub runs : List (List ℕ)
  pub are : AllZip (IsShortRun net) packets runs
  pub long : length after ≡ length before
  pub each : (l : ℕ) → l < length before → slice_index before l < 2 ^ 64
      → slice_index after l ≡ (slice_index before l + all_crossings l runs) % 2 ^ 64

-- the counts are those of these packets: their runs are added where nothing was counted
abbrev pub IsTally : Net → List Packet → List ℕ → Type 0
IsTally net packets counts = AddsPackets net packets (replicate (link_count net.graph) 0) counts

-- the other counts are added to the counts, which wrap
pub record AddsCounts (other before after : List ℕ) : Type 0 where
  pub long : length after ≡ length before
  pub each : (l : ℕ) → l < length before → slice_index after l ≡ (slice_index before l + slice_index other l) % 2 ^ 64

-- the packets between the pairs of a net that have this many choice numbers
pub record Traffic : Type 0 where
  pub net : Net
  pub pairs : List Pair
  pub choices : ℕ

-- the pairs of batch b: the next 1,024, or those that are left
abbrev pub batch_pairs : List Pair → ℕ → List Pair
batch_pairs pairs b = slice_range pairs (b * BATCH_PAIRS) (b * BATCH_PAIRS + BATCH_PAIRS)

-- the packets of batch b
abbrev pub batch_packets : Traffic → ℕ → List Packet
batch_packets t b = packets_of t.choices (batch_pairs t.pairs b)

-- the counts are those of the packets of these batches of the traffic
abbrev pub IsTallyOf : Traffic → List ℕ → List ℕ → Type 0
IsTallyOf t batches = IsTally t.net (flat_map (batch_packets t) batches)

-- the counts are those of all packets of the traffic
abbrev pub IsTallyOfAll : Traffic → List ℕ → Type 0
IsTallyOfAll t = IsTally t.net (packets_of t.choices t.pairs)
