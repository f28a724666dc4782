-- The packets whose crossings are counted, and their runs.
use Rattle.std.specs.Prelude.{◌≡◌, ◌≢◌, ℕ, ◌<◌, ◌⊎◌, true, List, [], ◌∷◌, map, Some, is_some, slice_get}
use Rattle.std.specs.List.{flat_map, range_with_len}
use Rattle.sr_model.specs.declared.entry.Move.{Move}
use Rattle.sr_model.specs.Graph.{node_count}
use Rattle.sr_model.specs.Walk.{IsWalk}
use Rattle.sr_model.specs.Label.{Net, labels_at, IsLabel}
use Rattle.sr_model.specs.Forward.{RunBy, crossed}
use Rattle.sr_loads.specs.declared.packet.Packet.{Packet}
use Rattle.sr_loads.specs.declared.packet.Pair.{Pair}

-- packets go from node a, which may be overloaded, to another node that has an index and to which a walk leads (this
-- project's rule)
pub record ArePeers (net : Net) (a d : ℕ) : Type 0 where
  pub from : a < node_count net.graph
  pub to : d < node_count net.graph
  pub other : d ≢ a
  pub index : is_some (labels_at net d).index ≡ true
  pub walk : (links : List ℕ) × IsWalk net.graph [] a links d

-- a packet of the net and this many choice numbers
abbrev pub IsPacket : Net → ℕ → Packet → Type 0
IsPacket net choices p = ArePeers net p.from.0 p.to.0 × (p.choice < choices)

-- the order of packets: by the node at which they start, then by that to which they go, then by choice number
abbrev pub IsBefore : Packet → Packet → Type 0
IsBefore p q =
    (p.from.0 < q.from.0)
    ⊎ (((p.from.0 ≡ q.from.0) × (p.to.0 < q.to.0))
    ⊎ ((p.from.0 ≡ q.from.0) × (p.to.0 ≡ q.to.0) × (p.choice < q.choice)))

-- the packets of the net, each once, in this order
pub record ArePackets (net : Net) (choices : ℕ) (packets : List Packet) : Type 0 where
  pub each : (i : ℕ) (p : Packet) → slice_get packets i ≡ Some p → IsPacket net choices p
  pub ascending : (i j : ℕ) (p q : Packet) → i < j → slice_get packets i ≡ Some p → slice_get packets j ≡ Some q
      → IsBefore p q
  pub all : (p : Packet) → IsPacket net choices p → (i : ℕ) × (slice_get packets i ≡ Some p)

-- the run of a packet, no link being closed: from where it starts, under the label that the node to which it goes has
-- there, by its choice number to that node with an empty stack, over these links
pub record IsPacketRun (net : Net) (p : Packet) (links : List ℕ) : Type 0 where
  pub label : ℕ
  pub is_label : IsLabel net p.from.0 p.to.0 label
  pub moves : List Move
  pub run : RunBy net [] p.choice p.from.0 (label ∷ []) moves p.to.0 []
  pub crosses : crossed moves ≡ links

-- ---- pairs of nodes, in place of the packets between them
-- packets go between these nodes
abbrev pub IsPair : Net → Pair → Type 0
IsPair net p = ArePeers net p.from.0 p.to.0

-- the order of pairs: by the node at which packets start, then by that to which they go
abbrev pub IsPairBefore : Pair → Pair → Type 0
IsPairBefore p q = (p.from.0 < q.from.0) ⊎ ((p.from.0 ≡ q.from.0) × (p.to.0 < q.to.0))

-- the pairs between which packets go, each once, in this order
pub record ArePairs (net : Net) (pairs : List Pair) : Type 0 where
  pub each : (i : ℕ) (p : Pair) → slice_get pairs i ≡ Some p → IsPair net p
  pub ascending : (i j : ℕ) (p q : Pair) → i < j → slice_get pairs i ≡ Some p → slice_get pairs j ≡ Some q
      → IsPairBefore p q
  pub all : (p : Pair) → IsPair net p → (i : ℕ) × (slice_get pairs i ≡ Some p)

-- of these pairs those before the pair q, each once, in order
pub record ArePairsBefore (net : Net) (q : Pair) (pairs : List Pair) : Type 0 where
  pub each : (i : ℕ) (p : Pair) → slice_get pairs i ≡ Some p → IsPair net p × IsPairBefore p q
  pub ascending : (i j : ℕ) (p r : Pair) → i < j → slice_get pairs i ≡ Some p → slice_get pairs j ≡ Some r
      → IsPairBefore p r
  pub all : (p : Pair) → IsPair net p → IsPairBefore p q → (i : ℕ) × (slice_get pairs i ≡ Some p)

-- the pair of node a and node d
abbrev pub pair : ℕ → ℕ → Pair
pair a d = record { from = record { 0 = a }; to = record { 0 = d } }

-- the packet from node a to node d with this choice number
abbrev pub packet : ℕ → ℕ → ℕ → Packet
packet a d k = record { from = record { 0 = a }; to = record { 0 = d }; choice = k }

-- the packets of a pair: one for each choice number below this
abbrev pub packets_between : ℕ → Pair → List Packet
packets_between choices p = map (packet p.from.0 p.to.0) (range_with_len 0 choices)

-- the packets of these pairs, in their order
abbrev pub packets_of : ℕ → List Pair → List Packet
packets_of choices pairs = flat_map (packets_between choices) pairs
