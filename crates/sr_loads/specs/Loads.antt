-- How often packets cross each link.
use Rattle.std.specs.Prelude.{◌≡◌, ℕ, ◌+◌, ◌<◌, ◌==◌, cond, List, [], ◌∷◌, length, slice_index}
use Rattle.std.specs.List.{AllZip}
use Rattle.sr_model.specs.Graph.{link_count}
use Rattle.sr_model.specs.Label.{Net}
use Rattle.sr_loads.specs.declared.packet.Packet.{Packet}
use Rattle.sr_loads.specs.Packets.{ArePackets, IsPacketRun}

-- how many packets were forwarded, and how often each link was crossed, by number
pub record LinkLoads : Type 0 where
  pub packets : ℕ
  pub counts : List ℕ

-- how often a run over these links crosses link l
abbrev pub crossings : ℕ → List ℕ → ℕ
crossings l [] = 0
crossings l (k ∷ links) = (cond (k == l) 1 0) + crossings l links

-- how often all these runs cross link l
abbrev pub all_crossings : ℕ → List (List ℕ) → ℕ
all_crossings l [] = 0
all_crossings l (links ∷ runs) = crossings l links + all_crossings l runs

-- the loads of the net: each of its packets is forwarded once, and for each link the crossings of all their runs are
-- counted
pub record IsLoads (net : Net) (choices : ℕ) (loads : LinkLoads) : Type 0 where
  pub packets : List Packet
  pub are : ArePackets net choices packets
  pub runs : List (List ℕ)
  pub each : AllZip (IsPacketRun net) packets runs
  pub number : loads.packets ≡ length packets
  pub long : length loads.counts ≡ link_count net.graph
  pub counts : (l : ℕ) → l < link_count net.graph → slice_index loads.counts l ≡ all_crossings l runs
