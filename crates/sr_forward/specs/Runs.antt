-- Walks of packets.
use Rattle.std.specs.Prelude.{◌≡◌, ℕ, ◌<◌, Bool, false, List, [], ◌∷◌}
use Rattle.sr_model.specs.declared.entry.Move.{Move}
use Rattle.sr_model.specs.declared.entry.Move.TheVariants.{Popped, Crossed}
use Rattle.sr_model.specs.Graph.{node_count, link_count, head, has}
use Rattle.sr_model.specs.Walk.{IsDistance}
use Rattle.sr_model.specs.Label.{Net, IsLabel}
use Rattle.sr_model.specs.Repair.{Path, IsSound}
use Rattle.sr_model.specs.Forward.{IsStack}
use Rattle.sr_laws.specs.Delivery.{Arrives}

-- a link that the move crosses is one of the graph
abbrev pub IsMove : Net → Move → Type 0
IsMove n Popped = Unit {0}
IsMove n (Crossed l) = l.0 < link_count n.graph

-- where no link is closed, a packet at u whose stack is the label of a node d that a walk leads to ends at d with
-- an empty stack, and its links are a shortest walk
abbrev pub PacketArrives : Net → List Bool → ℕ → List ℕ → List ℕ → ℕ → List ℕ → Type 0
PacketArrives n closed u stack links v after =
    ((l : ℕ) → has closed l ≡ false) → (d label c : ℕ) → stack ≡ label ∷ [] → IsLabel n u d label
    → IsDistance n.graph [] u d c → Arrives n [] u d [] links v after

-- where the failed links are closed, a packet at the end of a sound list's first link, under the stack of that
-- list, ends at the list's destination with an empty stack, and its links with the first before them are a shortest
-- walk without the failed links
abbrev pub RepairArrives : Net → List Bool → ℕ → List ℕ → List ℕ → ℕ → List ℕ → Type 0
RepairArrives n closed u stack links v after =
    (s d : ℕ) (a : Path) → s < node_count n.graph → d < node_count n.graph → IsSound n closed s d a
    → u ≡ head n.graph a.first → IsStack n d a.first a.segments stack
    → Arrives n closed s d (a.first ∷ []) links v after
