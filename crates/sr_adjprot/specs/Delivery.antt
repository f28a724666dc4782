-- What the answer for an active adjacency segment promises of its packet.
use Rattle.std.specs.Prelude.{ℕ, Bool, List, [], ◌∷◌, reverse}
use Rattle.sr_model.specs.declared.link.LinkNo.{LinkNo}
use Rattle.sr_model.specs.declared.entry.Move.{Move}
use Rattle.sr_model.specs.Graph.{tail, head}
use Rattle.sr_model.specs.Case.{IsFailedSet}
use Rattle.sr_model.specs.Label.{Net}
use Rattle.sr_model.specs.Forward.{Run}
use Rattle.sr_laws.specs.Delivery.{PacketRunsWell}
use Rattle.sr_repair.specs.Delivery.{RepairDelivers}
use Rattle.sr_adjprot.specs.declared.answer.AdjAnswer.{AdjAnswer}
use Rattle.sr_adjprot.specs.declared.answer.AdjAnswer.TheVariants.{Unprotected, NoIndex, Steer, Repair, Uncovered}
use Rattle.sr_adjprot.specs.Active.{adj_case}

-- a packet under this label at the beginning of link l, over every rest and whichever equal-cost links the nodes take,
-- reaches the link's end along a shortest walk without the link's pair
abbrev pub SteerDelivers : Net → LinkNo → ℕ → Type 0
SteerDelivers n l label =
    (x : List Bool) → IsFailedSet n.graph (adj_case l) x
    → (rest : List ℕ) (ms : List Move) (v : ℕ) (after : List ℕ)
    → Run n [] rest (tail n.graph l.0) (label ∷ rest) ms v after
    → PacketRunsWell n x (tail n.graph l.0) (head n.graph l.0) rest ms v after

-- the answer delivers: under the label where it steers, under the labels from the end of the first link on where it
-- repairs
abbrev pub AdjDelivers : Net → LinkNo → AdjAnswer → Type 0
AdjDelivers n l Unprotected = Unit {0}
AdjDelivers n l NoIndex = Unit {0}
AdjDelivers n l (Steer label cost) = SteerDelivers n l label
AdjDelivers n l (Repair list labels) = RepairDelivers n (adj_case l) (head n.graph l.0) list (reverse labels)
AdjDelivers n l (Uncovered answer) = Unit {0}
