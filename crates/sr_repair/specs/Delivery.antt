-- What the repairs of a net promise.
use Rattle.std.specs.Prelude.{◌≡◌, ℕ, Bool, List, [], ◌∷◌, ◌++◌, reverse}
use Rattle.sr_model.specs.declared.case.Case.{Case}
use Rattle.sr_model.specs.declared.entry.Move.{Move}
use Rattle.sr_model.specs.declared.repair.RepairList.{RepairList}
use Rattle.sr_model.specs.declared.repair.Answer.{Answer}
use Rattle.sr_model.specs.declared.repair.Answer.TheVariants.{Least}
use Rattle.sr_model.specs.Graph.{head}
use Rattle.sr_model.specs.Walk.{AreDistinct, stops}
use Rattle.sr_model.specs.Label.{Net}
use Rattle.sr_model.specs.Rule.{IsNet}
use Rattle.sr_model.specs.Case.{IsCase, IsFailedSet, IsAffected, source_of}
use Rattle.sr_model.specs.Repair.{IsCaseAnswer}
use Rattle.sr_model.specs.Forward.{IsStack, Run, Delivers, crossed}

-- the labels, from the top down, on the first link of the repair deliver: over every rest, whichever equal-cost links
-- the other nodes take, the packet reaches d along a shortest walk without the failed links, which is loop-free
pub record RepairDelivers (n : Net) (case : Case) (d : ℕ) (list : RepairList) (labels : List ℕ) : Type 0 where
  pub delivers : (x : List Bool) → IsFailedSet n.graph case x
      → Delivers n x (source_of n.graph case) d list.first.0 labels
  pub distinct : (rest : List ℕ) (ms : List Move) (v : ℕ) (after : List ℕ)
      → Run n [] rest (head n.graph list.first.0) (labels ++ rest) ms v after
      → AreDistinct (source_of n.graph case ∷ stops n.graph (list.first.0 ∷ crossed ms))

-- in this net every repair of every case has a stack, and delivers under it
abbrev pub EachRepairDelivers : Net → Type 0
EachRepairDelivers n =
    (case : Case) (d : ℕ) (list : RepairList) → IsCase n.graph case → IsAffected n case d
    → IsCaseAnswer n case d (Least list)
    → (labels : List ℕ) × IsStack n d list.first.0 list.segments labels × RepairDelivers n case d list labels

-- in every net every repair has a stack, and delivers under it
abbrev pub RepairsDeliver : Type 0
RepairsDeliver = (n : Net) → IsNet n → EachRepairDelivers n

-- where the answer is a list, the labels, the top last, deliver
abbrev pub DeliverWhereListed : Net → Case → ℕ → Answer → List ℕ → Type 0
DeliverWhereListed n case d answer labels =
    (list : RepairList) → answer ≡ Least list → RepairDelivers n case d list (reverse labels)
