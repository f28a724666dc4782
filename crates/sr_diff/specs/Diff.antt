-- What differs between the repairs of two nets (this project's rules).
use Rattle.std.specs.Prelude.{◌≡◌, ◌≢◌, ◌⊎◌, ℕ, List, [], ◌∷◌, length, map, Some, slice_get}
use Rattle.sr_model.specs.declared.audit.Item.{Item}
use Rattle.sr_model.specs.Audit.{IsItem, IsAudit}
use Rattle.sr_model.specs.Label.{Net}
use Rattle.sr_diff.specs.declared.differences.Changed.{Changed}
use Rattle.sr_diff.specs.declared.differences.Diff.{Diff}
use Rattle.sr_diff.specs.Named.{ItemName, NamedRepair, item_name, repair_of}

-- the audit of the net has this repair under this name
abbrev pub HasRepair : Net → ItemName → NamedRepair → Type 0
HasRepair n name repair = (item : Item) × IsItem n item × (item_name n item ≡ name) × (repair_of n item ≡ Some repair)

-- the audit of the net has no repair under this name: no such link or node, no affected destination, or no list
abbrev pub IsUnrepaired : Net → ItemName → Type 0
IsUnrepaired n name = (repair : NamedRepair) → HasRepair n name repair → ⊥

-- the item of the first net is repaired, and the other net has no repair under its name
abbrev pub IsLost : Net → Net → Item → Type 0
IsLost n m item = ((repair : NamedRepair) × (repair_of n item ≡ Some repair)) × IsUnrepaired m (item_name n item)

-- the item of the new net is repaired, and the old net has another repair under its name
abbrev pub IsOther : Net → Net → Item → Type 0
IsOther old new item =
    (a : NamedRepair) × (b : NamedRepair) × HasRepair old (item_name new item) a × (repair_of new item ≡ Some b)
    × (a ≢ b)

-- the item of the new net is repaired, and the old net has the same repair under its name
abbrev pub IsSame : Net → Net → Item → Type 0
IsSame old new item = (a : NamedRepair) × HasRepair old (item_name new item) a × (repair_of new item ≡ Some a)

-- those of a list of which a fact holds, in their order: the head is taken just where it holds of it
abbrev pub AreSuch : (Item → Type 0) → List Item → List Item → Type 0
AreSuch P [] those = those ≡ []
AreSuch P (item ∷ items) those =
    (P item × ((rest : List Item) × (those ≡ item ∷ rest) × AreSuch P items rest))
    ⊎ ((P item → ⊥) × AreSuch P items those)

-- how many of a list a fact holds of
abbrev pub IsHowMany : (Item → Type 0) → List Item → ℕ → Type 0
IsHowMany P items count = (those : List Item) × AreSuch P items those × (length those ≡ count)

-- the item of the new net
abbrev pub after_of : Changed → Item
after_of changed = changed.after

-- each with the item of the old net under the same name
abbrev pub AreMatched : Net → Net → List Changed → Type 0
AreMatched old new changed =
    (k : ℕ) (one : Changed) → slice_get changed k ≡ Some one
    → IsItem old one.before × (item_name old one.before ≡ item_name new one.after)

-- what differs from the audit of the old net to that of the new one: the old items that are lost, the new ones that
-- are gained, the new ones with another repair, each with the old one, and how many are repaired in the same way; all
-- in the order of their audits
pub record IsDiff (old new : Net) (diff : Diff) : Type 0 where
  pub before : List Item
  pub after : List Item
  pub old_audit : IsAudit old before
  pub new_audit : IsAudit new after
  pub lost : AreSuch (IsLost old new) before diff.lost
  pub gained : AreSuch (IsLost new old) after diff.gained
  pub changed : AreSuch (IsOther old new) after (map after_of diff.changed)
  pub pairs : AreMatched old new diff.changed
  pub same : IsHowMany (IsSame old new) after diff.same
