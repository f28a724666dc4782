-- What of the facts isn't used, in order of places.
use Rattle.std.specs.Prelude.{◌≡◌, ℕ, ◌<◌, ◌⊎◌, List, length, Some, slice_get}
use Rattle.sr_lsdb.specs.declared.facts.Facts.{Facts}
use Rattle.sr_account.specs.declared.aside.Aside.{Aside}
use Rattle.sr_account.specs.declared.aside.Reason.{Reason}
use Rattle.sr_account.specs.Items.{Item, IsFactItem, PlaceBefore, item_place, matter_of}
use Rattle.sr_account.specs.Reasons.{IsFirstReason, IsUnhindered}

-- what is told of an item that isn't used
abbrev pub aside_of : Item → Reason → Aside
aside_of item reason = record { place = item_place item; matter = matter_of item; reason = reason }

-- this is told of some item of the facts, with the first reason that holds
pub record IsAside (facts : Facts) (aside : Aside) : Type 0 where
  pub item : Item
  pub is_item : IsFactItem facts item
  pub reason : Reason
  pub first : IsFirstReason facts item reason
  pub is : aside ≡ aside_of item reason

-- the first reason that holds of the item is told of it
pub record IsTold (facts : Facts) (asides : List Aside) (item : Item) : Type 0 where
  pub reason : Reason
  pub first : IsFirstReason facts item reason
  pub line : ℕ
  pub told : slice_get asides line ≡ Some (aside_of item reason)

-- of each item of the facts no reason holds, or the first that does is told; in order of places, and nothing else is
-- told
pub record AreAsides (facts : Facts) (asides : List Aside) : Type 0 where
  pub each : (n : ℕ) (aside : Aside) → slice_get asides n ≡ Some aside → IsAside facts aside
  pub ascending : (m n : ℕ) (a b : Aside) → m < n → slice_get asides m ≡ Some a → slice_get asides n ≡ Some b
      → PlaceBefore a.place b.place
  pub all : (item : Item) → IsFactItem facts item → IsUnhindered facts item ⊎ IsTold facts asides item

-- this many lines are told of the facts
abbrev pub IsAsideCount : Facts → ℕ → Type 0
IsAsideCount facts count = (asides : List Aside) × AreAsides facts asides × (length asides ≡ count)
