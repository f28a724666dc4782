-- Laws of the account: every item is used in the net or set aside, and never both; and facts have one account.
use Rattle.std.specs.Prelude.{◌≡◌, ℕ, ◌⊎◌, List, Some, slice_get}
use Rattle.std.specs.List.Sorted.{IsStrictlySortedBy}
use Rattle.std.specs.Map.{keys_of}
use Rattle.sr_model.specs.Label.{Net}
use Rattle.sr_lsdb.specs.declared.facts.Facts.{Facts}
use Rattle.sr_lsdb.specs.Facts.{AreInRange}
use Rattle.sr_lsdb.specs.Order.{id_cmp}
use Rattle.sr_domain.specs.Net.{IsNetOf}
use Rattle.sr_account.specs.declared.aside.Aside.{Aside}
use Rattle.sr_account.specs.declared.sources.LinkSource.{LinkSource}
use Rattle.sr_account.specs.Items.{Item, IsFactItem, item_place}
use Rattle.sr_account.specs.Asides.{AreAsides, IsTold}
use Rattle.sr_account.specs.Used.{IsUsed}
use Rattle.sr_account.specs.Sources.{AreSources}

-- the database is in order of LSP ids, each once, as a database always is
abbrev pub IsInOrder : Facts → Type 0
IsInOrder facts = IsStrictlySortedBy id_cmp (keys_of facts.database)

-- no line tells of the item
abbrev pub IsToldNowhere : List Aside → Item → Type 0
IsToldNowhere asides item = (n : ℕ) (aside : Aside) → slice_get asides n ≡ Some aside
    → aside.place ≡ item_place item → ⊥

-- exactly one line tells of the item, with the first reason that holds
pub record IsToldOnce (facts : Facts) (asides : List Aside) (item : Item) : Type 0 where
  pub told : IsTold facts asides item
  pub once : (n : ℕ) (aside : Aside) → slice_get asides n ≡ Some aside → aside.place ≡ item_place item → n ≡ told.line

-- whatever the facts have is used in the net, by name, and told nowhere; or it isn't used there, and exactly one line
-- tells it
abbrev pub IsAccountOf : Facts → Net → List Aside → Type 0
IsAccountOf facts net asides = (item : Item) → IsFactItem facts item
    → (IsUsed facts net item × IsToldNowhere asides item)
    ⊎ ((IsUsed facts net item → ⊥) × IsToldOnce facts asides item)

-- what is told of facts is an account of their net
abbrev pub NothingIsLost : Type 0
NothingIsLost = (facts : Facts) (net : Net) (asides : List Aside) → IsInOrder facts → AreInRange facts
    → IsNetOf facts net
    → AreAsides facts asides → IsAccountOf facts net asides

-- facts have one account of what isn't used
abbrev pub FactsHaveOneAccount : Type 0
FactsHaveOneAccount = (facts : Facts) (one two : List Aside) → AreAsides facts one → AreAsides facts two → one ≡ two

-- one thing is announced of each link of the net of facts
abbrev pub LinksHaveOneSource : Type 0
LinksHaveOneSource =
    (facts : Facts) (net : Net) (one two : List LinkSource) → IsNetOf facts net → AreSources facts net one
    → AreSources facts net two → one ≡ two
