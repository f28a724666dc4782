-- The items of one case.
use Rattle.std.specs.Prelude.{◌≡◌, ℕ, ◌<◌, ◌≤◌, List, length, Some, slice_get}
use Rattle.std.specs.List.{AllZip, range_with_len}
use Rattle.std.specs.Global.{Vec}
use Rattle.sr_model.specs.declared.case.Case.{Case}
use Rattle.sr_model.specs.declared.audit.Item.{Item}
use Rattle.sr_model.specs.Case.{IsCase, IsAffected}
use Rattle.sr_model.specs.Audit.{IsItem, ItemLt}
use Rattle.sr_model.specs.Label.{Net}
use Rattle.sr_repair.specs.Answers.{place_of}

-- an item of this case
abbrev pub IsItemOf : Net → Case → Item → Type 0
IsItemOf n case item = IsItem n item × (item.case ≡ case)

-- the audit of one case: each destination that it affects once, ascending
pub record IsCaseAudit (n : Net) (case : Case) (items : List Item) : Type 0 where
  pub each : (k : ℕ) (item : Item) → slice_get items k ≡ Some item → IsItemOf n case item
  pub ascending : (j k : ℕ) (a b : Item) → j < k → slice_get items j ≡ Some a → slice_get items k ≡ Some b
      → a.dest.0 < b.dest.0
  pub all : (d : ℕ) → IsAffected n case d
      → (k : ℕ) × (item : Item) × (slice_get items k ≡ Some item) × (item.dest.0 ≡ d)

-- the audit of the case at this place, with at most as many items as a graph may have nodes
pub record IsAuditAt (n : Net) (place : ℕ) (items : List Item) : Type 0 where
  pub case : Case
  pub within : IsCase n.graph case
  pub place_is : place_of n.graph case ≡ place
  pub audit : IsCaseAudit n case items
  pub few : length items ≤ 256

-- the item is there, with this case and destination
abbrev pub HasItem : List Item → Case → ℕ → Type 0
HasItem items case d =
    (k : ℕ) × (item : Item) × (slice_get items k ≡ Some item) × (item.case ≡ case) × (item.dest.0 ≡ d)

-- the audit of the cases from place m on, before place k
pub record AreBetween (n : Net) (m k : ℕ) (items : List Item) : Type 0 where
  pub each : (i : ℕ) (item : Item) → slice_get items i ≡ Some item
      → IsItem n item × (m ≤ place_of n.graph item.case) × (place_of n.graph item.case < k)
  pub ascending : (i j : ℕ) (a b : Item) → i < j → slice_get items i ≡ Some a → slice_get items j ≡ Some b → ItemLt a b
  pub all : (case : Case) (d : ℕ) → IsCase n.graph case → m ≤ place_of n.graph case → place_of n.graph case < k
      → IsAffected n case d → HasItem items case d

-- the lists are the audits of the cases at k places from m on
abbrev pub AreAuditsAt : Net → ℕ → ℕ → List (Vec Item) → Type 0
AreAuditsAt n m k lists = AllZip (λ place list. IsAuditAt n place list.items) (range_with_len m k) lists
