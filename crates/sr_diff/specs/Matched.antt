-- How the repairs of two nets are matched.
use Rattle.std.specs.Prelude.{◌≡◌, ◌≢◌, ℕ, ◌<◌, true, List, map, Some, slice_get}
use Rattle.sr_model.specs.declared.audit.Item.{Item}
use Rattle.sr_model.specs.declared.case.Case.{Case}
use Rattle.sr_model.specs.declared.repair.RepairList.{RepairList}
use Rattle.sr_model.specs.Audit.{is_least, IsItem}
use Rattle.sr_model.specs.Case.{IsCase, key_at}
use Rattle.sr_model.specs.Graph.{Graph, node_count, link_count}
use Rattle.sr_model.specs.Label.{Net}
use Rattle.sr_repair.specs.Stack.{HaveLabels}
use Rattle.sr_diff.specs.declared.changes.Compared.{Compared}
use Rattle.sr_diff.specs.declared.changes.Likeness.{Likeness}
use Rattle.sr_diff.specs.declared.changes.Likeness.TheVariants.{Apart, Same, Other}
use Rattle.sr_diff.specs.declared.purpose.Purpose.{Purpose}
use Rattle.sr_diff.specs.Diff.{IsOther, IsSame, AreSuch, IsHowMany, after_of, AreMatched}
use Rattle.sr_diff.specs.Named.{ItemName, name_at, item_name, segment_names}

-- the case and the destination are of the graph, and have this name
pub record IsPurposeNamed (g : Graph) (name : ItemName) (purpose : Purpose) : Type 0 where
  pub case : IsCase g purpose.case
  pub dest : purpose.dest.0 < node_count g
  pub named : name_at g purpose.case purpose.dest.0 ≡ name

-- no case and destination of the graph have this name
abbrev pub IsNoName : Graph → ItemName → Type 0
IsNoName g name = (case : Case) (d : ℕ) → IsCase g case → d < node_count g → name_at g case d ≢ name

-- the members of the list are items of the net
abbrev pub AreItems : Net → List Item → Type 0
AreItems n items = (k : ℕ) (item : Item) → slice_get items k ≡ Some item → IsItem n item

-- the item's answer is the list of the net for this case and destination
pub record IsListFor (n : Net) (case : Case) (d : ℕ) (item : Item) : Type 0 where
  pub is : IsItem n item
  pub case_is : item.case ≡ case
  pub dest_is : item.dest.0 ≡ d
  pub least : is_least item.answer ≡ true

-- the item's answer is the list of the net under this name
pub record IsListNamed (n : Net) (name : ItemName) (item : Item) : Type 0 where
  pub is : IsItem n item
  pub named : item_name n item ≡ name
  pub least : is_least item.answer ≡ true

-- how the repair of an item of the new net is like that of the old net under its name: one of the nets has none, they
-- are the same, or the old one is this other one
abbrev pub IsLikeness : Net → Net → Item → Likeness → Type 0
IsLikeness old new item Apart = (IsSame old new item → ⊥) × (IsOther old new item → ⊥)
IsLikeness old new item Same = IsSame old new item × (IsOther old new item → ⊥)
IsLikeness old new item (Other before) =
    (IsSame old new item → ⊥) × IsOther old new item × IsItem old before × (item_name old before ≡ item_name new item)

-- the items of the new net with another repair, each with that of the old net, and how many have the same
pub record AreCompared (old new : Net) (items : List Item) (compared : Compared) : Type 0 where
  pub changed : AreSuch (IsOther old new) items (map after_of compared.changed)
  pub pairs : AreMatched old new compared.changed
  pub same : IsHowMany (IsSame old new) items compared.same

-- the first link and the segments of the list are those of the net
pub record IsListOf (n : Net) (list : RepairList) : Type 0 where
  pub first : list.first.0 < link_count n.graph
  pub segments : HaveLabels n list.segments

-- the lists of two graphs have the same first link, segments and cost, by names
pub record IsNamedAlike (g h : Graph) (a b : RepairList) : Type 0 where
  pub cost : a.cost ≡ b.cost
  pub first : key_at g a.first.0 ≡ key_at h b.first.0
  pub segments : segment_names g a.segments ≡ segment_names h b.segments
