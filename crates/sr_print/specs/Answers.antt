-- The answers of a case, as lines.
use Rattle.std.specs.Prelude.{◌≡◌, ℕ, List, ◌++◌, reverse}
use Rattle.std.specs.List.{AllZip, flat_map}
use Rattle.sr_model.specs.declared.case.Case.{Case}
use Rattle.sr_model.specs.declared.audit.Item.{Item}
use Rattle.sr_model.specs.declared.repair.Answer.{Answer}
use Rattle.sr_model.specs.declared.repair.Answer.TheVariants.{Least}
use Rattle.sr_model.specs.declared.repair.RepairList.{RepairList}
use Rattle.sr_model.specs.declared.repair.Segment.{Segment}
use Rattle.sr_model.specs.Audit.{AreLabelsOf}
use Rattle.sr_model.specs.Case.{IsAffected}
use Rattle.sr_model.specs.Forward.{IsLabels, IsStack}
use Rattle.sr_model.specs.Label.{Net}
use Rattle.sr_model.specs.Repair.{IsCaseAnswer}
use Rattle.sr_encode.specs.declared.answers.NodeAnswer.{NodeAnswer}
use Rattle.sr_encode.specs.Codes.{without_cost}
use Rattle.sr_repair.specs.Items.{IsItemFor}
use Rattle.sr_print.specs.Repairs.{answer_text, case_head, item_line, item_lines, label_word, labels_behind, way_text}

-- the labels of these segments from node u on were appended, from the top down, each as one more word
pub record PutsLabels (n : Net) (u : ℕ) (segments : List Segment) (before after : List ℕ) : Type 0 where
  pub labels : List ℕ
  pub are : IsLabels n u segments labels
  pub text : after ≡ before ++ flat_map label_word labels

-- the labels on the first link of a list towards d were appended
pub record PutsStack (n : Net) (d first : ℕ) (segments : List Segment) (before after : List ℕ) : Type 0 where
  pub labels : List ℕ
  pub stack : IsStack n d first segments (reverse labels)
  pub text : after ≡ before ++ labels_behind labels

-- the text is that of the answer's list as far as its labels, where the answer is a list
abbrev pub IsWayOf : Net → Answer → List ℕ → Type 0
IsWayOf n answer text =
    (list : RepairList) → without_cost answer ≡ Least list → text ≡ way_text n list.first.0 list.segments

-- the destination is affected in the case, and this is its answer
pub record IsEntryOf (n : Net) (case : Case) (entry : NodeAnswer) : Type 0 where
  pub affected : IsAffected n case entry.destination.0
  pub answers : IsCaseAnswer n case entry.destination.0 entry.answer

-- the line of the answer begins with the first text, and a list goes on with the second behind the destination
pub record AreTextsOf (n : Net) (case : Case) (answer : Answer) (head way : List ℕ) : Type 0 where
  pub begins : head ≡ case_head n case
  pub goes_on : IsWayOf n answer way

-- an answer for d was appended, with its labels
pub record PutsAnswer (n : Net) (d : ℕ) (answer : Answer) (before after : List ℕ) : Type 0 where
  pub labels : List ℕ
  pub are : AreLabelsOf n d answer labels
  pub text : after ≡ before ++ answer_text n answer labels

-- the line of an item that stands for the answer was appended
pub record PutsItem (n : Net) (case : Case) (entry : NodeAnswer) (before after : List ℕ) : Type 0 where
  pub item : Item
  pub is : IsItemFor n case entry item
  pub text : after ≡ before ++ item_line n item

-- the lines of items that stand for these answers, in their order, were appended
pub record PutsItemsFor (n : Net) (case : Case) (answers : List NodeAnswer) (before after : List ℕ) : Type 0 where
  pub items : List Item
  pub each : AllZip (IsItemFor n case) answers items
  pub text : after ≡ before ++ item_lines n items
