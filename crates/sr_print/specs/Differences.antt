-- What differs between the repairs of a version and those of a later net, as lines.
use Rattle.std.specs.Prelude.{ℕ, ◌<◌, List, ◌++◌, All, length, codes}
use Rattle.std.specs.List.{flat_map}
use Rattle.sr_model.specs.declared.audit.Item.{Item}
use Rattle.sr_model.specs.Case.{IsCase}
use Rattle.sr_model.specs.Graph.{Graph, node_count}
use Rattle.sr_model.specs.Label.{Net}
use Rattle.sr_repair.specs.Version.{NumberedNet}
use Rattle.sr_diff.specs.declared.differences.Changed.{Changed}
use Rattle.sr_diff.specs.declared.differences.Diff.{Diff}
use Rattle.sr_print.specs.Printed.{ended, numbered}
use Rattle.sr_print.specs.Repairs.{IsAnswerWithin, item_line}

-- a repair of a net, behind a word that says what became of it
unfoldable pub marked_line : List ℕ → Net → Item → List ℕ
marked_line mark n item = mark ++ item_line n item

-- a repair that is another one now: what it was in the old net, and what it is in the new one
unfoldable pub changed_lines : Net → Net → Changed → List ℕ
changed_lines old new changed =
    marked_line (codes "was ") old changed.before ++ marked_line (codes "now ") new changed.after

-- how many repairs are lost, gained, other ones, and the same
abbrev pub sorts_text : Diff → List ℕ
sorts_text diff =
    numbered (codes " lost ") (length diff.lost) ++ numbered (codes " gained ") (length diff.gained)
    ++ numbered (codes " other ") (length diff.changed) ++ numbered (codes " same ") diff.same

-- the same behind the number of the older version
abbrev pub diff_line : ℕ → Diff → List ℕ
diff_line version diff = ended (numbered (codes "diff version ") version ++ sorts_text diff)

-- the repairs that the old net alone has, and those that the new one alone has
abbrev pub apart_lines : Net → Net → Diff → List ℕ
apart_lines old new diff =
    flat_map (marked_line (codes "lost ") old) diff.lost ++ flat_map (marked_line (codes "gained ") new) diff.gained

-- the repairs that one of the nets alone has, those that differ, and how many of each sort there are
abbrev pub diff_lines : NumberedNet → Net → Diff → List ℕ
diff_lines version new diff =
    apart_lines version.net new diff ++ flat_map (changed_lines version.net new) diff.changed
    ++ diff_line version.number diff

-- the item's case is one of the graph, its destination a node, and its answer within it
pub record IsItemWithin (g : Graph) (item : Item) : Type 0 where
  pub case : IsCase g item.case
  pub dest : item.dest.0 < node_count g
  pub answer : IsAnswerWithin g item.answer

-- both items are within their graphs
pub record IsChangedWithin (old new : Graph) (changed : Changed) : Type 0 where
  pub before : IsItemWithin old changed.before
  pub after : IsItemWithin new changed.after

-- all items are within the graphs of their nets
pub record IsDiffWithin (old new : Graph) (diff : Diff) : Type 0 where
  pub lost : All (IsItemWithin old) diff.lost
  pub gained : All (IsItemWithin new) diff.gained
  pub changed : All (IsChangedWithin old new) diff.changed
