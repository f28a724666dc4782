-- The answer of a case for a destination, as a line.
use Rattle.std.specs.Prelude.{ℕ, ◌<◌, List, [], ◌∷◌, ◌++◌, All, reverse, codes, decimal}
use Rattle.std.specs.List.{flat_map}
use Rattle.sr_model.specs.declared.case.Case.{Case}
use Rattle.sr_model.specs.declared.case.Kind.{Kind}
use Rattle.sr_model.specs.declared.case.Kind.TheVariants.{Link as LinkKind, Node as NodeKind, Risk as RiskKind}
use Rattle.sr_model.specs.declared.repair.Segment.{Segment}
use Rattle.sr_model.specs.declared.repair.Segment.TheVariants.{Node, Adj}
use Rattle.sr_model.specs.declared.audit.Counts.{Counts}
use Rattle.sr_model.specs.declared.audit.Item.{Item}
use Rattle.sr_model.specs.declared.repair.RepairList.{RepairList}
use Rattle.sr_model.specs.declared.repair.Answer.{Answer}
use Rattle.sr_model.specs.declared.repair.Answer.TheVariants.{Least, NoPath, NoList, TooDeep}
use Rattle.sr_model.specs.Graph.{Graph, node_count, link_count}
use Rattle.sr_model.specs.Label.{Net}
use Rattle.sr_print.specs.Links.{link_text, link_word}
use Rattle.sr_print.specs.Names.{node_text}
use Rattle.sr_print.specs.Printed.{ended, word, numbered}

-- the name of a kind of failure
abbrev pub kind_name : Kind → List ℕ
kind_name LinkKind = codes "link"
kind_name NodeKind = codes "node"
kind_name RiskKind = codes "risk"

-- a case by its kind and its protected link, before the destination
unfoldable pub case_head : Net → Case → List ℕ
case_head n case = codes "repair " ++ kind_name case.kind ++ link_word n case.link.0 ++ codes " to "

-- a case, and the destination
abbrev pub case_text : Net → Case → ℕ → List ℕ
case_text n case d = case_head n case ++ node_text n d

-- a segment: a node by its system id, or a link
abbrev pub segment_text : Net → Segment → List ℕ
segment_text n (Node v) = codes "node:" ++ node_text n v.0
segment_text n (Adj l) = codes "adj:" ++ link_text n l.0

-- a segment as one more word
unfoldable pub segment_word : Net → Segment → List ℕ
segment_word n segment = word (segment_text n segment)

-- the segments, the first to be followed first, or that there are none
abbrev pub segments_text : Net → List Segment → List ℕ
segments_text n [] = codes " segments none"
segments_text n (segment ∷ more) = codes " segments" ++ flat_map (segment_word n) (segment ∷ more)

-- a label as one more word
abbrev pub label_word : ℕ → List ℕ
label_word label = word (decimal label)

-- labels, given with the top last, from the top down, or that there are none
abbrev pub labels_text : List ℕ → List ℕ
labels_text [] = codes " labels none"
labels_text (label ∷ more) = codes " labels" ++ flat_map label_word (reverse (label ∷ more))

-- a repair as far as its labels, which are all that differs among the destinations of one list but for the cost
abbrev pub way_text : Net → ℕ → List Segment → List ℕ
way_text n first segments = codes " via" ++ link_word n first ++ segments_text n segments ++ codes " labels"

-- the labels behind that, given with the top last, or that there are none
abbrev pub labels_behind : List ℕ → List ℕ
labels_behind [] = codes " none"
labels_behind (label ∷ more) = flat_map label_word (reverse (label ∷ more))

-- a repair: its first link, its segments, its labels and its cost
abbrev pub list_text : Net → RepairList → List ℕ → List ℕ
list_text n list labels =
    codes " via" ++ link_word n list.first.0 ++ segments_text n list.segments ++ labels_text labels
    ++ numbered (codes " cost ") list.cost

-- why there is no repair, and nothing where there is one
abbrev pub uncovered_text : Answer → List ℕ
uncovered_text (Least list) = []
uncovered_text NoPath = codes " uncovered nopath"
uncovered_text NoList = codes " uncovered nolist"
uncovered_text (TooDeep needed) = numbered (codes " uncovered toodeep ") needed

-- a repair, or why there is none
abbrev pub answer_text : Net → Answer → List ℕ → List ℕ
answer_text n (Least list) labels = list_text n list labels
answer_text n NoPath labels = uncovered_text NoPath
answer_text n NoList labels = uncovered_text NoList
answer_text n (TooDeep needed) labels = uncovered_text (TooDeep needed)

-- the answer of a case for destination d
abbrev pub repair_line : Net → Case → ℕ → Answer → List ℕ → List ℕ
repair_line n case d answer labels = ended (case_text n case d ++ answer_text n answer labels)

-- why the packet of a repair isn't walked
abbrev pub uncovered_walk_line : Answer → List ℕ
uncovered_walk_line answer = ended (codes "walk" ++ uncovered_text answer)

-- an item of an audit, as the answer of its case for its destination
unfoldable pub item_line : Net → Item → List ℕ
item_line n item = repair_line n item.case item.dest.0 item.answer item.labels

-- the items of an audit, in their order
abbrev pub item_lines : Net → List Item → List ℕ
item_lines n items = flat_map (item_line n) items

-- how many answers of each sort the audit of a version has
abbrev pub counts_text : Counts → List ℕ
counts_text counts =
    numbered (codes " covered ") counts.covered ++ numbered (codes " nopath ") counts.nopath
    ++ numbered (codes " nolist ") counts.nolist ++ numbered (codes " toodeep ") counts.toodeep

-- the audit of a version in one line: its number, and how many answers of each sort there are
abbrev pub summary_line : ℕ → Counts → List ℕ
summary_line version counts = ended (numbered (codes "audit version ") version ++ counts_text counts)

-- the segment is a node or a link of the graph
abbrev pub IsSegment : Graph → Segment → Type 0
IsSegment g (Node v) = v.0 < node_count g
IsSegment g (Adj l) = l.0 < link_count g

-- each of these is a node or a link of the graph
abbrev pub AreSegments : Graph → List Segment → Type 0
AreSegments g segments = All (IsSegment g) segments

-- the links and nodes of the answer are links and nodes of the graph
abbrev pub IsAnswerWithin : Graph → Answer → Type 0
IsAnswerWithin g (Least list) = (list.first.0 < link_count g) × AreSegments g list.segments
IsAnswerWithin g NoPath = Unit {0}
IsAnswerWithin g NoList = Unit {0}
IsAnswerWithin g (TooDeep needed) = Unit {0}
