-- Repairs by names: numbers of nodes and links differ between nets, but system ids and keys don't (this project's
-- rule).
use Rattle.std.specs.Prelude.{ℕ, List, map, Option, Some, None}
use Rattle.sr_model.specs.declared.audit.Item.{Item}
use Rattle.sr_model.specs.declared.case.Case.{Case}
use Rattle.sr_model.specs.declared.case.Kind.{Kind}
use Rattle.sr_model.specs.declared.name.LinkKey.{LinkKey}
use Rattle.sr_model.specs.declared.repair.Segment.{Segment}
use Rattle.sr_model.specs.declared.repair.Segment.TheVariants.{Node, Adj}
use Rattle.sr_model.specs.declared.repair.RepairList.{RepairList}
use Rattle.sr_model.specs.declared.repair.Answer.{Answer}
use Rattle.sr_model.specs.declared.repair.Answer.TheVariants.{Least, NoPath, NoList, TooDeep}
use Rattle.sr_model.specs.Case.{key_at}
use Rattle.sr_model.specs.Graph.{Graph, system_at}
use Rattle.sr_model.specs.Label.{Net}

-- what a repair is for, by names: what fails with the protected link, the key of that link, and the system id of the
-- destination
pub record ItemName : Type 0 where
  pub kind : Kind
  pub link : LinkKey
  pub dest : ℕ

-- the name of a case and a destination of the graph
abbrev pub name_at : Graph → Case → ℕ → ItemName
name_at g case d = record { kind = case.kind; link = key_at g case.link.0; dest = system_at g d }

-- the name of an item of the net
abbrev pub item_name : Net → Item → ItemName
item_name n item = name_at n.graph item.case item.dest.0

-- a segment by names: a node's system id, or a link's key
pub data NamedSegment : Type 0 where
  OfNode : ℕ → NamedSegment
  OfLink : LinkKey → NamedSegment

-- a repair by names: the link on which the packet leaves, the segments, the labels on that link, the top last, and the
-- cost of the whole way
pub record NamedRepair : Type 0 where
  pub first : LinkKey
  pub segments : List NamedSegment
  pub labels : List ℕ
  pub cost : ℕ

-- a segment of the graph by names
abbrev pub segment_name : Graph → Segment → NamedSegment
segment_name g (Node v) = OfNode (system_at g v.0)
segment_name g (Adj l) = OfLink (key_at g l.0)

-- segments of the graph by names
abbrev pub segment_names : Graph → List Segment → List NamedSegment
segment_names g segments = map (segment_name g) segments

-- a list of the graph with its labels, by names
abbrev pub named_list : Graph → RepairList → List ℕ → NamedRepair
named_list g list labels = record {
  first = key_at g list.first.0;
  segments = segment_names g list.segments;
  labels = labels;
  cost = list.cost;
}

-- the repair of an answer with these labels, by names; none where the answer isn't a list
abbrev pub named_answer : Graph → Answer → List ℕ → Option NamedRepair
named_answer g (Least list) labels = Some (named_list g list labels)
named_answer g NoPath labels = None
named_answer g NoList labels = None
named_answer g (TooDeep k) labels = None

-- the repair of an item of the net, by names
abbrev pub repair_of : Net → Item → Option NamedRepair
repair_of n item = named_answer n.graph item.answer item.labels
