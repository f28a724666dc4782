-- The labels of answers.
use Rattle.std.specs.Prelude.{◌≡◌, ℕ, ◌<◌, true, List, length, reverse, Some, is_some, slice_index_or}
use Rattle.sr_model.specs.declared.case.Case.{Case}
use Rattle.sr_model.specs.declared.repair.Segment.{Segment}
use Rattle.sr_model.specs.declared.repair.Segment.TheVariants.{Node, Adj}
use Rattle.sr_model.specs.declared.repair.RepairList.{RepairList}
use Rattle.sr_model.specs.declared.repair.Answer.TheVariants.{Least}
use Rattle.sr_model.specs.Graph.{node_count, link_count, head}
use Rattle.sr_model.specs.Label.{Net, labels_at, adj_at, IsLabel}
use Rattle.sr_model.specs.Case.{IsAffected}
use Rattle.sr_model.specs.Repair.{IsCaseAnswer}
use Rattle.sr_model.specs.Forward.{IsStack}
use Rattle.sr_repair.specs.Delivery.{RepairDelivers}

-- the segment has a label: the index of its node, or the adjacency label of its link
abbrev pub CanLabel : Net → Segment → Type 0
CanLabel n (Node v) = (v.0 < node_count n.graph) × (is_some (labels_at n v.0).index ≡ true)
CanLabel n (Adj l) = (l.0 < link_count n.graph) × (is_some (adj_at n l.0) ≡ true)

-- segment number k
abbrev pub segment_at : List Segment → ℕ → Segment
segment_at segments k = slice_index_or segments k (Node (record { 0 = 0 }))

-- each segment has a label
abbrev pub HaveLabels : Net → List Segment → Type 0
HaveLabels n segments = (k : ℕ) → k < length segments → CanLabel n (segment_at segments k)

-- t is the label of a segment that becomes active at node u
abbrev pub IsSegmentLabel : Net → ℕ → Segment → ℕ → Type 0
IsSegmentLabel n u (Node v) t = IsLabel n u v.0 t
IsSegmentLabel n u (Adj l) t = adj_at n l.0 ≡ Some t

-- the node that a segment leads to
abbrev pub goes_to : Net → Segment → ℕ
goes_to n (Node v) = v.0
goes_to n (Adj l) = head n.graph l.0

-- d isn't affected, or its answer isn't a list
abbrev pub HasNoList : Net → Case → ℕ → Type 0
HasNoList n case d = (list : RepairList) → IsAffected n case d → IsCaseAnswer n case d (Least list) → ⊥

-- d is affected, its answer is a list, these are the labels of that list, the top last, and they deliver
pub record IsStackOf (n : Net) (case : Case) (d : ℕ) (labels : List ℕ) : Type 0 where
  pub list : RepairList
  pub affected : IsAffected n case d
  pub answer : IsCaseAnswer n case d (Least list)
  pub stack : IsStack n d list.first.0 list.segments (reverse labels)
  pub delivers : RepairDelivers n case d list (reverse labels)
