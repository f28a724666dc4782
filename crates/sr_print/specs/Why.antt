-- Why a case has no repair for a destination, as a line.
use Rattle.std.specs.Prelude.{ℕ, ◌<◌, ◌++◌, not, Bool, if◌then◌else◌, List, [], codes, is_some, length}
use Rattle.std.specs.List.{flat_map}
use Rattle.sr_model.specs.declared.repair.Segment.{Segment}
use Rattle.sr_model.specs.declared.repair.Segment.TheVariants.{Node, Adj}
use Rattle.sr_model.specs.Graph.{Graph, link_count}
use Rattle.sr_model.specs.Label.{Net, labels_at, adj_at}
use Rattle.sr_why.specs.declared.reason.Cause.{Cause}
use Rattle.sr_why.specs.declared.reason.Cause.TheVariants.{Covered, NoPath, NoList, TooDeep}
use Rattle.sr_why.specs.declared.whole.WholeList.{WholeList}
use Rattle.sr_print.specs.Links.{link_word}
use Rattle.sr_print.specs.Printed.{ended, numbered}
use Rattle.sr_print.specs.Repairs.{AreSegments, segment_word, segments_text}

-- a list that isn't pushed: its first link, its segments and its cost
abbrev pub whole_text : Net → WholeList → List ℕ
whole_text n list =
    codes " via" ++ link_word n list.first.0 ++ segments_text n list.segments ++ numbered (codes " cost ") list.cost

-- the net lacks the index of the segment's node, or the label of its link
abbrev pub is_lacking : Net → Segment → Bool
is_lacking n (Node v) = not (is_some (labels_at n v.0).index)
is_lacking n (Adj l) = not (is_some (adj_at n l.0))

-- a segment as one more word where the net lacks it, and nothing else
abbrev pub lacking_word : Net → Segment → List ℕ
lacking_word n segment = if is_lacking n segment then segment_word n segment else []

-- the segments that the net lacks, each as one more word
abbrev pub lacks_text : Net → List Segment → List ℕ
lacks_text n segments = codes " lacks" ++ flat_map (lacking_word n) segments

-- the reason, as far as it stands in the line
abbrev pub reason_text : Net → Cause → List ℕ
reason_text n Covered = codes "why covered"
reason_text n (NoPath reached) = numbered (codes "why nopath reached ") reached
reason_text n (NoList list) = codes "why nolist" ++ whole_text n list ++ lacks_text n list.segments
reason_text n (TooDeep list) = numbered (codes "why toodeep ") (length list.segments) ++ whole_text n list

-- why a case has no repair for a destination, or that it has one
abbrev pub reason_line : Net → Cause → List ℕ
reason_line n reason = ended (reason_text n reason)

-- the link and the nodes of the list are those of the graph
abbrev pub IsWholeWithin : Graph → WholeList → Type 0
IsWholeWithin g list = (list.first.0 < link_count g) × AreSegments g list.segments

-- so are those of the reason
abbrev pub IsReasonWithin : Graph → Cause → Type 0
IsReasonWithin g Covered = Unit {0}
IsReasonWithin g (NoPath reached) = Unit {0}
IsReasonWithin g (NoList list) = IsWholeWithin g list
IsReasonWithin g (TooDeep list) = IsWholeWithin g list
