-- What becomes of a node's label on the links towards it.
use Rattle.std.specs.Prelude.{◌≡◌, ℕ, ◌<◌, ◌==◌, ◌&&◌, not, if◌then◌else◌, List, Option, Some, None, map, All}
use Rattle.sr_model.specs.declared.label.Range.{Range}
use Rattle.sr_model.specs.declared.link.LinkNo.{LinkNo}
use Rattle.sr_model.specs.declared.entry.Out.{Out}
use Rattle.sr_model.specs.declared.entry.Out.TheVariants.{Pop, Swap, Null}
use Rattle.sr_model.specs.Graph.{node_count, link_count, head}
use Rattle.sr_model.specs.Label.{Net, labels_at, label_of}
use Rattle.sr_fib.specs.declared.sorted.IndexedNode.{IndexedNode}

-- the label, or 0 where there is none
abbrev pub label_or_0 : Option ℕ → ℕ
label_or_0 None = 0
label_or_0 (Some t) = t

-- the label of the index in the ranges, or 0 where there is none
abbrev pub label_of_index : List Range → Option ℕ → ℕ
label_of_index rs None = 0
label_of_index rs (Some i) = label_or_0 (label_of rs i)

-- b's label is swapped for the one by which m knows it
abbrev pub swap_at : Net → ℕ → ℕ → Out
swap_at n b m = Swap (label_of_index (labels_at n m).srgb (labels_at n b).index)

-- what becomes of b's label when a link into m is crossed
abbrev pub out_at : Net → ℕ → ℕ → Out
out_at n b m =
    if (m == b) && not (labels_at n b).keep
    then Pop
    else (if (m == b) && (labels_at n b).explicit then Null else swap_at n b m)

-- the link, and what becomes of b's label when it is crossed
abbrev pub hop_over : Net → ℕ → LinkNo → LinkNo × Out
hop_over n b l = (l, out_at n b (head n.graph l.0))

-- the links, each with what becomes of b's label when it is crossed
abbrev pub hops_over : Net → ℕ → List LinkNo → List (LinkNo × Out)
hops_over n b links = map (hop_over n b) links

-- the link of a hop
abbrev pub hop_link : LinkNo × Out → LinkNo
hop_link hop = hop.0

-- the entry is a node's, with its index
pub record IsIndexed (n : Net) (entry : IndexedNode) : Type 0 where
  pub within : entry.node.0 < node_count n.graph
  pub index : (labels_at n entry.node.0).index ≡ Some entry.index

-- each of these is a link of the net
abbrev pub AreLinksInside : Net → List LinkNo → Type 0
AreLinksInside n links = All (λ (l : LinkNo). l.0 < link_count n.graph) links
