-- The lines on next hops, labels and walks, each with its line feed.
use Rattle.std.specs.Prelude.{ℕ, ◌<◌, List, [], ◌∷◌, ◌++◌, Option, Some, None, All, codes}
use Rattle.std.specs.List.{flat_map}
use Rattle.sr_model.specs.declared.link.LinkNo.{LinkNo}
use Rattle.sr_model.specs.declared.entry.Entry.{Entry}
use Rattle.sr_model.specs.declared.entry.Entry.TheVariants.{Own, Null, Adj, Node}
use Rattle.sr_model.specs.declared.entry.Out.{Out}
use Rattle.sr_model.specs.declared.entry.Out.TheVariants.{Pop, Swap, Null as NullOut}
use Rattle.sr_model.specs.Graph.{Graph, node_count, link_count, system_at}
use Rattle.sr_model.specs.Label.{Net}
use Rattle.sr_model.specs.Walk.{cost, stops}
use Rattle.sr_fib.specs.Entries.{numbers}
use Rattle.sr_print.specs.Links.{link_word, link_words}
use Rattle.sr_print.specs.Printed.{ended, word, node_word, numbered}

-- the links that may be crossed, or that there are none
abbrev pub next_line : Net → List LinkNo → List ℕ
next_line n [] = ended (codes "next none")
next_line n (link ∷ more) = ended (codes "next" ++ link_words n (link ∷ more))

-- what becomes of a label when a link is crossed
abbrev pub action_text : Out → List ℕ
action_text Pop = codes "pop"
action_text NullOut = codes "null"
action_text (Swap label) = numbered (codes "swap ") label

-- a link that may be crossed, and what then becomes of the label
unfoldable pub hop_text : Net → LinkNo × Out → List ℕ
hop_text n hop = codes " via" ++ link_word n hop.0.0 ++ word (action_text hop.1)

-- the node that a label leads to, and each link that may be crossed towards it
abbrev pub towards_text : Net → ℕ → List (LinkNo × Out) → List ℕ
towards_text n node hops = codes "label node" ++ node_word (system_at n.graph node) ++ flat_map (hop_text n) hops

-- what a label does at a node, or that it does nothing there
abbrev pub label_line : Net → Option Entry → List ℕ
label_line n None = ended (codes "label none")
label_line n (Some Own) = ended (codes "label own")
label_line n (Some Null) = ended (codes "label null")
label_line n (Some (Adj link)) = ended (codes "label adj" ++ link_word n link.0)
label_line n (Some (Node node hops)) = ended (towards_text n node.0 hops)

-- each of these hops crosses a link of the graph
abbrev pub AreHopLinks : Graph → List (LinkNo × Out) → Type 0
AreHopLinks g hops = All (λ (hop : LinkNo × Out). hop.0.0 < link_count g) hops

-- the nodes and links of the entry are nodes and links of the graph
abbrev pub IsEntryWithin : Graph → Entry → Type 0
IsEntryWithin g Own = Unit {0}
IsEntryWithin g Null = Unit {0}
IsEntryWithin g (Adj link) = link.0 < link_count g
IsEntryWithin g (Node node hops) = (node.0 < node_count g) × AreHopLinks g hops

-- the node at which a walk starts, and those that it reaches
abbrev pub nodes_text : Graph → ℕ → List LinkNo → List ℕ
nodes_text g start links = flat_map (λ v. node_word (system_at g v)) (start ∷ stops g (numbers links))

-- a walk by its nodes and its cost, or that there is none
abbrev pub walk_line : Net → ℕ → Option (List LinkNo) → List ℕ
walk_line n start None = ended (codes "walk none")
walk_line n start (Some links) =
    ended (codes "walk" ++ nodes_text n.graph start links ++ numbered (codes " cost ") (cost n.graph (numbers links)))
