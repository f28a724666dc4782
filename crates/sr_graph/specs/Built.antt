-- The graph of a draft.
use Rattle.std.specs.Prelude.{◌≡◌, List, [], ◌∷◌, ℕ, map}
use Rattle.std.specs.List.Sorted.{IsPermutation}
use Rattle.sr_model.specs.declared.link.Link.{Link}
use Rattle.sr_model.specs.Graph.{Graph, node_count, IsGraph, IsNamed, IsGrouped}
use Rattle.sr_graph.specs.declared.draft.DraftLink.{DraftLink}
use Rattle.sr_graph.specs.declared.draft.Draft.{Draft}
use Rattle.sr_graph.specs.declared.edges.Edge.{Edge}
use Rattle.sr_model.specs.declared.link.LinkNo.{LinkNo}
use Rattle.sr_graph.specs.Ranges.{AreStarts, AreIncoming}
use Rattle.sr_graph.specs.Sharing.{AreSharing}
use Rattle.sr_graph.specs.Edges.{edge_of}

-- links with their groups, as a draft lists them
abbrev pub drafted : List Link → List (List ℕ) → List DraftLink
drafted [] groups = []
drafted (link ∷ links) [] = []
drafted (link ∷ links) (listed ∷ groups) =
    record { key = link.key; metric = link.metric; groups = listed } ∷ drafted links groups

-- the draft's nodes and links, in order; no node is overloaded
pub record IsBuilt (draft : Draft) (g : Graph) : Type 0 where
  pub systems : g.systems ≡ draft.nodes
  pub links : IsPermutation draft.links (drafted g.links g.groups)
  pub overloaded : g.overloaded ≡ []
  pub graph : IsGraph g
  pub named : IsNamed g
  pub grouped : IsGrouped g

-- what every graph of the program keeps
pub record IsLaidOut (g : Graph) (listed : List Edge) (places : List ℕ) (lists : List (List LinkNo))
    (sets : List (List ℕ)) : Type 0 where
  pub graph : IsGraph g
  pub named : IsNamed g
  pub grouped : IsGrouped g
  pub edges : listed ≡ map edge_of g.links
  pub starts : AreStarts (node_count g) g.links places
  pub incoming : AreIncoming g lists
  pub sharing : AreSharing g.groups sets
