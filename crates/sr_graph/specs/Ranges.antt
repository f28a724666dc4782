-- Where the links of each node stand.
use Rattle.std.specs.Prelude.{◌≡◌, ℕ, ◌+◌, ◌<◌, ◌≤◌, List, [], length, slice_index, slice_index_or}
use Rattle.sr_model.specs.declared.link.Link.{Link}
use Rattle.sr_model.specs.declared.link.LinkNo.{LinkNo}
use Rattle.sr_model.specs.Graph.{Graph, node_count, link_count, tail, head, no_link}
use Rattle.sr_graph.specs.declared.edges.Edge.{Edge}
use Rattle.sr_graph.specs.Members.{number_at, AscendEach}

-- the node at which the link at place l begins
abbrev pub tail_in : List Link → ℕ → ℕ
tail_in links l = (slice_index_or links l no_link).from.0

-- the node at which the edge at place l ends
abbrev pub end_in : List Edge → ℕ → ℕ
end_in edges l = (slice_index_or edges l (record { from = record { 0 = 0 }; to = record { 0 = 0 }; metric = 0 })).to.0

-- links are in order of the nodes at which they begin
abbrev pub AreByTail : List Link → Type 0
AreByTail links = (k l : ℕ) → k ≤ l → l < length links → tail_in links k ≤ tail_in links l

-- the links that begin at node u or at a later one are those from place `starts u` on
pub record AreStarts (nodes : ℕ) (links : List Link) (starts : List ℕ) : Type 0 where
  pub long : length starts ≡ nodes + 1
  pub inside : (u : ℕ) → u ≤ nodes → slice_index starts u ≤ length links
  pub from : (u l : ℕ) → u ≤ nodes → l < length links → slice_index starts u ≤ l → u ≤ tail_in links l
  pub to : (u l : ℕ) → u ≤ nodes → l < length links → u ≤ tail_in links l → slice_index starts u ≤ l

-- the links of node u are those from place i to below place j
pub record HoldsLinks (g : Graph) (u i j : ℕ) : Type 0 where
  pub ordered : i ≤ j
  pub inside : j ≤ link_count g
  pub from : (l : ℕ) → i ≤ l → l < j → tail g l ≡ u
  pub to : (l : ℕ) → l < link_count g → tail g l ≡ u → (i ≤ l) × (l < j)

-- the list has the places below n of the edges that end at node v, ascending, and no others
pub record AreEndingAt (edges : List Edge) (n v : ℕ) (links : List LinkNo) : Type 0 where
  pub each : (i : ℕ) → i < length links → (number_at links i < n) × (end_in edges (number_at links i) ≡ v)
  pub all : (l : ℕ) → l < n → end_in edges l ≡ v → (i : ℕ) × (i < length links) × (number_at links i ≡ l)
  pub ascending : AscendEach links

-- there is a list for each of the nodes, of the places below n of the edges that end there
pub record AreListedByEnd (edges : List Edge) (n nodes : ℕ) (lists : List (List LinkNo)) : Type 0 where
  pub long : length lists ≡ nodes
  pub each : (v : ℕ) → v < nodes → AreEndingAt edges n v (slice_index_or lists v [])

-- the list has the links that end at node v, ascending, and no others
pub record EndAt (g : Graph) (v : ℕ) (links : List LinkNo) : Type 0 where
  pub each : (i : ℕ) → i < length links → (number_at links i < link_count g) × (head g (number_at links i) ≡ v)
  pub all : (l : ℕ) → l < link_count g → head g l ≡ v → (i : ℕ) × (i < length links) × (number_at links i ≡ l)
  pub ascending : AscendEach links

-- there is a list for each node, of the links that end there
pub record AreIncoming (g : Graph) (lists : List (List LinkNo)) : Type 0 where
  pub long : length lists ≡ node_count g
  pub each : (v : ℕ) → v < node_count g → EndAt g v (slice_index_or lists v [])
