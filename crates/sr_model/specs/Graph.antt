-- A directed graph with metrics. Nodes and links are known by their places in its lists.
use Rattle.std.specs.Prelude.{◌≡◌, ℕ, ◌+◌, ◌<◌, ◌≤◌, ◌==◌, not, Bool, true, false, if◌then◌else◌, List, [], length, slice_index, slice_index_or}
use Rattle.std.specs.List.Sorted.{IsStrictlyIncreasing}
use Rattle.sr_model.specs.declared.name.Ident.TheVariants.{None as NoIdent}
use Rattle.sr_model.specs.declared.link.Link.{Link}
use Rattle.sr_model.specs.declared.link.TheConstants.{MOST_NODES, MOST_LINKS, MOST_METRIC}
use Rattle.sr_model.specs.Key.{KeyLt, IsSamePair}

-- the system ids of the nodes, the links, the shared-risk groups of each link, and for each node whether it is
-- overloaded (ISO 10589, 7.2.8.1)
pub record Graph : Type 0 where
  pub systems : List ℕ
  pub links : List Link
  pub groups : List (List ℕ)
  pub overloaded : List Bool

-- how many nodes the graph has
abbrev pub node_count : Graph → ℕ
node_count g = length g.systems

-- how many links the graph has
abbrev pub link_count : Graph → ℕ
link_count g = length g.links

-- what stands for a link past the end of the list
abbrev pub no_link : Link
no_link = record {
  key = record { from = 0; to = 0; ident = NoIdent };
  from = record { 0 = 0 };
  to = record { 0 = 0 };
  metric = 0;
}

-- link number l
abbrev pub link_at : Graph → ℕ → Link
link_at g l = slice_index_or g.links l no_link

-- the node at which link l begins
abbrev pub tail : Graph → ℕ → ℕ
tail g l = (link_at g l).from.0

-- the node at which link l ends
abbrev pub head : Graph → ℕ → ℕ
head g l = (link_at g l).to.0

-- the metric of link l (RFC 5305, 3)
abbrev pub metric : Graph → ℕ → ℕ
metric g l = (link_at g l).metric

-- the system id of node v
abbrev pub system_at : Graph → ℕ → ℕ
system_at g v = slice_index g.systems v

-- the shared-risk groups of link l
abbrev pub groups_at : Graph → ℕ → List ℕ
groups_at g l = slice_index_or g.groups l []

-- a set of links is a list of tests, one for each number; past its end no link is in it
abbrev pub has : List Bool → ℕ → Bool
has x l = slice_index_or x l false

-- no walk passes through such a node
abbrev pub is_overloaded : Graph → ℕ → Bool
is_overloaded g v = slice_index_or g.overloaded v false

-- w is u, or isn't overloaded: w may stand beside the end u of a walk
abbrev pub carries : Graph → ℕ → ℕ → Bool
carries g u w = if w == u then true else not (is_overloaded g w)

-- the link's ends are nodes, and its metric lies in 1..16777214 (RFC 5305, 3)
abbrev pub IsLink : Graph → Link → Type 0
IsLink g k = (k.from.0 < node_count g) × (k.to.0 < node_count g) × (0 < k.metric) × (k.metric < MOST_METRIC + 1)

-- the limits of a graph, and its links in order of the nodes at which they begin
pub record IsGraph (g : Graph) : Type 0 where
  pub few_nodes : node_count g ≤ MOST_NODES
  pub few_links : link_count g ≤ MOST_LINKS
  pub each : (l : ℕ) → l < link_count g → IsLink g (link_at g l)
  pub by_tail : (k l : ℕ) → k ≤ l → l < link_count g → tail g k ≤ tail g l

-- nodes are in order of system id, links in order of key, and a link's ends are the nodes that its key names
pub record IsNamed (g : Graph) : Type 0 where
  pub ascending : (u v : ℕ) → u < v → v < node_count g → system_at g u < system_at g v
  pub ends : (l : ℕ) → l < link_count g → ((link_at g l).key.from ≡ system_at g (tail g l))
      × ((link_at g l).key.to ≡ system_at g (head g l))
  pub keys : (k l : ℕ) → k < l → l < link_count g → KeyLt (link_at g k).key (link_at g l).key

-- each link has its groups, ascending, and the links of one pair have the same
pub record IsGrouped (g : Graph) : Type 0 where
  pub long : length g.groups ≡ link_count g
  pub ascending : (l : ℕ) → l < link_count g → IsStrictlyIncreasing (groups_at g l)
  pub pairs : (k l : ℕ) → k < link_count g → l < link_count g → IsSamePair (link_at g k).key (link_at g l).key
      → groups_at g k ≡ groups_at g l
