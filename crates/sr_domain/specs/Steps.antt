-- What is at hand between the steps from the facts to their net.
use Rattle.std.specs.Prelude.{◌≡◌, ℕ, ◌<◌, ◌≤◌, List, length, map, All}
use Rattle.std.specs.List.Sorted.{IsPermutation, IsSortedByKey, IsStrictlyIncreasing}
use Rattle.sr_model.specs.declared.label.Range.{Range}
use Rattle.sr_model.specs.Key.{pair_of}
use Rattle.sr_model.specs.KeyOrder.{key_cmp}
use Rattle.sr_model.specs.Label.{Labels}
use Rattle.sr_model.specs.Graph.{Graph, link_count, link_at, groups_at, IsGraph, IsNamed, IsGrouped}
use Rattle.sr_wire.specs.declared.registry.TheConstants.{MAXIMUM_METRIC}
use Rattle.sr_labels.specs.Rules.{HaveSrgbs}
use Rattle.sr_model.specs.declared.limits.TheConstants.{MOST_DEPTH}
use Rattle.sr_lsdb.specs.declared.facts.Facts.{Facts}
use Rattle.sr_domain.specs.declared.groups.RiskTable.{RiskTable}
use Rattle.sr_model.specs.declared.link.TheConstants.{MOST_LINKS}
use Rattle.sr_domain.specs.declared.links.FoundLink.{FoundLink}
use Rattle.sr_domain.specs.declared.gathered.Gathered.{Gathered}
use Rattle.sr_domain.specs.Announced.{announcements_of, two_way_of}
use Rattle.sr_domain.specs.Nodes.{all_labels, has_overload_bit, labels_of, nodes_of, ranges_of}
use Rattle.sr_domain.specs.Links.{links_of, labelled, link_key, link_label, JoinsNodes, KeysAscend}
use Rattle.sr_domain.specs.Groups.{AreGroupsOf, notes_of}
use Rattle.sr_domain.specs.GroupTables.{GivesGroups, IsRiskTable, groups_in}
use Rattle.sr_domain.specs.Rules.{AreKept}

-- below the maximum metric (RFC 5305, 3)
abbrev pub IsBelowMaximum : FoundLink → Type 0
IsBelowMaximum link = link.metric < MAXIMUM_METRIC

-- what is gathered of the facts: announcements, nodes that ascend, and links between them below the maximum metric
pub record AreGathered (facts : Facts) (gathered : Gathered) : Type 0 where
  pub announced : gathered.announced.items ≡ announcements_of facts
  pub two_way : gathered.two_way.items ≡ two_way_of facts
  pub nodes : gathered.nodes.items ≡ nodes_of facts
  pub ascending : IsStrictlyIncreasing gathered.nodes.items
  pub links : gathered.links.items ≡ links_of facts
  pub ends : All (JoinsNodes gathered.nodes.items) gathered.links.items
  pub metrics : All IsBelowMaximum gathered.links.items

-- the present nodes with the label ranges that each announces, of facts that keep the first rule
pub record HaveRanges (facts : Facts) (present : List ℕ) (announced : List (List Range)) : Type 0 where
  pub nodes : present ≡ nodes_of facts
  pub ascending : IsStrictlyIncreasing present
  pub ranges : announced ≡ map (ranges_of facts) present
  pub kept : AreKept facts 1

-- the present nodes with what they announce, and the links between them, of facts that keep the first two rules
pub record AreLabelled (facts : Facts) (present : List ℕ) (told : List Labels) (found : List FoundLink) : Type 0 where
  pub nodes : present ≡ nodes_of facts
  pub ascending : IsStrictlyIncreasing present
  pub labels : told ≡ map (labels_of facts) present
  pub links : found ≡ links_of facts
  pub ends : All (JoinsNodes present) found
  pub kept : AreKept facts 2

-- what a graph is drafted of: the present nodes, the links between them in order of key and below the maximum metric,
-- and the groups of their pairs, of facts that keep the first five rules
pub record AreDrafted (facts : Facts) (present : List ℕ) (found : List FoundLink) (risks : RiskTable) : Type 0 where
  pub nodes : present ≡ nodes_of facts
  pub ascending : IsStrictlyIncreasing present
  pub same : IsPermutation (links_of facts) found
  pub sorted : IsSortedByKey link_key key_cmp found
  pub ends : All (JoinsNodes present) found
  pub metrics : All IsBelowMaximum found
  pub table : IsRiskTable risks
  pub groups : length found ≤ MOST_LINKS → KeysAscend found
      → GivesGroups (groups_in risks) (announcements_of facts) (notes_of facts)
  pub kept : AreKept facts 5

-- the graph of these nodes and links, which are in order, with the overloaded nodes and the groups of the facts
pub record IsGraphOf (facts : Facts) (nodes : List ℕ) (links : List FoundLink) (g : Graph) : Type 0 where
  pub systems : g.systems ≡ nodes
  pub overloaded : g.overloaded ≡ map (has_overload_bit facts) nodes
  pub graph : IsGraph g
  pub named : IsNamed g
  pub grouped : IsGrouped g
  pub long : link_count g ≡ length links
  pub same : labelled g.links (map link_label links) ≡ links
  pub groups : (l : ℕ) → l < link_count g → AreGroupsOf facts (pair_of (link_at g l).key) (groups_at g l)

-- what is gathered of the facts, and what their nodes announce, of facts that keep the first five rules
pub record AreReady (facts : Facts) (collected : Gathered) (announced : List Labels) : Type 0 where
  pub depth : facts.depth ≤ MOST_DEPTH
  pub gathered : AreGathered facts collected
  pub labels : announced ≡ all_labels facts
  pub ranges : HaveSrgbs announced
  pub kept : AreKept facts 5

-- the parts of a net: the graph, what its nodes announce, and its links in order, of facts that keep all nine rules
pub record AreParts (facts : Facts) (built : Graph) (announced : List Labels) (found : List FoundLink) : Type 0 where
  pub depth : facts.depth ≤ MOST_DEPTH
  pub graph : IsGraphOf facts (nodes_of facts) found built
  pub labels : announced ≡ all_labels facts
  pub ranges : HaveSrgbs announced
  pub same : IsPermutation (links_of facts) found
  pub kept : AreKept facts 9
