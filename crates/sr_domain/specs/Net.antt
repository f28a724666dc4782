-- The net of the facts of a domain.
use Rattle.std.specs.Prelude.{◌≡◌, ℕ, ◌<◌}
use Rattle.std.specs.List.Sorted.{IsPermutation}
use Rattle.sr_model.specs.Key.{pair_of}
use Rattle.sr_model.specs.Graph.{link_count, link_at, groups_at}
use Rattle.sr_model.specs.Label.{Net}
use Rattle.sr_model.specs.Rule.{IsAccepted}
use Rattle.sr_lsdb.specs.declared.facts.Facts.{Facts}
use Rattle.sr_domain.specs.Announced.{two_way_of, AreKeysOf}
use Rattle.sr_domain.specs.Nodes.{nodes_of, all_labels, overload_marks}
use Rattle.sr_domain.specs.Links.{links_of, labelled}
use Rattle.sr_domain.specs.Groups.{AreGroupsOf}
use Rattle.sr_domain.specs.Rules.{AreKept}

-- exactly the net of the facts, which break none of the nine rules: the present nodes with what they announce, those
-- that are overloaded, the links in use in order of key with their metrics, adjacency labels and groups, the keys of
-- all two-way announcements, and the depth
pub record IsNetOf (facts : Facts) (net : Net) : Type 0 where
  pub kept : AreKept facts 9
  pub accepted : IsAccepted net
  pub systems : net.graph.systems ≡ nodes_of facts
  pub overloaded : net.graph.overloaded ≡ overload_marks facts
  pub labels : net.labels ≡ all_labels facts
  pub links : IsPermutation (links_of facts) (labelled net.graph.links net.adj)
  pub groups : (l : ℕ) → l < link_count net.graph
      → AreGroupsOf facts (pair_of (link_at net.graph l).key) (groups_at net.graph l)
  pub announced : AreKeysOf (two_way_of facts) net.announced
  pub depth : net.depth ≡ facts.depth
