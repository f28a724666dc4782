-- What is at hand of the facts before their rules are tested.
use Rattle.std.specs.Prelude.{◌≡◌, List, length, map}
use Rattle.std.specs.List.Sorted.{IsPermutation, IsSortedByKey, IsStrictlyIncreasing}
use Rattle.sr_model.specs.declared.label.Range.{Range}
use Rattle.sr_model.specs.KeyOrder.{key_cmp}
use Rattle.sr_model.specs.Label.{Labels, nameless}
use Rattle.sr_labels.specs.Rules.{AreOfNodes}
use Rattle.sr_labels.specs.Adjacencies.{AreInOrder}
use Rattle.sr_lsdb.specs.declared.facts.Facts.{Facts}
use Rattle.sr_domain.specs.Nodes.{nodes_of, ranges_of}
use Rattle.sr_domain.specs.Links.{links_of, found_adj_labels, link_key}
use Rattle.sr_rules.specs.declared.survey.RuleSurvey.{RuleSurvey}

-- a node that announces these label ranges, which may be no SRGB, and nothing else
abbrev pub with_ranges : List Range → Labels
with_ranges ranges = record nameless { srgb = ranges }

-- the nodes that announce these label ranges
abbrev pub nodes_with : List (List Range) → List Labels
nodes_with ranges = map with_ranges ranges

-- the present nodes, the label ranges of each, the adjacency labels in order, and the links in order of key
pub record AreSurveyed (facts : Facts) (survey : RuleSurvey) : Type 0 where
  pub nodes : survey.nodes.items ≡ nodes_of facts
  pub ascending : IsStrictlyIncreasing survey.nodes.items
  pub ranges : survey.ranges.items ≡ map (ranges_of facts) (nodes_of facts)
  pub labels : IsPermutation (found_adj_labels facts) survey.adj.items
  pub within : AreOfNodes (length survey.nodes.items) survey.adj.items
  pub order : AreInOrder survey.adj.items
  pub links : IsPermutation (links_of facts) survey.links.items
  pub sorted : IsSortedByKey link_key key_cmp survey.links.items
