use Rattle.std.proofs.Common.{◌≡◌, ◌++◌, drop, length}
use Rattle.std.specs.List.{filter_map}
use Rattle.sr_labels.specs.Rules.{AreOfNodes}
use Rattle.sr_domain.specs.Links.{adj_label_by}
use Rattle.sr_domain.proofs.clash.adj_labels.Given as goal

abbrev pub invariant-loop-link : goal.invariant-loop-link
invariant-loop-link l = record {
  same : l.out.items ++ filter_map (adj_label_by l.nodes) (drop l.link-index l.links) ≡ filter_map (adj_label_by l.nodes) l.links;
  nodes : AreOfNodes (length l.nodes) l.out.items;
}
