use Rattle.sr_domain.proofs.labels.node_labels.Goals as goal

pub with_ranges-requires : goal.with_ranges-requires
with_ranges-requires c = record {
  nodes = c.requires.nodes;
  ascending = c.requires.ascending;
  ranges = c.in_ok-ranges.ensures.ranges;
  kept = c.in_ok-ranges.ensures.kept;
}
