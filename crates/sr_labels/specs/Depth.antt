-- A net with another depth, and what it shares with the first.
use Rattle.std.specs.Prelude.{ℕ}
use Rattle.sr_model.specs.Label.{Net}
use Rattle.sr_labels.specs.declared.net.LabelledGraph.{LabelledGraph}

-- the net of a labelled graph in which lists may have this many segments where their node announces no MSD (maximum SID
-- depth)
abbrev pub net_over : LabelledGraph → ℕ → Net
net_over base depth = record {
  graph = base.graph;
  labels = base.nodes.items;
  adj = base.adj.items;
  announced = base.announced.items;
  depth = depth;
}

-- the net in which lists may have this many segments where their node announces no MSD
abbrev pub with_depth : ℕ → Net → Net
with_depth depth net = record {
  graph = net.graph;
  labels = net.labels;
  adj = net.adj;
  announced = net.announced;
  depth = depth;
}
