-- The nodes that stay.
use Rattle.sr_model.specs.Graph.{node_count}
use Rattle.sr_model.specs.Label.{Net}
use Rattle.sr_model.specs.Stay.{IsKeptTree, IsKeptNode}
use Rattle.sr_delta.specs.declared.staying.Staying.{Staying}
use Rattle.sr_delta.specs.Alike.{IsSetOf}

-- just the nodes whose trees stay, and just those that are kept
pub record AreStaying (n m : Net) (s : Staying) : Type 0 where
  pub trees : IsSetOf (IsKeptTree n.graph m.graph) (node_count n.graph) s.trees
  pub nodes : IsSetOf (IsKeptNode n m) (node_count n.graph) s.nodes
