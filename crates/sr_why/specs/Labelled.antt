-- A net as if no index and no label were lacking.
use Rattle.std.specs.Prelude.{◌≡◌, ℕ, ◌<◌, true, is_some}
use Rattle.sr_model.specs.Graph.{node_count, link_count}
use Rattle.sr_model.specs.Label.{Net, labels_at, adj_at}

-- the net has the same graph, and in it each node has an index and each link a label
pub record IsLabelled (n m : Net) : Type 0 where
  pub graph : m.graph ≡ n.graph
  pub indices : (v : ℕ) → v < node_count n.graph → is_some (labels_at m v).index ≡ true
  pub labels : (l : ℕ) → l < link_count n.graph → is_some (adj_at m l) ≡ true
