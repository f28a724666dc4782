-- What the search for a broken rule stands on and gives.
use Rattle.std.specs.Prelude.{ℕ, ◌<◌, List, length}
use Rattle.sr_model.specs.declared.label.AdjLabel.{AdjLabel}
use Rattle.sr_model.specs.Label.{Labels, IsSrgb}
use Rattle.sr_model.specs.Rule.{node_at, adj_label_at}

-- each node announces an SRGB
abbrev pub HaveSrgbs : List Labels → Type 0
HaveSrgbs nodes = (v : ℕ) → v < length nodes → IsSrgb (node_at nodes v).srgb

-- the node of each adjacency label is one of the first `count` nodes
abbrev pub AreOfNodes : ℕ → List AdjLabel → Type 0
AreOfNodes count adj = (k : ℕ) → k < length adj → (adj_label_at adj k).node < count
