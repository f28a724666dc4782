-- What the nets are made of in which nothing is lacking.
use Rattle.std.specs.Prelude.{◌≡◌, ℕ, ◌+◌, ◌<◌, false, List, [], ◌∷◌, length, Option, Some, None, slice_index_or}
use Rattle.sr_model.specs.declared.label.Range.{Range}
use Rattle.sr_model.specs.declared.name.LinkKey.{LinkKey}
use Rattle.sr_model.specs.Graph.{Graph, no_link}
use Rattle.sr_model.specs.Label.{Labels}
use Rattle.sr_model.specs.Rule.{node_at}
use Rattle.sr_model.specs.Case.{key_at}

-- a label for each of that many nodes, from the first that isn't reserved on (RFC 3032, 2.1)
abbrev pub whole_range : ℕ → Range
whole_range count = record { first = 16; size = count }

-- what node v of that many announces: such a range, and its number as its index
abbrev pub whole_labels : ℕ → ℕ → Labels
whole_labels count v = record {
  srgb = whole_range count ∷ [];
  index = Some v;
  keep = false;
  explicit = false;
  imposes = None;
}

-- the first m of that many nodes announce that
pub record AreWholeNodes (count m : ℕ) (nodes : List Labels) : Type 0 where
  pub long : length nodes ≡ m
  pub each : (v : ℕ) → v < m → node_at nodes v ≡ whole_labels count v

-- the first m links have labels of their own, behind those of that many nodes
pub record AreWholeLinks (count m : ℕ) (adj : List (Option ℕ)) : Type 0 where
  pub long : length adj ≡ m
  pub each : (l : ℕ) → l < m → slice_index_or adj l None ≡ Some (16 + count + l)

-- the keys are those of the first m links, in their order
pub record AreLinkKeys (g : Graph) (m : ℕ) (keys : List LinkKey) : Type 0 where
  pub long : length keys ≡ m
  pub each : (l : ℕ) → l < m → slice_index_or keys l no_link.key ≡ key_at g l
