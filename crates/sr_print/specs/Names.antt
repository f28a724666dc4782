-- The names of a net's nodes and links, kept as texts.
use Rattle.std.specs.Prelude.{◌≡◌, ℕ, ◌<◌, List, [], ◌++◌, codes, length, slice_index_or}
use Rattle.sr_model.specs.declared.repair.Segment.{Segment}
use Rattle.sr_model.specs.declared.repair.Segment.TheVariants.{Node, Adj}
use Rattle.sr_model.specs.Graph.{node_count, link_count, system_at}
use Rattle.sr_model.specs.Label.{Net}
use Rattle.sr_model.specs.SystemText.{system_text}
use Rattle.sr_print.specs.Links.{link_text}

-- texts for nodes and for links, each at the place of its number
pub record Texts : Type 0 where
  pub nodes : List (List ℕ)
  pub links : List (List ℕ)

-- the system id of node v
unfoldable pub node_text : Net → ℕ → List ℕ
node_text n v = system_text (system_at n.graph v)

-- the text at place i
abbrev pub text_at : List (List ℕ) → ℕ → List ℕ
text_at texts i = slice_index_or texts i []

-- a text for each of the first m numbers
pub record AreTexts (text : ℕ → List ℕ) (m : ℕ) (texts : List (List ℕ)) : Type 0 where
  pub long : length texts ≡ m
  pub each : (i : ℕ) → i < m → text_at texts i ≡ text i

-- these are the names of the nodes and links of the net
pub record AreNames (n : Net) (names : Texts) : Type 0 where
  pub nodes : AreTexts (node_text n) (node_count n.graph) names.nodes
  pub links : AreTexts (link_text n) (link_count n.graph) names.links

-- the node or the link of the segment has a text
abbrev pub HasText : Texts → Segment → Type 0
HasText names (Node v) = v.0 < length names.nodes
HasText names (Adj l) = l.0 < length names.links

-- a segment as one more word, by the texts that are kept
abbrev pub named_segment : Texts → Segment → List ℕ
named_segment names (Node v) = codes " node:" ++ text_at names.nodes v.0
named_segment names (Adj l) = codes " adj:" ++ text_at names.links l.0
