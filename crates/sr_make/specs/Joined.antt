-- What the pairs of a made net join.
use Rattle.std.specs.Prelude.{◌≡◌, ◌≢◌, ℕ, ◌≤◌, All}
use Rattle.sr_make.specs.declared.pairs.TheConstants.{CHORD_NODES}
use Rattle.sr_make.specs.declared.making.TheConstants.{FEWEST_NODES}
use Rattle.sr_make.specs.declared.pairs.MadePair.{MadePair}
use Rattle.sr_make.specs.declared.pairs.Span.{Span}
use Rattle.sr_make.specs.Pairs.{made_pairs}

-- the number names a node of the net
abbrev pub IsMadeNode : ℕ → ℕ → Type 0
IsMadeNode nodes i = (1 ≤ i) × (i ≤ nodes)

-- the span joins two different nodes of the net
pub record IsSpanOf (nodes : ℕ) (span : Span) : Type 0 where
  pub first : IsMadeNode nodes span.first
  pub second : IsMadeNode nodes span.second
  pub apart : span.first ≢ span.second

-- the pair joins two different nodes of the net, its metric is from 1 to 20, and its group from 1 to 8
pub record IsPairOf (nodes : ℕ) (pair : MadePair) : Type 0 where
  pub span : IsSpanOf nodes pair.span
  pub metric : (1 ≤ pair.metric) × (pair.metric ≤ 20)
  pub group : (1 ≤ pair.group) × (pair.group ≤ 8)

-- each pair of each made net joins two different nodes of it
abbrev pub EachMadePairJoins : Type 0
EachMadePairJoins = (nodes start : ℕ) → FEWEST_NODES ≤ nodes → All (IsPairOf nodes) (made_pairs nodes start)

-- nets of at least six nodes have chords
abbrev pub ChordsFromSix : Type 0
ChordsFromSix = CHORD_NODES ≡ 6
