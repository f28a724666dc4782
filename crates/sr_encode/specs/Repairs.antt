-- What is listed for the affected destinations of a case, as it is kept.
use Rattle.std.specs.Prelude.{ℕ, ◌≤◌, Bool, List, length}
use Rattle.sr_lanes.specs.declared.limits.TheConstants.{NODES_AT_MOST}
use Rattle.sr_lanes.specs.declared.words.NodeBits.{NodeBits}
use Rattle.sr_model.specs.Label.{Net}
use Rattle.sr_graph.specs.Ranges.{HoldsLinks}
use Rattle.sr_encode.specs.declared.repairs.KeptLists.{KeptLists}
use Rattle.sr_encode.specs.Answered.{AreListed}
use Rattle.sr_encode.specs.Kept.{AreKeptWithin, entries}

-- what is listed for each destination of the set is kept, ascending, with first links counted from that at which the
-- links of the source begin
pub record AreAllKept (n : Net) (x : List Bool) (s : ℕ) (wanted : NodeBits) (all : KeptLists) : Type 0 where
  pub first : ℕ
  pub end : ℕ
  pub holds : HoldsLinks n.graph s first end
  pub listed : AreListed n x s wanted (entries all.segments.items all.outcomes.items all.kept.items first)
  pub within : AreKeptWithin all.segments.items all.outcomes.items all.kept.items
  pub few : length all.kept.items ≤ NODES_AT_MOST
