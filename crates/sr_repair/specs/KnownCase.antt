-- What is known of a case that affects some destination.
use Rattle.std.specs.Prelude.{◌≡◌, Option, Some}
use Rattle.std.specs.Arc.{arc_value}
use Rattle.sr_model.specs.declared.case.Case.{Case}
use Rattle.sr_model.specs.Label.{Net}
use Rattle.sr_lanes.specs.declared.words.NodeBits.{NodeBits}
use Rattle.sr_post.specs.Marks.{AreWalks}
use Rattle.sr_repair.specs.declared.known_case.KnownCase.{KnownCase}
use Rattle.sr_repair.specs.Solutions.{IsSolution}

-- the nodes on the walks of the case, where they are told
abbrev pub AreToldWalks : Net → Case → Option NodeBits → Type 0
AreToldWalks n case walks = (set : NodeBits) → walks ≡ Some set → AreWalks n case set

-- what was computed is that of the case, and so are the nodes on the walks, where they are told
pub record IsKnownCase (n : Net) (case : Case) (known : KnownCase) : Type 0 where
  pub solution : IsSolution n case (arc_value known.solved)
  pub walks : AreToldWalks n case known.walks
