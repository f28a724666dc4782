use Rattle.std.proofs.Common.{◌∷◌, []}
use Rattle.sr_lanes.specs.Bits.{is_in}
use Rattle.sr_lanes.proofs.WordLemmas.{nothing-told, words-none}
use Rattle.sr_lanes.proofs.words.NodeBits.none.Goals as goal

pub returns : goal.returns
unfolding is_in
returns c v = nothing-told (0 ∷ 0 ∷ 0 ∷ 0 ∷ []) words-none v
