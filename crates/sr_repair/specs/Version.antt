-- Versions: nets with their numbers.
use Rattle.std.specs.Prelude.{ℕ}
use Rattle.sr_model.specs.Label.{Net}

-- the net of an accepted commit, and its number, counted from 1
pub record NumberedNet : Type 0 where
  pub number : ℕ
  pub net : Net

-- the version of this number and net
abbrev pub version_of : ℕ → Net → NumberedNet
version_of number net = record { number = number; net = net }
