-- How places are given to nodes.
use Rattle.std.proofs.Common.{◌≡◌, ℕ, true, false, List, length, Option, Some}
use Rattle.sr_lanes.specs.declared.words.NodeBits.{NodeBits}
use Rattle.sr_lanes.specs.Bits.{is_in}
use Rattle.sr_encode.specs.Serve.{place_at}

-- of these nodes, those that aren't left have the place
pub record IsMarking (before : List (Option ℕ)) (nodes : NodeBits) (k : ℕ) (left : NodeBits) (places : List (Option ℕ)) : Type 0 where
  pub long : length places ≡ length before
  pub inside : (d : ℕ) → is_in left d ≡ true → is_in nodes d ≡ true
  pub these : (d : ℕ) → is_in nodes d ≡ true → is_in left d ≡ false → place_at places d ≡ Some k
  pub others : (d : ℕ) → is_in nodes d ≡ false → place_at places d ≡ place_at before d
