-- The four words of a set.
use Rattle.std.specs.Prelude.{◌≡◌, ℕ, ◌<◌, ◌^◌, List, length, slice_index}

-- these are four words of 64 bits each
pub record AreWords (words : List ℕ) : Type 0 where
  pub four : length words ≡ 4
  pub fits : (k : ℕ) → slice_index words k < 2 ^ 64
