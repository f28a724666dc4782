-- Sets of links as bits.
use Rattle.std.specs.Prelude.{◌≡◌, ℕ, ◌/◌, ◌%◌, List, slice_index}
use Rattle.std.specs.Int.{bit_at}

-- link l is in the set of these words
abbrev pub IsIn : List ℕ → ℕ → Type 0
IsIn words l = bit_at (slice_index words (l / 64)) (l % 64) ≡ 1
