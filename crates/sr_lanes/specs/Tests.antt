-- Tests at places, and the bits that tell them.
use Rattle.std.specs.Prelude.{◌≡◌, ℕ, ◌+◌, ◌<◌, ◌^◌, ◌==◌, ◌&&◌, Bool}
use Rattle.std.specs.Int.{bit_at}
use Rattle.sr_lanes.specs.declared.limits.TheConstants.{A_WORD}

-- the bits below the count tell the test at the places from this one on, and no further bit is set
pub record AreBitsOf (test : ℕ → Bool) (from count bits : ℕ) : Type 0 where
  pub within : bits < 2 ^ count
  pub told : (i : ℕ) → i < count → (bit_at bits i == 1) ≡ test (from + i)

-- of the bits of a word, which tell of the places from this one on, these are those at whose places the test says yes
abbrev pub AreBitsAmong : (ℕ → Bool) → ℕ → ℕ → ℕ → Type 0
AreBitsAmong test from among bits =
    (i : ℕ) → i < A_WORD → (bit_at bits i == 1) ≡ ((bit_at among i == 1) && test (from + i))
