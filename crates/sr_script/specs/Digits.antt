-- Hexadecimal digits, and the octets that two of them write.
use Rattle.std.specs.Prelude.{◌≡◌, ℕ, ◌+◌, ◌*◌, ◌<◌, ◌≤◌, List, length, slice_index, MatchOption}
use Rattle.hex.specs.Hex.{hex_digit_value}

-- the byte is a digit of this value, or no digit, for which any value from 16 on may stand
abbrev pub IsValueOf : ℕ → ℕ → Type 0
IsValueOf byte value = MatchOption (hex_digit_value byte) (16 ≤ value) (λ v. v ≡ value)

-- there are `n` lanes, each of which stands for the byte in its place
pub record AreValuesOf (n : ℕ) (bytes values : List ℕ) : Type 0 where
  pub count : length values ≡ n
  pub lanes : (k : ℕ) → k < n → IsValueOf (slice_index bytes k) (slice_index values k)

-- each of the first `n` values is one of a digit
abbrev pub AreDigits : ℕ → List ℕ → Type 0
AreDigits n values = (k : ℕ) → k < n → slice_index values k < 16

-- there are `n` octets, each of which is made of the two values in its place
pub record AreOctetsOf (n : ℕ) (values octets : List ℕ) : Type 0 where
  pub count : length octets ≡ n
  pub lanes : (k : ℕ) → k < n
      → slice_index octets k ≡ 16 * slice_index values (2 * k) + slice_index values (2 * k + 1)
