-- Numbers as words: 1 to 10 decimal digits (this project's rule). Leading zeros are taken.
use Rattle.std.specs.Prelude.{ℕ, ◌+◌, ◌-◌, ◌*◌, nat_le, ◌&&◌, Bool, if◌then◌else◌, List, length, fold, codes, Option, Some, None}
use Rattle.std.specs.List.{list_all}
use Rattle.std.specs.Char.{is_ascii_digit}
use Rattle.std.specs.Str.{bytes_eq}
use Rattle.sr_model.specs.declared.link.TheConstants.{FAR}
use Rattle.sr_script.specs.declared.number.TheConstants.{MOST_DIGITS}
use Rattle.sr_script.specs.declared.command.TheConstants.{MOST_DISTANCE}

-- the number that decimal digits write, the highest digit first; 48 is `b'0'`
abbrev pub decimal_value : List ℕ → ℕ
decimal_value word = fold (λ n byte. n * 10 + (byte - 48)) 0 word

-- one to ten digits, and nothing else
abbrev pub is_number : List ℕ → Bool
is_number word = list_all is_ascii_digit word && (nat_le 1 (length word) && nat_le (length word) MOST_DIGITS)

-- the number that a word writes, if it is a number
unfoldable pub number_read : List ℕ → Option ℕ
number_read word = if is_number word then Some (decimal_value word) else None

-- a number, if it is there and in the range
abbrev pub within : ℕ → ℕ → Option ℕ → Option ℕ
within low high (Some n) = if nat_le low n && nat_le n high then Some n else None
within low high None = None

-- the number that a word writes, if it is a number in the range
unfoldable pub number_in : ℕ → ℕ → List ℕ → Option ℕ
number_in low high word = within low high (number_read word)

-- the cell that a word writes: a distance, or `-` where there is no walk
unfoldable pub cell_read : List ℕ → Option ℕ
cell_read word = if bytes_eq word (codes "-") then Some FAR else number_in 0 MOST_DISTANCE word
