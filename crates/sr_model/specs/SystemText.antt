-- System ids as text.
use Rattle.std.specs.Prelude.{ℕ, ◌+◌, ◌*◌, ◌/◌, ◌%◌, ◌^◌, ◌==◌, nat_lt, ◌&&◌, Bool, if◌then◌else◌, List, [], ◌∷◌, ◌++◌, length, Option, Some, None, slice_index}
use Rattle.std.specs.Char.{digit_value, digit_char}

-- `b'.'`
abbrev pub dot : ℕ
dot = 46

-- the hexadecimal digit, in lower case, that is worth 2 ^ k
abbrev pub digit_text : ℕ → ℕ → ℕ
digit_text n k = digit_char (n / 2 ^ k % 16)

-- the four digits of which the last is worth 2 ^ k
abbrev pub group_text : ℕ → ℕ → List ℕ
group_text n k = digit_text n (k + 12) ∷ digit_text n (k + 8) ∷ digit_text n (k + 4) ∷ digit_text n k ∷ []

-- what is written for the system id n: three groups of four hexadecimal digits, joined by dots
abbrev pub system_text : ℕ → List ℕ
system_text n = group_text n 32 ++ dot ∷ group_text n 16 ++ dot ∷ group_text n 0

-- the digit at place i, in upper or lower case; any other character is worth 16 or more
abbrev pub digit_at : List ℕ → ℕ → ℕ
digit_at text i = digit_value (slice_index text i)

-- four hexadecimal digits stand from place i on
abbrev pub is_group : List ℕ → ℕ → Bool
is_group text i =
    nat_lt (digit_at text i) 16 && (nat_lt (digit_at text (i + 1)) 16
    && (nat_lt (digit_at text (i + 2)) 16 && nat_lt (digit_at text (i + 3)) 16))

-- the number that they write
abbrev pub group_value : List ℕ → ℕ → ℕ
group_value text i =
    ((digit_at text i * 16 + digit_at text (i + 1)) * 16 + digit_at text (i + 2)) * 16 + digit_at text (i + 3)

-- the number of a group, if four digits stand there
unfoldable pub group_read : List ℕ → ℕ → Option ℕ
group_read text i = if is_group text i then Some (group_value text i) else None

-- three numbers of 16 bits, the highest first
abbrev pub joined : Option ℕ → Option ℕ → Option ℕ → Option ℕ
joined (Some high) (Some middle) (Some low) = Some (high * 2 ^ 32 + middle * 2 ^ 16 + low)
joined _ _ _ = None

-- room for three groups, and the dots between them
abbrev pub has_dots : List ℕ → Bool
has_dots text = length text == 14 && (slice_index text 4 == dot && slice_index text 9 == dot)

-- the system id that the text writes, if it is three groups of four hexadecimal digits, joined by dots
abbrev pub system_read : List ℕ → Option ℕ
system_read text = if has_dots text then joined (group_read text 0) (group_read text 5) (group_read text 10) else None
