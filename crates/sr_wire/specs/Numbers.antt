-- Numbers that fit their octets, lists of numbers of four octets each, and flags.
use Rattle.std.specs.Prelude.{◌≡◌, ℕ, ◌+◌, ◌<◌, ◌≤◌, ◌^◌, Bool, true, false, if◌then◌else◌, List, [], ◌∷◌, length, drop}
use Rattle.std.specs.List.{flat_map}
use Rattle.byteorder.specs.Endian.{big_bytes}
use Rattle.sr_wire.specs.Octets.{number}

-- the number fits four octets
abbrev pub FitsFourOctets : ℕ → Type 0
FitsFourOctets n = n < 2 ^ 32

-- the number fits six octets, as a system id does
abbrev pub FitsSixOctets : ℕ → Type 0
FitsSixOctets n = n < 2 ^ 48

-- the octets are these numbers, four octets each
abbrev pub AreNumbers : List ℕ → List ℕ → Type 0
AreNumbers octets [] = octets ≡ []
AreNumbers octets (n ∷ ns) = (4 ≤ length octets) × (n ≡ number octets 0 4) × AreNumbers (drop 4 octets) ns

-- the one spelling of numbers
abbrev pub numbers_text : List ℕ → List ℕ
numbers_text numbers = flat_map (big_bytes 4) numbers

-- a field of `size` octets, from place `at` of `long` octets on, passes their end
abbrev pub PassesEnd : ℕ → ℕ → ℕ → Type 0
PassesEnd long at size = (at ≤ long) × (long < at + size)

-- the octet with this bit where a fact holds
abbrev pub bit_if : Bool → ℕ → ℕ
bit_if b bit = if b then bit else 0

-- whether a list has items
abbrev pub is_some_list : {X : Type 0} → List X → Bool
is_some_list [] = false
is_some_list (x ∷ xs) = true
