-- SIDs, as the Prefix-SID (RFC 8667, 2.1) and the Adj-SID (RFC 8667, 2.2.1) hold one.
use Rattle.std.specs.Prelude.{◌≡◌, ℕ, ◌<◌, ◌%◌, ◌^◌, bit_and, List, length}
use Rattle.byteorder.specs.Endian.{big_number, big_bytes}
use Rattle.sr_subtlv.specs.declared.sid.Sid.{Sid}
use Rattle.sr_subtlv.specs.declared.sid.Sid.TheVariants.{Index, Label}

-- these octets say the SID: where the V and L flags are clear an index in four octets, and where both are set a label
-- in the 20 rightmost bits of three. The mask has those two flags.
abbrev pub SaysSid : ℕ → ℕ → List ℕ → Sid → Type 0
SaysSid mask flags octets (Index i) = (bit_and flags mask ≡ 0) × (length octets ≡ 4) × (i ≡ big_number 4 octets)
SaysSid mask flags octets (Label l) =
    (bit_and flags mask ≡ mask) × (length octets ≡ 3) × (l ≡ big_number 3 octets % 2 ^ 20)

-- the SID has the form that the flags tell, and fits it
abbrev pub FitsSid : ℕ → ℕ → Sid → Type 0
FitsSid mask flags (Index i) = (bit_and flags mask ≡ 0) × (i < 2 ^ 32)
FitsSid mask flags (Label l) = (bit_and flags mask ≡ mask) × (l < 2 ^ 20)

-- the SID fits the octets of its form
abbrev pub FitsOctets : Sid → Type 0
FitsOctets (Index i) = i < 2 ^ 32
FitsOctets (Label l) = l < 2 ^ 20

-- the SID's one spelling, whose unused bits are 0
abbrev pub sid_text : Sid → List ℕ
sid_text (Index i) = big_bytes 4 i
sid_text (Label l) = big_bytes 3 l
