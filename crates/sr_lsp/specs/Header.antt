-- The header of a link-state PDU (ISO 10589, 9.8 and 9.9).
use Rattle.std.specs.Prelude.{◌≡◌, ℕ, ◌%◌, ◌||◌, ◌&&◌, ◌==◌, nat_le, Bool, if◌then◌else◌, List, [], ◌∷◌, length, Option, Some, None}
use Rattle.sr_lsp.specs.declared.header.Header.{Header}
use Rattle.sr_wire.specs.declared.fault.Check.{Check}
use Rattle.sr_wire.specs.declared.fault.Check.TheVariants.{HeaderOctets, Discriminator, HeaderLength, Version, IdLength, PduType, PduLength}
use Rattle.sr_wire.specs.declared.fault.Malformed.{Malformed}
use Rattle.sr_wire.specs.Octets.{octet, number}

-- what the 27 octets say
abbrev pub header_of : List ℕ → Header
header_of octets = record {
  pdu_length = number octets 8 2;
  lifetime = number octets 10 2;
  system = number octets 12 6;
  pseudonode = octet octets 18;
  fragment = octet octets 19;
  sequence = number octets 20 4;
  checksum = number octets 24 2;
  flags = octet octets 26;
}

-- a check, its place, and whether the octets pass it
pub record Checked : Type 0 where
  pub passes : Bool
  pub offset : ℕ
  pub check : Check

-- the check, with its place, and whether it is passed
abbrev pub check_at : Check → ℕ → Bool → Checked
check_at check offset passes = record { passes = passes; offset = offset; check = check }

-- the checks of a header, in their order
abbrev pub header_checks : List ℕ → List Checked
header_checks octets =
    check_at HeaderOctets (length octets) (nat_le 27 (length octets))
    ∷ check_at Discriminator 0 (octet octets 0 == 0x83)
    ∷ check_at HeaderLength 1 (octet octets 1 == 27)
    ∷ check_at Version 2 (octet octets 2 == 1)
    ∷ check_at Version 5 (octet octets 5 == 1)
    ∷ check_at IdLength 3 ((octet octets 3 == 0) || (octet octets 3 == 6))
    ∷ check_at PduType 4 (octet octets 4 % 32 == 20)
    ∷ check_at PduLength 8 (nat_le 27 (number octets 8 2) && nat_le (number octets 8 2) (length octets))
    ∷ []

-- the first check that isn't passed
abbrev pub first_fault : List Checked → Option Malformed
first_fault [] = None
first_fault (c ∷ cs) = if c.passes then first_fault cs else Some (record { offset = c.offset; check = c.check })

-- the first check of the header that isn't passed, or none
abbrev pub header_fault : List ℕ → Option Malformed
header_fault octets = first_fault (header_checks octets)

-- the octets begin with this header, and all checks of it pass
pub record IsHeader (octets : List ℕ) (header : Header) : Type 0 where
  pub sound : header_fault octets ≡ None
  pub fields : header ≡ header_of octets
