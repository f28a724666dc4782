-- The one spelling of a link-state PDU.
use Rattle.std.specs.Prelude.{◌≡◌, ℕ, ◌+◌, ◌<◌, ◌≤◌, List, [], ◌∷◌, ◌++◌, length, All}
use Rattle.byteorder.specs.Endian.{big_bytes}
use Rattle.sr_wire.specs.declared.registry.TheConstants.{LONGEST_PDU}
use Rattle.sr_wire.specs.Parts.{HasShortValue, body_text}
use Rattle.sr_lsp.specs.declared.lsp.Lsp.{Lsp}
use Rattle.sr_lsp.specs.Table.{spelling}

-- the header (ISO 10589, 9.9): discriminator, its own length, version, id length 0 for 6, type 20, version, reserved,
-- maximum areas, and then the numbers
abbrev pub header_text : Lsp → ℕ → List ℕ
header_text lsp pdu_length =
    0x83 ∷ 27 ∷ 1 ∷ 0 ∷ 20 ∷ 1 ∷ 0 ∷ 0 ∷ big_bytes 2 pdu_length ++ big_bytes 2 lsp.lifetime
    ++ big_bytes 6 lsp.id.system ++ lsp.id.pseudonode ∷ lsp.id.fragment ∷ big_bytes 4 lsp.sequence
    ++ big_bytes 2 lsp.checksum ++ lsp.flags ∷ []

-- how many octets the PDU has
abbrev pub pdu_length : Lsp → ℕ
pdu_length lsp = 27 + length (body_text spelling lsp.parts)

-- the header, then the parts in their order, each in a TLV of its own
abbrev pub lsp_text : Lsp → List ℕ
lsp_text lsp = header_text lsp (pdu_length lsp) ++ body_text spelling lsp.parts

-- the lengths of the parts fit one octet, and that of the PDU fits two
pub record HasSpelling (lsp : Lsp) : Type 0 where
  pub parts : All (HasShortValue spelling) lsp.parts
  pub whole : pdu_length lsp ≤ LONGEST_PDU

-- no part is too long, but the PDU is, which has `long` octets
pub record IsTooLong (lsp : Lsp) (long : ℕ) : Type 0 where
  pub parts : All (HasShortValue spelling) lsp.parts
  pub is : long ≡ pdu_length lsp
  pub whole : LONGEST_PDU < long
