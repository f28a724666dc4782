-- What octets say as a link-state PDU, and the first check that they fail.
use Rattle.std.specs.Prelude.{◌≡◌, ℕ, ◌+◌, ◌⊎◌, List, slice_range, Some}
use Rattle.sr_wire.specs.declared.fault.Malformed.{Malformed}
use Rattle.sr_wire.specs.Parts.{body_of}
use Rattle.sr_lsp.specs.declared.header.Header.{Header}
use Rattle.sr_lsp.specs.declared.lsp.Lsp.{Lsp}
use Rattle.sr_lsp.specs.Header.{IsHeader, header_fault}
use Rattle.sr_lsp.specs.Table.{rows}

-- the octets read as the value: a header with its fields, whole TLVs to the PDU length whose parts are the value's,
-- and anything after them
pub record Reads (octets : List ℕ) (lsp : Lsp) : Type 0 where
  pub header : Header
  pub first : IsHeader octets header
  pub body : (body_of rows).says (slice_range octets 27 header.pdu_length) lsp.parts
  pub lifetime : lsp.lifetime ≡ header.lifetime
  pub system : lsp.id.system ≡ header.system
  pub pseudonode : lsp.id.pseudonode ≡ header.pseudonode
  pub fragment : lsp.id.fragment ≡ header.fragment
  pub sequence : lsp.sequence ≡ header.sequence
  pub checksum : lsp.checksum ≡ header.checksum
  pub flags : lsp.flags ≡ header.flags

-- a fault behind a sound header
pub record BodyFault (octets : List ℕ) (malformed : Malformed) : Type 0 where
  pub header : Header
  pub inside : ℕ
  pub first : IsHeader octets header
  pub fault : (body_of rows).fault (slice_range octets 27 header.pdu_length) inside malformed.check
  pub offset : malformed.offset ≡ 27 + inside

-- the first check that the octets fail
abbrev pub IsBroken : List ℕ → Malformed → Type 0
IsBroken octets malformed = (header_fault octets ≡ Some malformed) ⊎ BodyFault octets malformed
