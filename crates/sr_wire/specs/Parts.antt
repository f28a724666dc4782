-- A body: TLVs of the kinds of a table, and the parts that they say and in which they are written.
use Rattle.std.specs.Prelude.{◌≡◌, ℕ, ◌<◌, ◌≤◌, List, length, take, All, Some, slice_get}
use Rattle.std.specs.List.{flat_map}
use Rattle.sr_wire.specs.declared.fault.Check.TheVariants.{TlvExtent}
use Rattle.sr_wire.specs.declared.registry.TheConstants.{LONGEST_VALUE}
use Rattle.sr_wire.specs.Format.{Format, Row, Spelling, TlvSays, run_of, tlv_layout}
use Rattle.sr_wire.specs.Tlv.{Tlv, tlv_text}

-- whole TLVs that say the parts, or the first that isn't whole or has a fault inside its value
abbrev pub body_of : {P : Type 0} → List (Row P) → Format P
body_of rows = run_of (tlv_layout rows) TlvExtent (TlvSays rows)

-- a part in a TLV of its own
abbrev pub tlv_of : {P : Type 0} → (P → Spelling) → P → Tlv
tlv_of spelling part = record { kind = (spelling part).kind; value = (spelling part).value }

-- the octets of a part's TLV
abbrev pub part_text : {P : Type 0} → (P → Spelling) → P → List ℕ
part_text spelling part = tlv_text (tlv_of spelling part)

-- the octets of the parts in their order
abbrev pub body_text : {P : Type 0} → (P → Spelling) → List P → List ℕ
body_text spelling parts = flat_map (part_text spelling) parts

-- the length of the value fits one octet
abbrev pub HasShortValue : {P : Type 0} → (P → Spelling) → P → Type 0
HasShortValue spelling part = length (spelling part).value ≤ LONGEST_VALUE

-- the part at place k is the first that is too long
pub record IsFirstTooLong {P : Type 0} (spelling : P → Spelling) (parts : List P) (k : ℕ) : Type 0 where
  pub part : P
  pub there : slice_get parts k ≡ Some part
  pub long : LONGEST_VALUE < length (spelling part).value
  pub earlier : All (HasShortValue spelling) (take k parts)
