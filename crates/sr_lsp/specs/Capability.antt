-- The router capability, TLV 242 (RFC 7981, 2).
use Rattle.std.specs.Prelude.{◌≡◌, ℕ, ◌+◌, ◌<◌, ◌≤◌, ◌⊎◌, List, [], ◌∷◌, ◌++◌, Option, Some, None, drop, length, unwrap_or}
use Rattle.byteorder.specs.Endian.{big_bytes}
use Rattle.sr_wire.specs.declared.fault.Check.{Check}
use Rattle.sr_wire.specs.declared.fault.Check.TheVariants.{FieldExtent}
use Rattle.sr_wire.specs.declared.registry.TheConstants.{ROUTER_CAPABILITY}
use Rattle.sr_wire.specs.Fields.{Field, FitFields, HaveWidths, SayFields, fields_text, first_of}
use Rattle.sr_wire.specs.Format.{Kind, one_part}
use Rattle.sr_wire.specs.Numbers.{FitsFourOctets}
use Rattle.sr_wire.specs.Octets.{number, octet}
use Rattle.sr_wire.specs.Sub.{AreSubs, SubFault}
use Rattle.sr_wire.specs.Tlv.{Tlv}
use Rattle.sr_subtlv.specs.declared.msd.Msd.{Msd}
use Rattle.sr_subtlv.specs.Msd.{msds_sub}
use Rattle.sr_subtlv.specs.SrCap.{sr_cap_sub}
use Rattle.sr_lsp.specs.declared.capability.Capability.{Capability}
use Rattle.sr_lsp.specs.declared.capability.NodeSubs.{NodeSubs}
use Rattle.sr_lsp.specs.declared.table.Part.{Part}
use Rattle.sr_lsp.specs.declared.table.Part.TheVariants.{Capability as CapabilityPart}

-- the fields that sub-TLVs say, in order of their types: the first label ranges, and the first depths
abbrev pub node_fields : List (Field NodeSubs)
node_fields = first_of sr_cap_sub (λ node. node.srgb) ∷ first_of msds_sub (λ node. node.msd) ∷ []

-- four octets of router id, flags, and sub-TLVs; no depths where none are said
pub record SaysCapability (value : List ℕ) (capability : Capability) : Type 0 where
  pub whole : 5 ≤ length value
  pub depths : Option (List Msd)
  pub router : capability.router ≡ number value 0 4
  pub flags : capability.flags ≡ octet value 4
  pub msd : capability.msd ≡ unwrap_or depths []
  pub subs : List Tlv
  pub are : AreSubs (drop 5 value) subs
  pub say : SayFields node_fields subs (record { srgb = capability.srgb; msd = depths })

-- the router id or the flags pass the end, or else a sub-TLV does
abbrev pub CapabilityFault : List ℕ → ℕ → Check → Type 0
CapabilityFault value at check =
    ((length value < 4) × (at ≡ 0) × (check ≡ FieldExtent)) ⊎ ((length value ≡ 4) × (at ≡ 4) × (check ≡ FieldExtent))
    ⊎ ((5 ≤ length value) × (inside : ℕ) × SubFault (drop 5 value) inside check × (at ≡ 5 + inside))

-- a list that has items
abbrev pub if_any : {X : Type 0} → List X → Option (List X)
if_any [] = None
if_any (x ∷ xs) = Some (x ∷ xs)

-- the fields in which a value is written: the depths, where there are some
abbrev pub node_of : Capability → NodeSubs
node_of capability = record { srgb = capability.srgb; msd = if_any capability.msd }

-- its one spelling
abbrev pub capability_value : Capability → List ℕ
capability_value capability =
    big_bytes 4 capability.router ++ capability.flags ∷ fields_text node_fields (node_of capability)

-- its router id fits four octets, as the numbers of its sub-TLVs do theirs
pub record HasCapabilityWidths (capability : Capability) : Type 0 where
  pub router : FitsFourOctets capability.router
  pub node : HaveWidths node_fields (node_of capability)

-- the kind: one part a value, whose sub-TLVs have a spelling
abbrev pub capability_kind : Kind Part Capability
capability_kind = record {
  kind = ROUTER_CAPABILITY;
  part = CapabilityPart;
  format = one_part CapabilityPart SaysCapability CapabilityFault;
  value = capability_value;
  fits = λ capability. FitFields node_fields (node_of capability);
  widths = HasCapabilityWidths;
}
