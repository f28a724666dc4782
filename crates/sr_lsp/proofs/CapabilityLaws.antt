-- The laws of the router capability.
use Rattle.std.proofs.Common.{◌≡◌, ℕ, ◌≤◌, inl, inr, List, [], ◌∷◌, ◌++◌, length, drop, refl, sym, ap, subst, arith, length-append, ◌∙◌, Option, Some, None, IfSome}
use Rattle.std.specs.Prelude.{unwrap_or}
use Rattle.byteorder.specs.Endian.{big_bytes}
use Rattle.byteorder.specs.Numbers.{big_number-reads_back}
use Rattle.sr_wire.specs.declared.fault.Check.{Check}
use Rattle.sr_wire.specs.Fields.{FitFields, SayFields, field_subs, fields_text}
use Rattle.sr_wire.specs.Tlv.{Tlv}
use Rattle.sr_wire.proofs.FieldLaws.{FieldsLaws, are_subs, fields_again, fields_fit, fields_text-subs, first_laws, same_first, same_sub_fault, same_subs}
use Rattle.sr_wire.proofs.FormatLaws.{KindLaws, behind, one_part_fit, one_part_laws}
use Rattle.sr_wire.proofs.OctetLemmas.{AreOctets, octets_drop}
use Rattle.sr_wire.proofs.SameRunLemmas.{SamePlace}
use Rattle.sr_wire.proofs.SubLemmas.{whole_subs_sound}
use Rattle.sr_subtlv.specs.declared.msd.Msd.{Msd}
use Rattle.sr_subtlv.specs.declared.sr_cap.SrCap.{SrCap}
use Rattle.sr_subtlv.specs.Msd.{msds_sub}
use Rattle.sr_subtlv.specs.SrCap.{sr_cap_sub}
use Rattle.sr_subtlv.proofs.MsdLaws.{msds_laws}
use Rattle.sr_subtlv.proofs.SrCapLaws.{sr_cap_laws}
use Rattle.sr_lsp.specs.declared.capability.Capability.{Capability}
use Rattle.sr_lsp.specs.declared.capability.NodeSubs.{NodeSubs}
use Rattle.sr_lsp.specs.declared.table.Part.TheVariants.{Capability as CapabilityPart}
use Rattle.sr_lsp.specs.Capability.{CapabilityFault, HasCapabilityWidths, SaysCapability, capability_kind, capability_value, if_any, node_fields, node_of}

node_laws : FieldsLaws node_fields
node_laws = (first_laws sr_cap_sub sr_cap_laws (λ node. node.srgb), (first_laws msds_sub msds_laws (λ node. node.msd), tt))

abbrev capability_of : ℕ → ℕ → Option SrCap → List Msd → Capability
capability_of router flags srgb msd = record { router = router; flags = flags; srgb = srgb; msd = msd }

-- the fields that sub-TLVs say of a value
abbrev said_of : Option SrCap → Option (List Msd) → NodeSubs
said_of srgb msd = record { srgb = srgb; msd = msd }

-- a value says one capability
same_capability : (value : List ℕ) (x y : Capability) → SaysCapability value x → SaysCapability value y → x ≡ y
same_capability value x y a b =
    let P : List Tlv → Type 0 = λ subs. SayFields node_fields subs (said_of x.srgb a.depths) in
    let say = subst P (same_subs (drop 5 value) a.subs b.subs a.are b.are) a.say in
    let routers : x.router ≡ y.router = a.router ∙ sym b.router in
    let flags : x.flags ≡ y.flags = a.flags ∙ sym b.flags in
    let ranges : x.srgb ≡ y.srgb = same_first sr_cap_sub sr_cap_laws b.subs x.srgb y.srgb say.0 b.say.0 in
    let depths : a.depths ≡ b.depths = same_first msds_sub msds_laws b.subs a.depths b.depths say.1.0 b.say.1.0 in
    let msds : x.msd ≡ y.msd = a.msd ∙ ap (λ (d : Option (List Msd)). unwrap_or d []) depths ∙ sym b.msd in
    let same : capability_of x.router x.flags x.srgb x.msd ≡ capability_of y.router y.flags y.srgb y.msd = cc in
    same

-- such a value has no fault
sound_capability : (value : List ℕ) (capability : Capability) (at : ℕ) (check : Check) → SaysCapability value capability → CapabilityFault value at check → ⊥
sound_capability value capability at check says fault =
    let whole : 5 ≤ length value = says.whole in
    elim fault [
      | inl a ↦ omega (arith, a.0)
      | inr b ↦ elim b [ inl a ↦ omega (arith, a.0) | inr a ↦ whole_subs_sound (drop 5 value) says.subs says.are a.1 check a.2 ]
    ]

-- a value has one first fault
one_fault : (value : List ℕ) (at other : ℕ) (check check' : Check) → CapabilityFault value at check → CapabilityFault value other check' → SamePlace at other check check'
one_fault value at other check check' a b =
    elim a [
      | inl x ↦ elim b [
        | inl y ↦ record { places = x.1 ∙ sym y.1; checks = x.2 ∙ sym y.2 }
        | inr y ↦ elim y [ inl z ↦ absurd (omega (arith, x.0, z.0)) | inr z ↦ absurd (omega (arith, x.0, z.0)) ]
      ]
      | inr x ↦ elim x [
        | inl z ↦ elim b [
          | inl y ↦ absurd (omega (arith, y.0, z.0))
          | inr y ↦ elim y [ inl w ↦ record { places = z.1 ∙ sym w.1; checks = z.2 ∙ sym w.2 } | inr w ↦ absurd (omega (arith, z.0, w.0)) ]
        ]
        | inr z ↦ elim b [
          | inl y ↦ absurd (omega (arith, y.0, z.0))
          | inr y ↦ elim y [
            | inl w ↦ absurd (omega (arith, z.0, w.0))
            | inr w ↦ behind 5 z.1 w.1 at other check check' (same_sub_fault (drop 5 value) z.1 w.1 check check' z.2 w.2) z.3 w.3
          ]
        ]
      ]
    ]

-- depths that are written where there are some
same_depths : (msds : List Msd) → msds ≡ unwrap_or (if_any msds) []
same_depths [] = refl
same_depths (m ∷ ms) = refl

-- a value that is written is read again
capability_again : (capability : Capability) → FitFields node_fields (node_of capability) → HasCapabilityWidths capability → SaysCapability (capability_value capability) capability
capability_again capability fits widths =
    let node = node_of capability in
    let subs = fields_text node_fields node in
    record {
      whole = omega (arith, length-append (big_bytes 4 capability.router ++ capability.flags ∷ []) subs);
      depths = if_any capability.msd;
      router = sym (big_number-reads_back 4 capability.router (capability.flags ∷ subs) widths.router);
      flags = refl;
      msd = same_depths capability.msd;
      subs = field_subs node_fields node;
      are = are_subs subs (field_subs node_fields node) (fields_text-subs node_fields node_laws node);
      say = fields_again node_fields node (omega arith, (omega arith, tt)) node_laws fits widths.node;
    }

-- any depths fit
fits_any : (msds : Option (List Msd)) → IfSome msds (λ ms. Unit {0})
fits_any None = tt
fits_any (Some ms) = tt

-- a value of octets says only what fits
capability_fits : (value : List ℕ) (capability : Capability) → AreOctets value → SaysCapability value capability → FitFields node_fields (node_of capability)
capability_fits value capability small says =
    let said = fields_fit node_fields node_laws (drop 5 value) says.subs (said_of capability.srgb says.depths) (octets_drop 5 value small) says.are says.say in
    (said.0, (fits_any (if_any capability.msd), tt))

pub capability_laws : KindLaws capability_kind
capability_laws = record {
  format = one_part_laws CapabilityPart SaysCapability CapabilityFault same_capability sound_capability one_fault;
  again = λ capability fits widths. (capability, capability_again capability fits widths, refl);
  fit = one_part_fit capability_kind SaysCapability capability_fits;
}
