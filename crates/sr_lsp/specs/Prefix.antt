-- Extended IP reachability, TLV 135 (RFC 5305, 4): a run of entries whose length changes.
use Rattle.std.specs.Prelude.{◌≡◌, ℕ, ◌+◌, ◌/◌, ◌%◌, ◌<◌, ◌≤◌, ◌^◌, ◌==◌, ◌⊎◌, Bool, not, if◌then◌else◌, MatchBool, List, [], ◌∷◌, ◌++◌, All, bit_and, drop, length, nat_le, replicate, slice_range, take}
use Rattle.byteorder.specs.Endian.{big_bytes, big_number}
use Rattle.sr_wire.specs.declared.fault.Check.TheVariants.{FieldExtent}
use Rattle.sr_wire.specs.declared.registry.TheConstants.{ADDRESS_BITS, EXTENDED_PREFIX, PREFIX_DOWN, PREFIX_SUBS}
use Rattle.sr_wire.specs.Fields.{Field, FitFields, HaveWidths, SayFields, all_of, fields_text}
use Rattle.sr_wire.specs.Format.{Kind, run_of}
use Rattle.sr_wire.specs.Numbers.{FitsFourOctets, bit_if, is_some_list}
use Rattle.sr_wire.specs.Octets.{number, octet}
use Rattle.sr_wire.specs.Run.{Layout}
use Rattle.sr_wire.specs.Sub.{AreSubs, SubFault}
use Rattle.sr_wire.specs.Tlv.{Tlv}
use Rattle.sr_subtlv.specs.declared.prefix_sid.PrefixSid.{PrefixSid}
use Rattle.sr_subtlv.specs.PrefixSid.{prefix_sid_sub}
use Rattle.sr_lsp.specs.declared.prefix.Prefix.{Prefix}
use Rattle.sr_lsp.specs.declared.prefix.PrefixSubs.{PrefixSubs}
use Rattle.sr_lsp.specs.declared.prefix_extent.Extent.{Extent}
use Rattle.sr_lsp.specs.declared.table.Part.{Part}
use Rattle.sr_lsp.specs.declared.table.Part.TheVariants.{Prefix as PrefixPart}

-- the metric, the control octet, the octets of the prefix, and the octets of the sub-TLVs
pub record PrefixEntry : Type 0 where
  pub metric : ℕ
  pub control : ℕ
  pub prefix : List ℕ
  pub subs : List ℕ

-- the length of the prefix in bits, in the control octet's six low bits
abbrev pub bits_of : PrefixEntry → ℕ
bits_of entry = entry.control % 64

-- how many octets hold a prefix of `bits` bits
abbrev pub prefix_octets : ℕ → ℕ
prefix_octets bits = (bits + 7) / 8

-- whether sub-TLVs are present, by the control octet
abbrev pub has_subs : PrefixEntry → Bool
has_subs entry = not (bit_and entry.control PREFIX_SUBS == 0)

-- the sub-TLVs with their length, where they are present
abbrev pub subs_text : PrefixEntry → List ℕ
subs_text entry = if has_subs entry then length entry.subs ∷ entry.subs else []

-- four octets of metric, one of control, the prefix, and the sub-TLVs
abbrev pub prefix_text : PrefixEntry → List ℕ
prefix_text entry = (big_bytes 4 entry.metric ++ entry.control ∷ entry.prefix) ++ subs_text entry

-- its metric fits its octets, its prefix has as few octets as hold its length, and there are sub-TLVs only where the
-- bit says so
pub record IsPrefixEntry (entry : PrefixEntry) : Type 0 where
  pub metric : entry.metric < 2 ^ 32
  pub long : length entry.prefix ≡ prefix_octets (bits_of entry)
  pub none : MatchBool (has_subs entry) (Unit {0}) (entry.subs ≡ [])

-- the entry at a place, whose prefix and sub-TLVs stand where the extent says
abbrev pub prefix_entry_at : List ℕ → ℕ → Extent → PrefixEntry
prefix_entry_at value at extent = record {
  metric = number value at 4;
  control = octet value (at + 4);
  prefix = slice_range value (at + 5) extent.prefix_end;
  subs = slice_range value extent.subs_from extent.end;
}

-- a whole entry stands there, up to the extent's end; its sub-TLVs stand behind their length, or there are none
pub record IsExtent (value : List ℕ) (at : ℕ) (extent : Extent) : Type 0 where
  pub prefix : at + 5 ≤ extent.prefix_end
  pub subs : extent.prefix_end ≤ extent.subs_from
  pub end : extent.subs_from ≤ extent.end
  pub within : extent.end ≤ length value
  pub is : IsPrefixEntry (prefix_entry_at value at extent)
  pub text : drop at value ≡ prefix_text (prefix_entry_at value at extent) ++ drop extent.end value
  pub behind : (extent.subs_from ≡ extent.prefix_end + 1) ⊎ (extent.end ≡ extent.subs_from)

-- what the entry at a place says whose prefix ends there, with these SIDs: octets of the prefix that aren't there are 0
pub record IsPrefixAt (value : List ℕ) (at prefix_end : ℕ) (said : List PrefixSid) (read : Prefix) : Type 0 where
  pub metric : read.metric ≡ number value at 4
  pub down : read.down ≡ not (bit_and (octet value (at + 4)) PREFIX_DOWN == 0)
  pub length : read.length ≡ octet value (at + 4) % 64
  pub address : read.prefix ≡ big_number 4 (slice_range value (at + 5) prefix_end ++ replicate 4 0)
  pub sids : read.sids ≡ said

-- a fault inside an entry is one of its sub-TLVs, which stand behind five octets, the prefix and their length
abbrev pub prefix_layout : Layout PrefixEntry
prefix_layout = record {
  is = IsPrefixEntry;
  text = prefix_text;
  fault = λ entry at check. (inside : ℕ) × SubFault entry.subs inside check × (at ≡ 6 + length entry.prefix + inside);
}

-- the field that sub-TLVs say: all SIDs of the prefix
abbrev pub prefix_fields : List (Field PrefixSubs)
prefix_fields = all_of prefix_sid_sub (λ subs. subs.sids) ∷ []

-- that of an entry
abbrev pub prefix_subs_of : Prefix → PrefixSubs
prefix_subs_of prefix = record { sids = prefix.sids }

-- what an entry says whose prefix has at most 32 bits: octets of the prefix that aren't there are 0
pub record SaysPrefix (entry : PrefixEntry) (prefix : Prefix) : Type 0 where
  pub metric : prefix.metric ≡ entry.metric
  pub down : prefix.down ≡ not (bit_and entry.control PREFIX_DOWN == 0)
  pub length : prefix.length ≡ bits_of entry
  pub number : prefix.prefix ≡ big_number 4 (entry.prefix ++ replicate 4 0)
  pub subs : List Tlv
  pub are : AreSubs entry.subs subs
  pub say : SayFields prefix_fields subs (prefix_subs_of prefix)

-- an entry says one part, and one with a longer prefix says nothing
abbrev pub SaysOwn : PrefixEntry → List Part → Type 0
SaysOwn entry own =
    MatchBool (nat_le (bits_of entry) ADDRESS_BITS)
    ((prefix : Prefix) × SaysPrefix entry prefix × (own ≡ PrefixPart prefix ∷ []))
    (own ≡ [])

-- the octets of the sub-TLVs in which it is written
abbrev pub prefix_subs : Prefix → List ℕ
prefix_subs prefix = fields_text prefix_fields (prefix_subs_of prefix)

-- these behind their length, where there are some
abbrev pub counted_subs : Prefix → List ℕ
counted_subs prefix = if is_some_list prefix.sids then length (prefix_subs prefix) ∷ prefix_subs prefix else []

-- up or down, whether sub-TLVs are present, and the length of the prefix
abbrev pub control_octet : Prefix → ℕ
control_octet prefix = bit_if prefix.down PREFIX_DOWN + bit_if (is_some_list prefix.sids) PREFIX_SUBS + prefix.length

-- a value with one entry
abbrev pub prefix_value : Prefix → List ℕ
prefix_value prefix =
    prefix_text (record {
      metric = prefix.metric;
      control = control_octet prefix;
      prefix = take (prefix_octets prefix.length) (big_bytes 4 prefix.prefix);
      subs = prefix_subs prefix;
    })

-- a prefix of at most 32 bits whose octets past its length are 0, and sub-TLVs that have a spelling
pub record FitsPrefix (prefix : Prefix) : Type 0 where
  pub bits : prefix.length ≤ ADDRESS_BITS
  pub past : All (λ octet. octet ≡ 0) (drop (prefix_octets prefix.length) (big_bytes 4 prefix.prefix))
  pub subs : FitFields prefix_fields (prefix_subs_of prefix)

-- its numbers fit their octets, where being in range doesn't bound them already
pub record HasPrefixWidths (prefix : Prefix) : Type 0 where
  pub metric : FitsFourOctets prefix.metric
  pub number : FitsFourOctets prefix.prefix
  pub subs : HaveWidths prefix_fields (prefix_subs_of prefix)

-- the kind: a run of entries, a part each
abbrev pub prefix_kind : Kind Part Prefix
prefix_kind = record {
  kind = EXTENDED_PREFIX;
  part = PrefixPart;
  format = run_of prefix_layout FieldExtent SaysOwn;
  value = prefix_value;
  fits = FitsPrefix;
  widths = HasPrefixWidths;
}
