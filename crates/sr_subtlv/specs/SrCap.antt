-- SR-Capabilities: the ranges of labels of a node's SRGB (RFC 8667, 3.1).
use Rattle.std.specs.Prelude.{◌≡◌, ◌≢◌, ℕ, ◌<◌, ◌%◌, ◌^◌, List, [], ◌∷◌, ◌++◌, length, take, drop, All}
use Rattle.std.specs.List.{flat_map}
use Rattle.byteorder.specs.Endian.{big_bytes}
use Rattle.sr_model.specs.declared.label.Range.{Range}
use Rattle.sr_subtlv.specs.declared.sr_cap.SrCap.{SrCap}
use Rattle.sr_wire.specs.declared.registry.TheConstants.{SID_LABEL, SR_CAPABILITIES}
use Rattle.sr_wire.specs.Fields.{Sub}
use Rattle.sr_wire.specs.Octets.{octet, number}

-- a range's size in three octets, and a SID/Label sub-TLV (RFC 8667, 2.3) of length 3, whose 20 rightmost bits are
-- the first label
pub record IsRange (octets : List ℕ) (range : Range) : Type 0 where
  pub long : length octets ≡ 8
  pub kind : octet octets 3 ≡ SID_LABEL
  pub three : octet octets 4 ≡ 3
  pub size : range.size ≡ number octets 0 3
  pub first : range.first ≡ number octets 5 3 % 2 ^ 20

-- the octets are these ranges, eight octets each
abbrev pub AreRanges : List ℕ → List Range → Type 0
AreRanges octets [] = octets ≡ []
AreRanges octets (r ∷ rs) = IsRange (take 8 octets) r × AreRanges (drop 8 octets) rs

-- a value holds flags, and one or more ranges
pub record IsSrCap (value : List ℕ) (cap : SrCap) : Type 0 where
  pub octets : List ℕ
  pub text : value ≡ cap.flags ∷ octets
  pub ranges : AreRanges octets cap.ranges
  pub some : cap.ranges ≢ []

-- the range has a spelling
pub record FitsRange (range : Range) : Type 0 where
  pub size : range.size < 2 ^ 24
  pub first : range.first < 2 ^ 20

-- the one spelling of a range, whose unused bits are 0
abbrev pub range_text : Range → List ℕ
range_text r = big_bytes 3 r.size ++ SID_LABEL ∷ 3 ∷ big_bytes 3 r.first

-- there is a range, and each fits
pub record FitsSrCap (cap : SrCap) : Type 0 where
  pub some : cap.ranges ≢ []
  pub each : All FitsRange cap.ranges

-- the one spelling of SR-Capabilities as a value
abbrev pub sr_cap_value : SrCap → List ℕ
sr_cap_value c = c.flags ∷ flat_map range_text c.ranges

-- the kind of sub-TLV of SR-Capabilities
abbrev pub sr_cap_sub : Sub SrCap
sr_cap_sub = record {
  kind = SR_CAPABILITIES;
  means = IsSrCap;
  value = sr_cap_value;
  fits = FitsSrCap;
  widths = λ cap. Unit {0};
}
