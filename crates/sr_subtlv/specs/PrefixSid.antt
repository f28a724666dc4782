-- The Prefix-SID (RFC 8667, 2.1).
use Rattle.std.specs.Prelude.{◌≡◌, ℕ, List, ◌∷◌}
use Rattle.sr_wire.specs.declared.registry.TheConstants.{PREFIX_SID, PREFIX_SID_FORM}
use Rattle.sr_wire.specs.Fields.{Sub}
use Rattle.sr_subtlv.specs.declared.prefix_sid.PrefixSid.{PrefixSid}
use Rattle.sr_subtlv.specs.Sid.{FitsSid, SaysSid, sid_text}

-- a value holds flags, an algorithm, and the SID
pub record IsPrefixSid (value : List ℕ) (prefix_sid : PrefixSid) : Type 0 where
  pub octets : List ℕ
  pub text : value ≡ prefix_sid.flags ∷ prefix_sid.algorithm ∷ octets
  pub sid : SaysSid PREFIX_SID_FORM prefix_sid.flags octets prefix_sid.sid

-- the Prefix-SID has a spelling
abbrev pub FitsPrefixSid : PrefixSid → Type 0
FitsPrefixSid prefix_sid = FitsSid PREFIX_SID_FORM prefix_sid.flags prefix_sid.sid

-- the one spelling of a Prefix-SID as a value
abbrev pub prefix_sid_value : PrefixSid → List ℕ
prefix_sid_value prefix_sid = prefix_sid.flags ∷ prefix_sid.algorithm ∷ sid_text prefix_sid.sid

-- the kind of sub-TLV of a Prefix-SID
abbrev pub prefix_sid_sub : Sub PrefixSid
prefix_sid_sub = record {
  kind = PREFIX_SID;
  means = IsPrefixSid;
  value = prefix_sid_value;
  fits = FitsPrefixSid;
  widths = λ prefix_sid. Unit {0};
}
