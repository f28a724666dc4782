-- The Adj-SID (RFC 8667, 2.2.1).
use Rattle.std.specs.Prelude.{◌≡◌, ℕ, List, ◌∷◌}
use Rattle.sr_wire.specs.declared.registry.TheConstants.{ADJ_SID, ADJ_SID_FORM}
use Rattle.sr_wire.specs.Fields.{Sub}
use Rattle.sr_subtlv.specs.declared.adj_sid.AdjSid.{AdjSid}
use Rattle.sr_subtlv.specs.Sid.{FitsSid, SaysSid, sid_text}

-- a value holds flags, a weight, and the SID
pub record IsAdjSid (value : List ℕ) (adj_sid : AdjSid) : Type 0 where
  pub octets : List ℕ
  pub text : value ≡ adj_sid.flags ∷ adj_sid.weight ∷ octets
  pub sid : SaysSid ADJ_SID_FORM adj_sid.flags octets adj_sid.sid

-- the Adj-SID has a spelling
abbrev pub FitsAdjSid : AdjSid → Type 0
FitsAdjSid adj_sid = FitsSid ADJ_SID_FORM adj_sid.flags adj_sid.sid

-- the one spelling of an Adj-SID as a value
abbrev pub adj_sid_value : AdjSid → List ℕ
adj_sid_value adj_sid = adj_sid.flags ∷ adj_sid.weight ∷ sid_text adj_sid.sid

-- the kind of sub-TLV of an Adj-SID
abbrev pub adj_sid_sub : Sub AdjSid
adj_sid_sub = record {
  kind = ADJ_SID;
  means = IsAdjSid;
  value = adj_sid_value;
  fits = FitsAdjSid;
  widths = λ adj_sid. Unit {0};
}
