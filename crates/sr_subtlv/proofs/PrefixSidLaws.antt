-- The laws of the Prefix-SID.
use Rattle.std.proofs.Common.{◌≡◌, ◌↔◌, ℕ, List, [], ◌∷◌, refl, sym, ◌∙◌, subst}
use Rattle.sr_wire.specs.declared.registry.TheConstants.{PREFIX_SID_FORM}
use Rattle.sr_wire.proofs.FieldLaws.{SubLaws}
use Rattle.sr_wire.proofs.OctetLemmas.{AreOctets, octets_back, octets_same}
use Rattle.sr_subtlv.specs.declared.prefix_sid.PrefixSid.{PrefixSid}
use Rattle.sr_subtlv.specs.declared.sid.Sid.{Sid}
use Rattle.sr_subtlv.specs.PrefixSid.{FitsPrefixSid, IsPrefixSid, prefix_sid_sub, prefix_sid_value}
use Rattle.sr_subtlv.specs.Sid.{SaysSid, sid_text}
use Rattle.sr_subtlv.proofs.SidLemmas.{same_sid, sid_again, sid_fits}

-- a Prefix-SID by its fields
abbrev prefix_sid_of : ℕ → ℕ → Sid → PrefixSid
prefix_sid_of flags algorithm sid = record { flags = flags; algorithm = algorithm; sid = sid }

-- a value is one Prefix-SID
same_prefix_sid : (octets : List ℕ) (x y : PrefixSid) → IsPrefixSid octets x → IsPrefixSid octets y → x ≡ y
same_prefix_sid octets x y a b =
    let texts : x.flags ∷ x.algorithm ∷ a.octets ≡ y.flags ∷ y.algorithm ∷ b.octets = sym a.text ∙ b.text in
    let flags : x.flags ≡ y.flags = cc in
    let seconds : x.algorithm ≡ y.algorithm = cc in
    let rests : a.octets ≡ b.octets = cc in
    let P : List ℕ → Type 0 = λ rest. SaysSid PREFIX_SID_FORM x.flags rest x.sid in
    let Q : ℕ → Type 0 = λ k. SaysSid PREFIX_SID_FORM k b.octets x.sid in
    let sids : x.sid ≡ y.sid = same_sid PREFIX_SID_FORM y.flags b.octets x.sid y.sid (subst Q flags (subst P rests a.sid)) b.sid in
    let same : prefix_sid_of x.flags x.algorithm x.sid ≡ prefix_sid_of y.flags y.algorithm y.sid = cc in
    same

-- what is written of a Prefix-SID is that Prefix-SID
prefix_sid_again : (prefix_sid : PrefixSid) → FitsPrefixSid prefix_sid → IsPrefixSid (prefix_sid_value prefix_sid) prefix_sid
prefix_sid_again prefix_sid fits = record { octets = sid_text prefix_sid.sid; text = refl; sid = sid_again PREFIX_SID_FORM prefix_sid.flags prefix_sid.sid fits }

-- a Prefix-SID of octets fits
prefix_sid_fits : (octets : List ℕ) (sid : PrefixSid) → AreOctets octets → IsPrefixSid octets sid → FitsPrefixSid sid
prefix_sid_fits octets sid small is =
    sid_fits PREFIX_SID_FORM sid.flags is.octets sid.sid (octets_back (sid.flags ∷ sid.algorithm ∷ []) is.octets (octets_same octets (sid.flags ∷ sid.algorithm ∷ is.octets) is.text small)) is.sid

-- the laws of the kind
pub prefix_sid_laws : SubLaws prefix_sid_sub
prefix_sid_laws = record { one = same_prefix_sid; again = λ prefix_sid fits widths. prefix_sid_again prefix_sid fits; fit = prefix_sid_fits }

-- what is written is read as that one alone
pub prefix_sid_alone : (given read : PrefixSid) → FitsPrefixSid given → (IsPrefixSid (prefix_sid_value given) read ↔ (read ≡ given))
prefix_sid_alone given read fits = (
  λ is. same_prefix_sid (prefix_sid_value given) read given is (prefix_sid_again given fits),
  λ same. let P : PrefixSid → Type 0 = λ sid. IsPrefixSid (prefix_sid_value given) sid in subst P (sym same) (prefix_sid_again given fits),
)
