-- The laws of the Adj-SID.
use Rattle.std.proofs.Common.{◌≡◌, ◌↔◌, ℕ, List, [], ◌∷◌, refl, sym, ◌∙◌, subst}
use Rattle.sr_wire.specs.declared.registry.TheConstants.{ADJ_SID_FORM}
use Rattle.sr_wire.proofs.FieldLaws.{SubLaws}
use Rattle.sr_wire.proofs.OctetLemmas.{AreOctets, octets_back, octets_same}
use Rattle.sr_subtlv.specs.declared.adj_sid.AdjSid.{AdjSid}
use Rattle.sr_subtlv.specs.declared.sid.Sid.{Sid}
use Rattle.sr_subtlv.specs.AdjSid.{FitsAdjSid, IsAdjSid, adj_sid_sub, adj_sid_value}
use Rattle.sr_subtlv.specs.Sid.{SaysSid, sid_text}
use Rattle.sr_subtlv.proofs.SidLemmas.{same_sid, sid_again, sid_fits}

-- an Adj-SID by its fields
abbrev adj_sid_of : ℕ → ℕ → Sid → AdjSid
adj_sid_of flags weight sid = record { flags = flags; weight = weight; sid = sid }

-- a value is one Adj-SID
same_adj_sid : (octets : List ℕ) (x y : AdjSid) → IsAdjSid octets x → IsAdjSid octets y → x ≡ y
same_adj_sid octets x y a b =
    let texts : x.flags ∷ x.weight ∷ a.octets ≡ y.flags ∷ y.weight ∷ b.octets = sym a.text ∙ b.text in
    let flags : x.flags ≡ y.flags = cc in
    let seconds : x.weight ≡ y.weight = cc in
    let rests : a.octets ≡ b.octets = cc in
    let P : List ℕ → Type 0 = λ rest. SaysSid ADJ_SID_FORM x.flags rest x.sid in
    let Q : ℕ → Type 0 = λ k. SaysSid ADJ_SID_FORM k b.octets x.sid in
    let sids : x.sid ≡ y.sid = same_sid ADJ_SID_FORM y.flags b.octets x.sid y.sid (subst Q flags (subst P rests a.sid)) b.sid in
    let same : adj_sid_of x.flags x.weight x.sid ≡ adj_sid_of y.flags y.weight y.sid = cc in
    same

-- what is written of an Adj-SID is that Adj-SID
adj_sid_again : (adj_sid : AdjSid) → FitsAdjSid adj_sid → IsAdjSid (adj_sid_value adj_sid) adj_sid
adj_sid_again adj_sid fits = record { octets = sid_text adj_sid.sid; text = refl; sid = sid_again ADJ_SID_FORM adj_sid.flags adj_sid.sid fits }

-- an Adj-SID of octets fits
adj_sid_fits : (octets : List ℕ) (sid : AdjSid) → AreOctets octets → IsAdjSid octets sid → FitsAdjSid sid
adj_sid_fits octets sid small is =
    sid_fits ADJ_SID_FORM sid.flags is.octets sid.sid (octets_back (sid.flags ∷ sid.weight ∷ []) is.octets (octets_same octets (sid.flags ∷ sid.weight ∷ is.octets) is.text small)) is.sid

-- the laws of the kind
pub adj_sid_laws : SubLaws adj_sid_sub
adj_sid_laws = record { one = same_adj_sid; again = λ adj_sid fits widths. adj_sid_again adj_sid fits; fit = adj_sid_fits }

-- what is written is read as that one alone
pub adj_sid_alone : (given read : AdjSid) → FitsAdjSid given → (IsAdjSid (adj_sid_value given) read ↔ (read ≡ given))
adj_sid_alone given read fits = (
  λ is. same_adj_sid (adj_sid_value given) read given is (adj_sid_again given fits),
  λ same. let P : AdjSid → Type 0 = λ sid. IsAdjSid (adj_sid_value given) sid in subst P (sym same) (adj_sid_again given fits),
)
