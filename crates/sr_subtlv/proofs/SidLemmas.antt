-- SIDs in octets: one, read again, and what octets say fits.
use Rattle.std.proofs.Common.{◌≡◌, ℕ, ◌%◌, ◌^◌, ◌<◌, List, [], refl, sym, ap, ◌∙◌, arith}
use Rattle.std.proofs.Math.Nat.{mod-eq_of_lt, mod-lt}
use Rattle.byteorder.specs.Endian.{big_number}
use Rattle.byteorder.specs.Numbers.{big_number-reads_back}
use Rattle.sr_wire.proofs.Bytes.{number_fits}
use Rattle.sr_wire.proofs.OctetLemmas.{AreOctets}
use Rattle.sr_subtlv.specs.declared.sid.Sid.{Sid}
use Rattle.sr_subtlv.specs.declared.sid.Sid.TheVariants.{Index, Label}
use Rattle.sr_subtlv.specs.Sid.{FitsSid, SaysSid, sid_text}

-- octets behind flags say one SID
pub same_sid : (mask flags : ℕ) (octets : List ℕ) (x y : Sid) → SaysSid mask flags octets x → SaysSid mask flags octets y → x ≡ y
same_sid mask flags octets (Index i) (Index j) a b = ap Index (a.2 ∙ sym b.2)
same_sid mask flags octets (Index i) (Label l) a b = absurd (omega (arith, a.1, b.1))
same_sid mask flags octets (Label l) (Index i) a b = absurd (omega (arith, a.1, b.1))
same_sid mask flags octets (Label l) (Label m) a b = ap Label (a.2 ∙ sym b.2)

-- what is written of a SID says that SID
pub sid_again : (mask flags : ℕ) (sid : Sid) → FitsSid mask flags sid → SaysSid mask flags (sid_text sid) sid
sid_again mask flags (Index i) fits = (fits.0, refl, sym (big_number-reads_back 4 i [] fits.1))
sid_again mask flags (Label l) fits =
    let wide : l < 256 ^ 3 = omega (arith, fits.1) in
    (fits.0, refl, sym (mod-eq_of_lt fits.1) ∙ ap (λ (k : ℕ). k % 2 ^ 20) (sym (big_number-reads_back 3 l [] wide)))

-- a SID of octets fits
pub sid_fits : (mask flags : ℕ) (octets : List ℕ) (sid : Sid) → AreOctets octets → SaysSid mask flags octets sid → FitsSid mask flags sid
sid_fits mask flags octets (Index i) small says = (says.0, omega (arith, says.2, number_fits 4 0 octets small))
sid_fits mask flags octets (Label l) small says = let low : big_number 3 octets % 2 ^ 20 < 2 ^ 20 = mod-lt (big_number 3 octets) (omega arith) in (says.0, omega (arith, says.2))
