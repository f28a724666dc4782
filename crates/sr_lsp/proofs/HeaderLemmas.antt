-- The header that is written is read again.
use Rattle.std.proofs.Common.{◌≡◌, ℕ, ◌+◌, ◌-◌, ◌^◌, ◌<◌, ◌≤◌, ◌&&◌, nat_le, Bool, true, if◌then◌else◌, List, ◌++◌, length, take, drop, ap, ◌∙◌, arith, length-append, Option, Some, None}
use Rattle.std.proofs.Math.Seq.{take-append_seam}
use Rattle.std.proofs.lemmas.Bool.{le-leb}
use Rattle.std.specs.List.{slice_range}
use Rattle.byteorder.specs.Numbers.{big_number-reads_back}
use Rattle.sr_wire.specs.Octets.{number}
use Rattle.sr_wire.specs.declared.fault.Malformed.{Malformed}
use Rattle.sr_wire.specs.declared.fault.Check.TheVariants.{HeaderOctets, PduLength}
use Rattle.sr_lsp.specs.declared.lsp.Lsp.{Lsp}
use Rattle.sr_lsp.specs.Header.{header_fault}
use Rattle.sr_lsp.specs.Text.{header_text}

-- the length of the PDU
pub length_again : (lsp : Lsp) (pdu_length : ℕ) (behind : List ℕ) → pdu_length < 2 ^ 16 → number (header_text lsp pdu_length ++ behind) 8 2 ≡ pdu_length
length_again lsp pdu_length behind fits = big_number-reads_back 2 pdu_length (drop 10 (header_text lsp pdu_length ++ behind)) fits

abbrev pub holds_length : List ℕ → Bool
holds_length octets = nat_le 27 (number octets 8 2) && nat_le (number octets 8 2) (length octets)

abbrev pub no_fault : Option Malformed
no_fault = None

-- a header passes every check whose PDU length is one that the octets hold
pub sound_again : (lsp : Lsp) (pdu_length : ℕ) (behind : List ℕ) → pdu_length < 2 ^ 16 → 27 ≤ pdu_length → pdu_length ≤ 27 + length behind
    → header_fault (header_text lsp pdu_length ++ behind) ≡ None
sound_again lsp pdu_length behind fits least most =
    let octets = header_text lsp pdu_length ++ behind in
    let long : length octets ≡ 27 + length behind = length-append (header_text lsp pdu_length) behind in
    let told : number octets 8 2 ≡ pdu_length = length_again lsp pdu_length behind fits in
    let whole : nat_le 27 (length octets) ≡ true = le-leb 27 (length octets) (omega arith) in
    let above : nat_le 27 (number octets 8 2) ≡ true = le-leb 27 (number octets 8 2) (omega arith) in
    let below : nat_le (number octets 8 2) (length octets) ≡ true = le-leb (number octets 8 2) (length octets) (omega arith) in
    let holds : holds_length octets ≡ true =
    ap (λ (b : Bool). b && nat_le (number octets 8 2) (length octets)) above ∙ below in
    ap (λ (b : Bool). if b then (if holds_length octets then no_fault else Some (record { offset = 8; check = PduLength })) else Some (record { offset = length octets; check = HeaderOctets })) whole
    ∙ ap (λ (b : Bool). if b then no_fault else Some (record { offset = 8; check = PduLength })) holds

-- the octets behind the header, to the PDU length
pub body_again : (lsp : Lsp) (body rest : List ℕ) → slice_range (header_text lsp (27 + length body) ++ (body ++ rest)) 27 (27 + length body) ≡ body
body_again lsp body rest =
    let long : 27 + length body - 27 ≡ length body = omega arith in
    ap (λ (k : ℕ). take k (body ++ rest)) long ∙ take-append_seam body rest
