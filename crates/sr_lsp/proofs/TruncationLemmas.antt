-- The first octets of an encoding, where others behind them are missing: they hold no whole header, or less than the
-- PDU length.
use Rattle.std.proofs.Common.{◌≡◌, ◌↔◌, ℕ, ◌+◌, ◌-◌, ◌^◌, ◌<◌, ◌≤◌, ◌&&◌, nat_le, Bool, true, false, if◌then◌else◌, List, ◌∷◌, ◌++◌, length, take, drop, refl, ap, sym, ◌∙◌, subst, arith, length-append, inl, Some}
use Rattle.std.specs.Prelude.{nat_lt}
use Rattle.std.proofs.Math.Seq.{take-append-add}
use Rattle.std.proofs.lemmas.Bool.{le-leb, lt-leb, ltb-true, ltb-false}
use Rattle.std.proofs.lemmas.List.{length-take-le}
use Rattle.sr_wire.specs.Octets.{number}
use Rattle.sr_wire.specs.Parts.{body_text}
use Rattle.sr_wire.specs.declared.fault.Malformed.{Malformed}
use Rattle.sr_wire.specs.declared.fault.Check.TheVariants.{HeaderOctets, PduLength}
use Rattle.sr_lsp.specs.declared.lsp.Lsp.{Lsp}
use Rattle.sr_lsp.specs.Header.{Checked, check_at, first_fault, header_checks, header_fault}
use Rattle.sr_lsp.specs.Lsp.{IsBroken}
use Rattle.sr_lsp.specs.Table.{spelling}
use Rattle.sr_lsp.specs.Text.{HasSpelling, header_text, lsp_text, pdu_length}
use Rattle.sr_lsp.specs.Truncation.{truncation_fault}
use Rattle.sr_lsp.proofs.HeaderLemmas.{holds_length, length_again, no_fault}
use Rattle.sr_lsp.proofs.LspLemmas.{same_fault}

-- a check that isn't passed
unpassed : (c : Checked) (later : List Checked) → c.passes ≡ false → first_fault (c ∷ later) ≡ Some (record { offset = c.offset; check = c.check })
unpassed c later failed = ap (λ (b : Bool). if b then first_fault later else Some (record { offset = c.offset; check = c.check })) failed

-- octets that hold no whole header
no_header : (octets : List ℕ) → length octets < 27 → header_fault octets ≡ Some (record { offset = length octets; check = HeaderOctets })
no_header octets few =
    unpassed (check_at HeaderOctets (length octets) (nat_le 27 (length octets))) (drop 1 (header_checks octets)) (lt-leb 27 (length octets) few)

-- a header of a PDU that isn't there whole
no_pdu : (lsp : Lsp) (long : ℕ) (behind : List ℕ) → long < 2 ^ 16 → 27 ≤ long → 27 + length behind < long
    → header_fault (header_text lsp long ++ behind) ≡ Some (record { offset = 8; check = PduLength })
no_pdu lsp long behind fits least short =
    let octets = header_text lsp long ++ behind in
    let given : length octets ≡ 27 + length behind = length-append (header_text lsp long) behind in
    let told : number octets 8 2 ≡ long = length_again lsp long behind fits in
    let whole : nat_le 27 (length octets) ≡ true = le-leb 27 (length octets) (omega arith) in
    let above : nat_le 27 (number octets 8 2) ≡ true = le-leb 27 (number octets 8 2) (omega arith) in
    let beyond : nat_le (number octets 8 2) (length octets) ≡ false = lt-leb (number octets 8 2) (length octets) (omega arith) in
    let holds : holds_length octets ≡ false =
    ap (λ (b : Bool). b && nat_le (number octets 8 2) (length octets)) above ∙ beyond in
    ap (λ (b : Bool). if b then (if holds_length octets then no_fault else Some (record { offset = 8; check = PduLength })) else Some (record { offset = length octets; check = HeaderOctets })) whole
    ∙ ap (λ (b : Bool). if b then no_fault else Some (record { offset = 8; check = PduLength })) holds

-- the header of what is left of an encoding
cut_header : (lsp : Lsp) (count : ℕ) → HasSpelling lsp → count < length (lsp_text lsp) → header_fault (take count (lsp_text lsp)) ≡ Some (truncation_fault count)
cut_header lsp count spelled cut = by (nat_lt count 27) refl
  where
    by : (few : Bool) → nat_lt count 27 ≡ few
        → header_fault (take count (lsp_text lsp)) ≡ Some (if few then record { offset = count; check = HeaderOctets } else record { offset = 8; check = PduLength })
    by true few =
        let left : length (take count (lsp_text lsp)) ≡ count = length-take-le count (lsp_text lsp) (omega arith) in
        no_header (take count (lsp_text lsp)) (omega (arith, ltb-true count 27 few))
        ∙ ap (λ (k : ℕ). Some (record { offset = k; check = HeaderOctets })) left
    by false few =
        let body = body_text spelling lsp.parts in
        let header = header_text lsp (pdu_length lsp) in
        let enough : 27 ≤ count = ltb-false count 27 few in
        let whole : length (header ++ body) ≡ 27 + length body = length-append header body in
        let counted : count ≡ 27 + (count - 27) = omega arith in
        let left : length (take (count - 27) body) ≡ count - 27 = length-take-le (count - 27) body (omega arith) in
        ap (λ (k : ℕ). header_fault (take k (header ++ body))) counted
        ∙ ap header_fault (take-append-add header body (count - 27))
        ∙ no_pdu lsp (pdu_length lsp) (take (count - 27) body) (omega (arith, spelled.whole)) (omega arith) (omega arith)

-- what is left of an encoding has this fault, and no other
pub cut_short : (lsp : Lsp) (count : ℕ) (malformed : Malformed) → HasSpelling lsp → count < length (lsp_text lsp)
    → (IsBroken (take count (lsp_text lsp)) malformed ↔ (malformed ≡ truncation_fault count))
cut_short lsp count malformed spelled cut =
    let octets = take count (lsp_text lsp) in
    let broken : IsBroken octets (truncation_fault count) = inl (cut_header lsp count spelled cut) in
    (λ other. same_fault octets malformed (truncation_fault count) other broken, λ same. subst (IsBroken octets) (sym same) broken)
