-- Link-state PDUs: one value, one first fault, not both; what is read is in range, and what is written is read again.
use Rattle.std.proofs.Common.{◌≡◌, ℕ, ◌+◌, List, ◌++◌, length, drop, refl, sym, ap, ◌∙◌, subst, arith, append_assoc, length-append, inl, inr, Some, None}
use Rattle.std.specs.List.{All, slice_range}
use Rattle.byteorder.specs.Numbers.{big_number-reads_back}
use Rattle.sr_wire.specs.declared.fault.Check.{Check}
use Rattle.sr_wire.specs.declared.fault.Malformed.{Malformed}
use Rattle.sr_wire.specs.Parts.{body_of, body_text}
use Rattle.sr_wire.proofs.FormatLaws.{behind, body_fit, body_laws, parts_again}
use Rattle.sr_wire.proofs.OctetLemmas.{AreOctets, octets_range}
use Rattle.sr_wire.proofs.SameRunLemmas.{SamePlace}
use Rattle.sr_lsp.specs.declared.header.Header.{Header}
use Rattle.sr_lsp.specs.declared.lsp.Lsp.{Lsp}
use Rattle.sr_lsp.specs.declared.lsp.LspId.{LspId}
use Rattle.sr_lsp.specs.declared.table.Part.{Part}
use Rattle.sr_lsp.specs.Header.{header_fault, header_of}
use Rattle.sr_lsp.specs.InRange.{FitsPart, HasWidths, FitsLsp}
use Rattle.sr_lsp.specs.Lsp.{BodyFault, IsBroken, Reads}
use Rattle.sr_lsp.specs.Table.{rows, spelling}
use Rattle.sr_lsp.specs.Text.{HasSpelling, header_text, lsp_text, pdu_length}
use Rattle.sr_lsp.proofs.HeaderLemmas.{body_again, length_again, sound_again}
use Rattle.sr_lsp.proofs.TableLaws.{parts_laws, table_laws}

abbrev lsp_id_of : ℕ → ℕ → ℕ → LspId
lsp_id_of system pseudonode fragment = record { system = system; pseudonode = pseudonode; fragment = fragment }

abbrev lsp_of : ℕ → LspId → ℕ → ℕ → ℕ → List Part → Lsp
lsp_of lifetime id sequence checksum flags parts = record { lifetime = lifetime; id = id; sequence = sequence; checksum = checksum; flags = flags; parts = parts }

same_id : (x y : LspId) → x.system ≡ y.system → x.pseudonode ≡ y.pseudonode → x.fragment ≡ y.fragment → x ≡ y
same_id x y systems pseudonodes fragments =
    let same : lsp_id_of x.system x.pseudonode x.fragment ≡ lsp_id_of y.system y.pseudonode y.fragment = cc in
    same

-- octets are read as one value
pub same_lsp : (octets : List ℕ) (x y : Lsp) → Reads octets x → Reads octets y → x ≡ y
same_lsp octets x y a b =
    let headers : a.header ≡ b.header = a.first.fields ∙ sym b.first.fields in
    let lifetimes : x.lifetime ≡ y.lifetime = a.lifetime ∙ ap (λ (h : Header). h.lifetime) headers ∙ sym b.lifetime in
    let systems : x.id.system ≡ y.id.system = a.system ∙ ap (λ (h : Header). h.system) headers ∙ sym b.system in
    let pseudonodes : x.id.pseudonode ≡ y.id.pseudonode = a.pseudonode ∙ ap (λ (h : Header). h.pseudonode) headers ∙ sym b.pseudonode in
    let fragments : x.id.fragment ≡ y.id.fragment = a.fragment ∙ ap (λ (h : Header). h.fragment) headers ∙ sym b.fragment in
    let sequences : x.sequence ≡ y.sequence = a.sequence ∙ ap (λ (h : Header). h.sequence) headers ∙ sym b.sequence in
    let checksums : x.checksum ≡ y.checksum = a.checksum ∙ ap (λ (h : Header). h.checksum) headers ∙ sym b.checksum in
    let flags : x.flags ≡ y.flags = a.flags ∙ ap (λ (h : Header). h.flags) headers ∙ sym b.flags in
    let P : Header → Type 0 = λ h. (body_of rows).says (slice_range octets 27 h.pdu_length) x.parts in
    let parts : x.parts ≡ y.parts = (body_laws FitsPart rows table_laws).one (slice_range octets 27 b.header.pdu_length) x.parts y.parts (subst P headers a.body) b.body in
    let ids : x.id ≡ y.id = same_id x.id y.id systems pseudonodes fragments in
    let same : lsp_of x.lifetime x.id x.sequence x.checksum x.flags x.parts ≡ lsp_of y.lifetime y.id y.sequence y.checksum y.flags y.parts = cc in
    same

-- octets that say a value fail no check
pub not_broken : (octets : List ℕ) (lsp : Lsp) (malformed : Malformed) → Reads octets lsp → IsBroken octets malformed → ⊥
not_broken octets lsp malformed reads broken =
    elim broken [
      | inl head ↦ (let sound : header_fault octets ≡ None = reads.first.sound in absurd {0} (cc))
      | inr body ↦ (let same : body.header ≡ reads.header = body.first.fields ∙ sym reads.first.fields in
          let P : Header → Type 0 = λ h. (body_of rows).fault (slice_range octets 27 h.pdu_length) body.inside malformed.check in
          (body_laws FitsPart rows table_laws).sound (slice_range octets 27 reads.header.pdu_length) lsp.parts body.inside malformed.check reads.body (subst P same body.fault))
    ]

malformed_same : (x y : Malformed) → SamePlace x.offset y.offset x.check y.check → x ≡ y
malformed_same x y same =
    ap (λ (k : ℕ). record { offset = k; check = x.check }) same.places ∙ ap (λ (c : Check). record { offset = y.offset; check = c }) same.checks

same_body_fault : (octets : List ℕ) (x y : Malformed) → BodyFault octets x → BodyFault octets y → x ≡ y
same_body_fault octets x y a b =
    let headers : a.header ≡ b.header = a.first.fields ∙ sym b.first.fields in
    let P : Header → Type 0 = λ h. (body_of rows).fault (slice_range octets 27 h.pdu_length) a.inside x.check in
    malformed_same x y (behind 27 a.inside b.inside x.offset y.offset x.check y.check
    ((body_laws FitsPart rows table_laws).first (slice_range octets 27 b.header.pdu_length) a.inside b.inside x.check y.check (subst P headers a.fault) b.fault) a.offset b.offset)

-- octets have one first fault
pub same_fault : (octets : List ℕ) (x y : Malformed) → IsBroken octets x → IsBroken octets y → x ≡ y
same_fault octets x y a b =
    elim a [
      | inl head ↦ elim b [
        | inl alike ↦ (let both : Some x ≡ Some y = sym head ∙ alike in cc)
        | inr body ↦ (let sound : header_fault octets ≡ None = body.first.sound in absurd {0} (cc))
      ]
      | inr body ↦ elim b [
        | inl head ↦ (let sound : header_fault octets ≡ None = body.first.sound in absurd {0} (cc))
        | inr alike ↦ same_body_fault octets x y body alike
      ]
    ]

-- the parts of a body of octets fit, and so does a PDU of octets
pub body_in_range : (body : List ℕ) (parts : List Part) → AreOctets body → (body_of rows).says body parts → All FitsPart parts
body_in_range = body_fit FitsPart rows table_laws

pub reads_in_range : (octets : List ℕ) (lsp : Lsp) → AreOctets octets → Reads octets lsp → FitsLsp lsp
reads_in_range octets lsp small reads = body_in_range (slice_range octets 27 reads.header.pdu_length) lsp.parts (octets_range octets 27 reads.header.pdu_length small) reads.body

-- the octets that are written read as the PDU
pub lsp_again : (lsp : Lsp) (rest : List ℕ) → HasWidths lsp → FitsLsp lsp → HasSpelling lsp → Reads (lsp_text lsp ++ rest) lsp
lsp_again lsp rest widths fits spelled =
    let body = body_text spelling lsp.parts in
    let long = pdu_length lsp in
    let header = header_text lsp long in
    let octets = header ++ (body ++ rest) in
    let held : length (body ++ rest) ≡ length body + length rest = length-append body rest in
    let told : (header_of octets).pdu_length ≡ long = length_again lsp long (body ++ rest) (omega (arith, spelled.whole)) in
    let P : List ℕ → Type 0 = λ xs. (body_of rows).says xs lsp.parts in
    let range : slice_range octets 27 (header_of octets).pdu_length ≡ body = ap (λ (k : ℕ). slice_range octets 27 k) told ∙ body_again lsp body rest in
    let Q : List ℕ → Type 0 = λ xs. Reads xs lsp in
    subst Q (sym (append_assoc header body rest)) (record {
      header = header_of octets;
      first = record { sound = sound_again lsp long (body ++ rest) (omega (arith, spelled.whole)) (omega arith) (omega arith); fields = refl };
      body = subst P (sym range) (parts_again rows spelling parts_laws lsp.parts fits widths.parts);
      lifetime = sym (big_number-reads_back 2 lsp.lifetime (drop 12 octets) widths.lifetime);
      system = sym (big_number-reads_back 6 lsp.id.system (drop 18 octets) widths.system);
      pseudonode = refl;
      fragment = refl;
      sequence = sym (big_number-reads_back 4 lsp.sequence (drop 24 octets) widths.sequence);
      checksum = sym (big_number-reads_back 2 lsp.checksum (drop 26 octets) widths.checksum);
      flags = refl;
    })
