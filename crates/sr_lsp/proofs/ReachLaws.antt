-- The laws of extended IS reachability.
use Rattle.std.proofs.Common.{◌≡◌, ℕ, ◌+◌, ◌-◌, ◌<◌, ◌≤◌, List, [], ◌∷◌, ◌++◌, length, take, drop, slice_index, refl, sym, ap, ◌∙◌, subst, arith, length-append, length-drop, Option}
use Rattle.std.specs.List.{AllByRecursion, flat_map, slice_range}
use Rattle.std.proofs.lemmas.List.{append-nil, get_or-drop}
use Rattle.std.proofs.lemmas.List.Folds.{drop_split}
use Rattle.byteorder.specs.Endian.{big_bytes, big_number}
use Rattle.byteorder.specs.Numbers.{big_number-reads_back}
use Rattle.sr_wire.specs.declared.fault.Check.{Check}
use Rattle.sr_wire.specs.declared.fault.Check.TheVariants.{FieldExtent}
use Rattle.sr_wire.specs.declared.registry.TheConstants.{NEIGHBOUR_ADDR, OWN_ADDR}
use Rattle.sr_wire.specs.Entries.{IsNextPiece}
use Rattle.sr_wire.specs.Fields.{SayFields, field_subs}
use Rattle.sr_wire.specs.Run.{FaultyPiece}
use Rattle.sr_wire.specs.Tlv.{Tlv}
use Rattle.sr_wire.proofs.Bytes.{number_fits, split_number, split_octet}
use Rattle.sr_wire.proofs.Codes.{IsCode}
use Rattle.sr_wire.proofs.FieldLaws.{FieldsLaws, all_laws, are_subs, fields_again, fields_fit, fields_text-subs, first_laws, same_all, same_first, same_sub_fault, same_subs}
use Rattle.sr_wire.proofs.FormatLaws.{IsFitting, KindLaws, PieceLaws, behind, each_have, run_laws}
use Rattle.sr_wire.proofs.OctetLemmas.{AreOctets, octets_back, octets_range, octets_same}
use Rattle.sr_wire.proofs.RangeLemmas.{index_in_range, range_long}
use Rattle.sr_wire.proofs.SameRunLemmas.{IsSound}
use Rattle.sr_wire.proofs.SubLemmas.{whole_subs_sound}
use Rattle.sr_wire.proofs.TlvLemmas.{fronts}
use Rattle.sr_subtlv.specs.declared.adj_sid.AdjSid.{AdjSid}
use Rattle.sr_subtlv.specs.declared.link_ids.LinkIds.{LinkIds}
use Rattle.sr_subtlv.specs.Addr.{neighbour_addr_sub, own_addr_sub}
use Rattle.sr_subtlv.specs.AdjSid.{adj_sid_sub}
use Rattle.sr_subtlv.specs.LinkIds.{ids_sub}
use Rattle.sr_subtlv.proofs.AddrLaws.{addr_laws}
use Rattle.sr_subtlv.proofs.AdjSidLaws.{adj_sid_laws}
use Rattle.sr_subtlv.proofs.LinkIdsLaws.{ids_laws}
use Rattle.sr_lsp.specs.declared.reach.Reach.{Reach}
use Rattle.sr_lsp.specs.declared.table.Part.{Part}
use Rattle.sr_lsp.specs.declared.table.Part.TheVariants.{Reach as ReachPart}
use Rattle.sr_lsp.specs.Reach.{Entry, FitsReach, HasReachWidths, IsReachEntry, SaysOne, SaysReach, entry_layout, reach_entry_of, entry_text, link_fields, link_subs_of, reach_kind, reach_subs, reach_value}

link_laws : FieldsLaws link_fields
link_laws = (
  first_laws ids_sub ids_laws (λ link. link.ids),
  (first_laws own_addr_sub (addr_laws OWN_ADDR) (λ link. link.local), (first_laws neighbour_addr_sub (addr_laws NEIGHBOUR_ADDR) (λ link. link.remote), (all_laws adj_sid_sub adj_sid_laws (λ link. link.adj), tt))),
)

-- no entry's text begins another's
entry_same : (x y : Entry) → x.neighbour ≡ y.neighbour → x.pseudonode ≡ y.pseudonode → x.metric ≡ y.metric → x.subs ≡ y.subs → x ≡ y
entry_same x y a b c d =
    ap (λ (k : ℕ). record { neighbour = k; pseudonode = x.pseudonode; metric = x.metric; subs = x.subs }) a
    ∙ ap (λ (k : ℕ). record { neighbour = y.neighbour; pseudonode = k; metric = x.metric; subs = x.subs }) b
    ∙ ap (λ (k : ℕ). record { neighbour = y.neighbour; pseudonode = y.pseudonode; metric = k; subs = x.subs }) c
    ∙ ap (λ (s : List ℕ). record { neighbour = y.neighbour; pseudonode = y.pseudonode; metric = y.metric; subs = s }) d

entry_one : (x y : Entry) (a b : List ℕ) → IsReachEntry x → IsReachEntry y → entry_text x ++ a ≡ entry_text y ++ b → (x ≡ y) × (a ≡ b)
entry_one x y a b px py e =
    let back_x : big_number 6 (entry_text x ++ a) ≡ x.neighbour = big_number-reads_back 6 x.neighbour (drop 6 (entry_text x ++ a)) px.neighbour in
    let back_y : big_number 6 (entry_text y ++ b) ≡ y.neighbour = big_number-reads_back 6 y.neighbour (drop 6 (entry_text y ++ b)) py.neighbour in
    let metric_x : big_number 3 (drop 7 (entry_text x ++ a)) ≡ x.metric = big_number-reads_back 3 x.metric (drop 10 (entry_text x ++ a)) px.metric in
    let metric_y : big_number 3 (drop 7 (entry_text y ++ b)) ≡ y.metric = big_number-reads_back 3 y.metric (drop 10 (entry_text y ++ b)) py.metric in
    let neighbours : x.neighbour ≡ y.neighbour = sym back_x ∙ ap (big_number 6) e ∙ back_y in
    let metrics : x.metric ≡ y.metric = sym metric_x ∙ ap (λ (xs : List ℕ). big_number 3 (drop 7 xs)) e ∙ metric_y in
    let pseudonodes : x.pseudonode ≡ y.pseudonode = ap (λ (xs : List ℕ). slice_index xs 6) e in
    let lengths : length x.subs ≡ length y.subs = ap (λ (xs : List ℕ). slice_index xs 10) e in
    let rests : x.subs ++ a ≡ y.subs ++ b = ap (drop 11) e in
    let both = fronts x.subs y.subs a b lengths rests in
    (entry_same x y neighbours pseudonodes metrics both.0, both.1)

entry_code : IsCode IsReachEntry entry_text
entry_code = record { one = entry_one; some = λ x a e. absurd {0} (cc) }

-- an entry says one value
abbrev reach_of : ℕ → ℕ → ℕ → Option LinkIds → Option ℕ → Option ℕ → List AdjSid → Reach
reach_of neighbour pseudonode metric ids local remote adj =
    record { neighbour = neighbour; pseudonode = pseudonode; metric = metric; ids = ids; local = local; remote = remote; adj = adj }

same_reach : (entry : Entry) (x y : Reach) → SaysReach entry x → SaysReach entry y → x ≡ y
same_reach entry x y a b =
    let P : List Tlv → Type 0 = λ subs. SayFields link_fields subs (link_subs_of x) in
    let say = subst P (same_subs entry.subs a.subs b.subs a.are b.are) a.say in
    let neighbours : x.neighbour ≡ y.neighbour = a.neighbour ∙ sym b.neighbour in
    let pseudonodes : x.pseudonode ≡ y.pseudonode = a.pseudonode ∙ sym b.pseudonode in
    let metrics : x.metric ≡ y.metric = a.metric ∙ sym b.metric in
    let ids : x.ids ≡ y.ids = same_first ids_sub ids_laws b.subs x.ids y.ids say.0 b.say.0 in
    let locals : x.local ≡ y.local = same_first own_addr_sub (addr_laws OWN_ADDR) b.subs x.local y.local say.1.0 b.say.1.0 in
    let remotes : x.remote ≡ y.remote = same_first neighbour_addr_sub (addr_laws NEIGHBOUR_ADDR) b.subs x.remote y.remote say.1.1.0 b.say.1.1.0 in
    let adj : x.adj ≡ y.adj = same_all adj_sid_sub adj_sid_laws b.subs x.adj y.adj say.1.1.1.0 b.say.1.1.1.0 in
    let same : reach_of x.neighbour x.pseudonode x.metric x.ids x.local x.remote x.adj ≡ reach_of y.neighbour y.pseudonode y.metric y.ids y.local y.remote y.adj = cc in
    same

piece_laws : PieceLaws entry_layout SaysOne
piece_laws = record {
  code = entry_code;
  one = λ entry xs ys a b. a.2 ∙ ap (λ (r : Reach). ReachPart r ∷ []) (same_reach entry a.0 b.0 a.1 b.1) ∙ sym b.2;
  first = λ entry at other check check' a b. behind 11 a.0 b.0 at other check check' (same_sub_fault entry.subs a.0 b.0 check check' a.1 b.1) a.2 b.2;
}

-- an entry that says a value has no fault, and octets say only values that fit
sound_entry : (entry : Entry) (reach : Reach) → SaysReach entry reach → IsSound entry_layout entry
sound_entry entry reach says at check fault = whole_subs_sound entry.subs says.subs says.are fault.0 check fault.1

reach_fits : (entry : Entry) (reach : Reach) → AreOctets (entry_text entry) → IsReachEntry entry → SaysReach entry reach → FitsReach reach
reach_fits entry reach small is says =
    let front : List ℕ = big_bytes 6 entry.neighbour ++ entry.pseudonode ∷ big_bytes 3 entry.metric ++ length entry.subs ∷ [] in
    let subs : AreOctets entry.subs = octets_back front entry.subs small in
    record { metric = omega (arith, says.metric, is.metric); link = fields_fit link_fields link_laws entry.subs says.subs (link_subs_of reach) subs says.are says.say }

-- a value that is written is read again
reach_again : (reach : Reach) → FitsReach reach → HasReachWidths reach → reach_kind.format.says (reach_value reach) (ReachPart reach ∷ [])
reach_again reach fits widths =
    let link = link_subs_of reach in
    let entry : Entry = record { neighbour = reach.neighbour; pseudonode = reach.pseudonode; metric = reach.metric; subs = reach_subs reach } in
    let says : SaysReach entry reach = record {
      neighbour = refl;
      pseudonode = refl;
      metric = refl;
      subs = field_subs link_fields link;
      are = are_subs (reach_subs reach) (field_subs link_fields link) (fields_text-subs link_fields link_laws link);
      say = fields_again link_fields link (omega arith, (omega arith, (omega arith, (omega arith, tt)))) link_laws fits.link widths.link;
    } in
    record {
      pieces = entry ∷ [];
      run = record {
        text = sym (append-nil (entry_text entry));
        each = (record { neighbour = widths.neighbour; metric = fits.metric }, tt);
        sound = (sound_entry entry reach says, tt);
      };
      say = (ReachPart reach ∷ [], [], (reach, says, refl), refl, refl);
    }

pub reach_laws : KindLaws reach_kind
reach_laws = record {
  format = run_laws entry_layout FieldExtent SaysOne piece_laws;
  again = reach_again;
  fit = λ value parts small says. each_have entry_layout SaysOne (IsFitting reach_kind)
      (λ entry own octets is say. let P : List Part → Type 0 = λ ps. AllByRecursion (IsFitting reach_kind) ps in
      subst P (sym say.2) ((say.0, refl, reach_fits entry say.0 octets is say.1), tt))
      says.pieces parts (octets_same value (flat_map entry_text says.pieces) says.run.text small) says.run.each says.say;
}

-- for the functions: an entry in octets
entry_again : (octets : List ℕ) → AreOctets octets → 11 ≤ length octets → slice_index octets 10 ≡ length (drop 11 octets) → octets ≡ entry_text (reach_entry_of octets)
entry_again octets small long told =
    let six : octets ≡ big_bytes 6 (big_number 6 octets) ++ drop 6 octets = split_number 6 0 octets small (omega arith) in
    let seventh : drop 6 octets ≡ slice_index octets 6 ∷ drop 7 octets = split_octet 6 octets (omega arith) in
    let three : drop 7 octets ≡ big_bytes 3 (big_number 3 (drop 7 octets)) ++ drop 10 octets = split_number 3 7 octets small (omega arith) in
    let eleventh : drop 10 octets ≡ length (drop 11 octets) ∷ drop 11 octets = split_octet 10 octets (omega arith) ∙ ap (λ (b : ℕ). b ∷ drop 11 octets) told in
    six ∙ ap (λ (xs : List ℕ). big_bytes 6 (big_number 6 octets) ++ xs)
    (seventh ∙ ap (λ (xs : List ℕ). slice_index octets 6 ∷ xs) (three ∙ ap (λ (xs : List ℕ). big_bytes 3 (big_number 3 (drop 7 octets)) ++ xs) eleventh))

entry_fits : (octets : List ℕ) → AreOctets octets → IsReachEntry (reach_entry_of octets)
entry_fits octets small = record { neighbour = number_fits 6 0 octets small; metric = number_fits 3 7 octets small }

entry_room : (octets : List ℕ) (entry : Entry) (rest : List ℕ) → octets ≡ entry_text entry ++ rest → 11 + slice_index octets 10 ≤ length octets
entry_room octets entry rest e =
    let told : slice_index octets 10 ≡ length entry.subs = ap (λ (xs : List ℕ). slice_index xs 10) e in
    let long : length octets ≡ length (entry_text entry ++ rest) = ap length e in
    let parts : length (entry_text entry ++ rest) ≡ length (entry_text entry) + length rest = length-append (entry_text entry) rest in
    let own : length (entry_text entry) ≡ 11 + length entry.subs = length-append (take 11 (entry_text entry)) entry.subs in
    omega arith

entry_at : (value : List ℕ) (at end : ℕ) → AreOctets value → at + 11 ≤ end → end ≤ length value → end ≡ at + 11 + slice_index value (at + 10)
    → drop at value ≡ entry_text (reach_entry_of (slice_range value at end)) ++ drop end value
entry_at value at end small room within is =
    let octets = slice_range value at end in
    let long : length octets ≡ end - at = range_long value at end (omega arith) within in
    let here : slice_index octets 10 ≡ slice_index value (at + 10) = index_in_range value at end 10 (omega arith) in
    let rest : length (drop 11 octets) ≡ length octets - 11 = length-drop 11 octets in
    let text : octets ≡ entry_text (reach_entry_of octets) = entry_again octets (octets_range value at end small) (omega arith) (omega arith) in
    drop_split value at end (omega arith) ∙ ap (λ (xs : List ℕ). xs ++ drop end value) text

-- where no entry stands
pub no_entry : (value : List ℕ) (at : ℕ) → at ≤ length value → length value - at < 11 + slice_index value (at + 10) → (entry : Entry) (rest : List ℕ) → drop at value ≡ entry_text entry ++ rest → ⊥
no_entry value at within short entry rest e =
    let room : 11 + slice_index (drop at value) 10 ≤ length (drop at value) = entry_room (drop at value) entry rest e in
    let there : slice_index (drop at value) 10 ≡ slice_index value (at + 10) = get_or-drop at value 10 0 in
    omega (arith, length-drop at value)

-- an entry of octets is the next piece, or one with a fault inside
pub next_entry : (value : List ℕ) (at end : ℕ) (reach : Reach) → AreOctets value → end ≤ length value → end ≡ at + 11 + slice_index value (at + 10) → SaysReach (reach_entry_of (slice_range value at end)) reach
    → IsNextPiece entry_layout SaysOne value at end (ReachPart reach ∷ [])
next_entry value at end reach small room is says =
    let entry = reach_entry_of (slice_range value at end) in
    record {
      piece = entry;
      further = omega arith;
      within = room;
      is = entry_fits (slice_range value at end) (octets_range value at end small);
      text = entry_at value at end small (omega arith) room is;
      sound = sound_entry entry reach says;
      told = (reach, says, refl);
    }

pub faulty_entry : (value : List ℕ) (at end inside : ℕ) (check : Check) → AreOctets value → end ≤ length value → end ≡ at + 11 + slice_index value (at + 10)
    → entry_layout.fault (reach_entry_of (slice_range value at end)) inside check → FaultyPiece entry_layout (drop at value) inside check
faulty_entry value at end inside check small room is fault = record {
  piece = reach_entry_of (slice_range value at end);
  rest = drop end value;
  is = entry_fits (slice_range value at end) (octets_range value at end small);
  text = entry_at value at end small (omega arith) room is;
  fault = fault;
}
