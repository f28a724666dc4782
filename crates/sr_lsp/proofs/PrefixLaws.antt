-- The laws of extended IP reachability.
use Rattle.std.proofs.Common.{◌≡◌, ◌≢◌, ℕ, suc, ◌+◌, ◌-◌, ◌*◌, ◌/◌, ◌%◌, ◌^◌, ◌<◌, ◌≤◌, ◌==◌, nat_le, Bool, true, false, not, if◌then◌else◌, MatchBool, List, [], ◌∷◌, ◌++◌, All, length, take, drop, replicate, slice_index, bit_and, inl, inr, refl, sym, ap, ◌∙◌, subst, arith, append_assoc, length-append, length-drop, eq-eqb}
use Rattle.std.specs.List.{AllByRecursion, flat_map, slice_range}
use Rattle.std.proofs.Math.Seq.{drop-append_seam, get_or-append_seam}
use Rattle.std.proofs.lemmas.Bool.{ne_eqb}
use Rattle.std.proofs.lemmas.Bool.Decides.{nat_tests}
use Rattle.std.proofs.lemmas.List.{append-nil, drop-take, get_or-drop, length-take-le, nil_from_length, replicate-append-replicate, take-append-drop}
use Rattle.std.proofs.lemmas.List.Elements.{All-replicate, All-same, All-take, recursion_from_All}
use Rattle.std.proofs.lemmas.List.Folds.{drop_split}
use Rattle.std.proofs.lemmas.Nat.Bits.{and_pow}
use Rattle.byteorder.specs.Endian.{big_bytes, big_number}
use Rattle.byteorder.specs.Numbers.{big_number-reads_back}
use Rattle.sr_wire.specs.declared.fault.Check.{Check}
use Rattle.sr_wire.specs.declared.fault.Check.TheVariants.{FieldExtent}
use Rattle.sr_wire.specs.declared.registry.TheConstants.{ADDRESS_BITS, EXTENDED_PREFIX, PREFIX_DOWN, PREFIX_SUBS}
use Rattle.sr_wire.specs.Entries.{IsNextPiece, StopsAt}
use Rattle.sr_wire.specs.Fields.{SayFields, field_subs, fields_text}
use Rattle.sr_wire.specs.Format.{kind_text}
use Rattle.sr_wire.specs.Numbers.{bit_if, is_some_list}
use Rattle.sr_wire.specs.Octets.{number, octet}
use Rattle.sr_wire.specs.Sub.{AreSubs, SubFault}
use Rattle.sr_wire.specs.Tlv.{Tlv}
use Rattle.sr_wire.proofs.Bytes.{bytes_of-big_from, number_fits, split_number, split_octet}
use Rattle.sr_wire.proofs.Codes.{IsCode}
use Rattle.sr_wire.proofs.FieldLaws.{FieldsLaws, all_laws, are_subs, fields_again, fields_fit, fields_text-subs, same_all, same_sub_fault, same_subs}
use Rattle.sr_wire.proofs.FormatLaws.{IsFitting, KindLaws, PieceLaws, behind, each_have, run_laws}
use Rattle.sr_wire.proofs.OctetLemmas.{AreOctets, no_octets, octets_back, octets_front, octets_join, octets_one, octets_same}
use Rattle.sr_wire.proofs.RangeLemmas.{range_long}
use Rattle.sr_wire.proofs.SameRunLemmas.{IsSound}
use Rattle.sr_wire.proofs.SubLemmas.{whole_subs_sound}
use Rattle.sr_wire.proofs.TlvLemmas.{fronts}
use Rattle.sr_subtlv.specs.declared.prefix_sid.PrefixSid.{PrefixSid}
use Rattle.sr_subtlv.specs.PrefixSid.{prefix_sid_sub}
use Rattle.sr_subtlv.proofs.PrefixSidLaws.{prefix_sid_laws}
use Rattle.sr_lsp.specs.declared.prefix.Prefix.{Prefix}
use Rattle.sr_lsp.specs.declared.prefix_extent.Extent.{Extent}
use Rattle.sr_lsp.specs.declared.table.Part.{Part}
use Rattle.sr_lsp.specs.declared.table.Part.TheVariants.{Prefix as PrefixPart}
use Rattle.sr_lsp.specs.Prefix.{FitsPrefix, HasPrefixWidths, IsExtent, IsPrefixEntry, PrefixEntry, SaysOwn, SaysPrefix, bits_of, control_octet, counted_subs, has_subs, prefix_entry_at, prefix_fields, prefix_kind, prefix_layout, prefix_octets, prefix_subs, prefix_subs_of, prefix_text, prefix_value, subs_text}

-- what the sub-TLVs say
prefix_field_laws : FieldsLaws prefix_fields
prefix_field_laws = (all_laws prefix_sid_sub prefix_sid_laws (λ subs. subs.sids), tt)

-- texts with sub-TLVs, or without, that begin alike
subs_one : (present : Bool) (xs ys a b : List ℕ) → (if present then length xs ∷ xs else []) ++ a ≡ (if present then length ys ∷ ys else []) ++ b → MatchBool present (Unit {0}) (xs ≡ [])
    → MatchBool present (Unit {0}) (ys ≡ []) → (xs ≡ ys) × (a ≡ b)
subs_one true xs ys a b e px py =
    let lengths : length xs ≡ length ys = cc in
    let rests : xs ++ a ≡ ys ++ b = cc in
    fronts xs ys a b lengths rests
subs_one false xs ys a b e px py = (px ∙ sym py, e)

-- entries with the same fields are one
entry_same : (x y : PrefixEntry) → x.metric ≡ y.metric → x.control ≡ y.control → x.prefix ≡ y.prefix → x.subs ≡ y.subs → x ≡ y
entry_same x y a b c d =
    ap (λ (k : ℕ). record { metric = k; control = x.control; prefix = x.prefix; subs = x.subs }) a
    ∙ ap (λ (k : ℕ). record { metric = y.metric; control = k; prefix = x.prefix; subs = x.subs }) b
    ∙ ap (λ (p : List ℕ). record { metric = y.metric; control = y.control; prefix = p; subs = x.subs }) c
    ∙ ap (λ (s : List ℕ). record { metric = y.metric; control = y.control; prefix = y.prefix; subs = s }) d

-- no entry's text begins another's
entry_one : (x y : PrefixEntry) (a b : List ℕ) → IsPrefixEntry x → IsPrefixEntry y → prefix_text x ++ a ≡ prefix_text y ++ b → (x ≡ y) × (a ≡ b)
entry_one x y a b px py e =
    let back_x : big_number 4 (prefix_text x ++ a) ≡ x.metric = big_number-reads_back 4 x.metric (drop 4 (prefix_text x ++ a)) px.metric in
    let back_y : big_number 4 (prefix_text y ++ b) ≡ y.metric = big_number-reads_back 4 y.metric (drop 4 (prefix_text y ++ b)) py.metric in
    let metrics : x.metric ≡ y.metric = sym back_x ∙ ap (big_number 4) e ∙ back_y in
    let controls : x.control ≡ y.control = ap (λ (xs : List ℕ). slice_index xs 4) e in
    let lengths : length x.prefix ≡ length y.prefix = px.long ∙ ap (λ (k : ℕ). prefix_octets (k % 64)) controls ∙ sym py.long in
    let rests : x.prefix ++ (subs_text x ++ a) ≡ y.prefix ++ (subs_text y ++ b) =
    sym (append_assoc x.prefix (subs_text x) a) ∙ ap (drop 5) e ∙ append_assoc y.prefix (subs_text y) b in
    let both = fronts x.prefix y.prefix (subs_text x ++ a) (subs_text y ++ b) lengths rests in
    let flags : has_subs x ≡ has_subs y = ap (λ (k : ℕ). not (bit_and k PREFIX_SUBS == 0)) controls in
    let P : Bool → Type 0 = λ p. (if p then length x.subs ∷ x.subs else []) ++ a ≡ subs_text y ++ b in
    let Q : Bool → Type 0 = λ p. MatchBool p (Unit {0}) (x.subs ≡ []) in
    let subs = subs_one (has_subs y) x.subs y.subs a b (subst P flags both.1) (subst Q flags px.none) py.none in
    (entry_same x y metrics controls both.0 subs.0, subs.1)

entry_code : IsCode IsPrefixEntry prefix_text
entry_code = record { one = entry_one; some = λ x a e. absurd {0} (cc) }

-- a prefix by its fields
abbrev prefix_of : ℕ → Bool → ℕ → ℕ → List PrefixSid → Prefix
prefix_of metric down bits prefix sids = record { metric = metric; down = down; length = bits; prefix = prefix; sids = sids }

-- an entry says one prefix, or nothing
same_prefix : (entry : PrefixEntry) (x y : Prefix) → SaysPrefix entry x → SaysPrefix entry y → x ≡ y
same_prefix entry x y a b =
    let P : List Tlv → Type 0 = λ subs. SayFields prefix_fields subs (prefix_subs_of x) in
    let say = subst P (same_subs entry.subs a.subs b.subs a.are b.are) a.say in
    let metrics : x.metric ≡ y.metric = a.metric ∙ sym b.metric in
    let downs : x.down ≡ y.down = a.down ∙ sym b.down in
    let lengths : x.length ≡ y.length = a.length ∙ sym b.length in
    let prefixes : x.prefix ≡ y.prefix = a.number ∙ sym b.number in
    let sids : x.sids ≡ y.sids = same_all prefix_sid_sub prefix_sid_laws b.subs x.sids y.sids say.0 b.say.0 in
    let same : prefix_of x.metric x.down x.length x.prefix x.sids ≡ prefix_of y.metric y.down y.length y.prefix y.sids = cc in
    same

-- what an entry says, where it is known whether its prefix is short
abbrev SaysIf : Bool → PrefixEntry → List Part → Type 0
SaysIf short entry own = MatchBool short ((prefix : Prefix) × SaysPrefix entry prefix × (own ≡ PrefixPart prefix ∷ [])) (own ≡ [])

same_own : (short : Bool) (entry : PrefixEntry) (xs ys : List Part) → SaysIf short entry xs → SaysIf short entry ys → xs ≡ ys
same_own true entry xs ys a b = a.2 ∙ ap (λ (p : Prefix). PrefixPart p ∷ []) (same_prefix entry a.0 b.0 a.1 b.1) ∙ sym b.2
same_own false entry xs ys a b = a ∙ sym b

piece_laws : PieceLaws prefix_layout SaysOwn
piece_laws = record {
  code = entry_code;
  one = λ entry xs ys a b. same_own (nat_le (bits_of entry) ADDRESS_BITS) entry xs ys a b;
  first = λ entry at other check check' a b.
      behind (6 + length entry.prefix) a.0 b.0 at other check check' (same_sub_fault entry.subs a.0 b.0 check check' a.1 b.1) a.2 b.2;
}

-- an entry whose sub-TLVs are whole has no fault
sound_entry : (entry : PrefixEntry) (prefix : Prefix) → SaysPrefix entry prefix → IsSound prefix_layout entry
sound_entry entry prefix says at check fault = whole_subs_sound entry.subs says.subs says.are fault.0 check fault.1

-- the sub-TLVs of octets are octets
subs_octets : (present : Bool) (subs : List ℕ) → MatchBool present (Unit {0}) (subs ≡ []) → AreOctets (if present then length subs ∷ subs else []) → AreOctets subs
subs_octets true subs none small = octets_back (length subs ∷ []) subs small
subs_octets false subs none small = octets_same [] subs (sym none) no_octets

-- the prefix of an entry, and its sub-TLVs, are octets
record EntryOctets (entry : PrefixEntry) : Type 0 where
  pub prefix : AreOctets entry.prefix
  pub subs : AreOctets entry.subs

entry_octets : (entry : PrefixEntry) → IsPrefixEntry entry → AreOctets (prefix_text entry) → EntryOctets entry
entry_octets entry is small =
    let behind : AreOctets (entry.prefix ++ subs_text entry) = octets_back (big_bytes 4 entry.metric ++ entry.control ∷ []) (entry.prefix ++ subs_text entry) small in
    record {
      prefix = octets_front entry.prefix (subs_text entry) behind;
      subs = subs_octets (has_subs entry) entry.subs is.none (octets_back entry.prefix (subs_text entry) behind);
    }

four_zeros : AreOctets (0 ∷ 0 ∷ 0 ∷ 0 ∷ [])
four_zeros = octets_one 0 (0 ∷ 0 ∷ 0 ∷ []) (omega arith) (octets_one 0 (0 ∷ 0 ∷ []) (omega arith) (octets_one 0 (0 ∷ []) (omega arith) (octets_one 0 [] (omega arith) no_octets)))

-- a prefix that is read of fewer octets is 0 behind them
zero_past : (octets : List ℕ) (prefix : ℕ) → AreOctets octets → length octets ≤ 4 → prefix ≡ big_number 4 (octets ++ replicate 4 0)
    → All (λ octet. octet ≡ 0) (drop (length octets) (big_bytes 4 prefix))
zero_past octets prefix small few is =
    let n = length octets in
    let zeros : List ℕ = replicate 4 0 in
    let whole : AreOctets (octets ++ zeros) = octets_join octets zeros small (octets_same (0 ∷ 0 ∷ 0 ∷ 0 ∷ []) zeros refl four_zeros) in
    let long : 0 + 4 ≤ length (octets ++ zeros) = omega (arith, length-append octets zeros) in
    let bytes : big_bytes 4 (big_number 4 (octets ++ zeros)) ≡ take 4 (octets ++ zeros) = bytes_of-big_from 4 0 (octets ++ zeros) whole long in
    let parts : n + (4 - n) ≡ 4 = omega arith in
    let past : drop n (big_bytes 4 prefix) ≡ take (4 - n) zeros =
    ap (λ (k : ℕ). drop n (big_bytes 4 k)) is ∙ ap (drop n) bytes ∙ ap (λ (k : ℕ). drop n (take k (octets ++ zeros))) (sym parts)
    ∙ drop-take n (4 - n) (octets ++ zeros) ∙ ap (take (4 - n)) (drop-append_seam octets zeros) in
    All-same (λ (o : ℕ). o ≡ 0) (drop n (big_bytes 4 prefix)) (take (4 - n) zeros) past (All-take (λ (o : ℕ). o ≡ 0) (4 - n) zeros (All-replicate (λ (o : ℕ). o ≡ 0) 4 0 refl))

-- what an entry of octets says fits
prefix_fits : (entry : PrefixEntry) (p : Prefix) → EntryOctets entry → IsPrefixEntry entry → bits_of entry ≤ ADDRESS_BITS → SaysPrefix entry p → FitsPrefix p
prefix_fits entry p small is bits says = record {
  bits = omega (arith, says.length);
  past =
      let few : length entry.prefix ≤ 4 = omega (arith, is.long) in
      let long : length entry.prefix ≡ prefix_octets p.length = is.long ∙ ap prefix_octets (sym says.length) in
      let P : ℕ → Type 0 = λ k. All (λ octet. octet ≡ 0) (drop k (big_bytes 4 p.prefix)) in
      subst P long (zero_past entry.prefix p.prefix small.prefix few says.number);
  subs = fields_fit prefix_fields prefix_field_laws entry.subs says.subs (prefix_subs_of p) small.subs says.are says.say;
}

at_most : (a b : ℕ) → nat_le a b ≡ true → a ≤ b
at_most a b e = grind (arith, nat_tests)

own_fits : (short : Bool) (entry : PrefixEntry) (own : List Part) → EntryOctets entry → IsPrefixEntry entry → nat_le (bits_of entry) ADDRESS_BITS ≡ short → SaysIf short entry own
    → AllByRecursion (IsFitting prefix_kind) own
own_fits true entry own small is short says =
    let bits : bits_of entry ≤ ADDRESS_BITS = at_most (bits_of entry) ADDRESS_BITS short in
    let P : List Part → Type 0 = λ ps. AllByRecursion (IsFitting prefix_kind) ps in
    subst P (sym says.2) ((says.0, refl, prefix_fits entry says.0 small is bits says.1), tt)
own_fits false entry own small is short says = let P : List Part → Type 0 = λ ps. AllByRecursion (IsFitting prefix_kind) ps in subst P (sym says) tt

-- the bits of a control octet
abbrev control : Bool → Bool → ℕ → ℕ
control down some bits = bit_if down PREFIX_DOWN + bit_if some PREFIX_SUBS + bits

-- what its bits tell: the length of the prefix, down, and whether there are sub-TLVs
low_bits : (down some : Bool) (bits : ℕ) → bits ≤ 32 → control down some bits % 64 ≡ bits
low_bits true true bits h = omega arith
low_bits true false bits h = omega arith
low_bits false true bits h = omega arith
low_bits false false bits h = omega arith

-- what a test of one bit tells
one_bit : (octet k bit : ℕ) → octet / 2 ^ k % 2 ≡ bit → not (bit_and octet (2 ^ k) == 0) ≡ not (bit * 2 ^ k == 0)
one_bit octet k bit is = ap (λ (x : ℕ). not (x == 0)) (and_pow octet k ∙ ap (λ (b : ℕ). b * 2 ^ k) is)

down_bit : (down some : Bool) (bits : ℕ) → bits ≤ 32 → not (bit_and (control down some bits) PREFIX_DOWN == 0) ≡ down
down_bit true true bits h = one_bit (control true true bits) 7 1 (omega arith)
down_bit true false bits h = one_bit (control true false bits) 7 1 (omega arith)
down_bit false true bits h = one_bit (control false true bits) 7 0 (omega arith)
down_bit false false bits h = one_bit (control false false bits) 7 0 (omega arith)

subs_bit : (down some : Bool) (bits : ℕ) → bits ≤ 32 → not (bit_and (control down some bits) PREFIX_SUBS == 0) ≡ some
subs_bit true true bits h = one_bit (control true true bits) 6 1 (omega arith)
subs_bit true false bits h = one_bit (control true false bits) 6 0 (omega arith)
subs_bit false true bits h = one_bit (control false true bits) 6 1 (omega arith)
subs_bit false false bits h = one_bit (control false false bits) 6 0 (omega arith)

all_zero : (xs : List ℕ) → AllByRecursion (λ octet. octet ≡ 0) xs → xs ≡ replicate (length xs) 0
all_zero [] zero = refl
all_zero (x ∷ xs) zero = ap (λ (y : ℕ). y ∷ xs) zero.0 ∙ ap (λ (ys : List ℕ). 0 ∷ ys) (all_zero xs zero.1)

-- octets of which those past k are 0 are the first k, with zeros behind them
padded : (k : ℕ) (xs : List ℕ) → k ≤ 4 → length xs ≡ 4 → All (λ octet. octet ≡ 0) (drop k xs) → take k xs ++ replicate 4 0 ≡ xs ++ replicate k 0
padded k xs few four past =
    let left : length (drop k xs) ≡ 4 - k = length-drop k xs ∙ ap (λ (n : ℕ). n - k) four in
    let zeros : drop k xs ≡ replicate (4 - k) 0 = all_zero (drop k xs) (recursion_from_All (λ octet. octet ≡ 0) (drop k xs) past) ∙ ap (λ (n : ℕ). replicate n 0) left in
    let parts : 4 - k + k ≡ 4 = omega arith in
    let split : replicate 4 0 ≡ drop k xs ++ replicate k 0 =
    ap (λ (n : ℕ). replicate n 0) (sym parts) ∙ sym (replicate-append-replicate (4 - k) k 0) ∙ ap (λ (ys : List ℕ). ys ++ replicate k 0) (sym zeros) in
    ap (λ (ys : List ℕ). take k xs ++ ys) split ∙ sym (append_assoc (take k xs) (drop k xs) (replicate k 0)) ∙ ap (λ (ys : List ℕ). ys ++ replicate k 0) (take-append-drop k xs)

-- where there are no SIDs, there are no sub-TLVs
no_subs : (present : Bool) (sids : List PrefixSid) → present ≡ is_some_list sids → MatchBool present (Unit {0}) (fields_text prefix_fields (record { sids = sids }) ≡ [])
no_subs true sids e = tt
no_subs false [] e = refl
no_subs false (s ∷ ss) e = absurd {0} (cc)

-- the entry that is written of a prefix
abbrev entry_of : Prefix → PrefixEntry
entry_of prefix = record {
  metric = prefix.metric;
  control = control_octet prefix;
  prefix = take (prefix_octets prefix.length) (big_bytes 4 prefix.prefix);
  subs = prefix_subs prefix;
}

low_bits_of : (prefix : Prefix) → FitsPrefix prefix → bits_of (entry_of prefix) ≡ prefix.length
low_bits_of prefix fits = low_bits prefix.down (is_some_list prefix.sids) prefix.length fits.bits

-- it is an entry that says the prefix
entry_is : (prefix : Prefix) → FitsPrefix prefix → HasPrefixWidths prefix → IsPrefixEntry (entry_of prefix)
entry_is prefix fits widths =
    let entry = entry_of prefix in
    let bits : prefix.length ≤ 32 = fits.bits in
    let long : length entry.prefix ≡ prefix_octets prefix.length = length-take-le (prefix_octets prefix.length) (big_bytes 4 prefix.prefix) (omega arith) in
    record {
      metric = widths.metric;
      long = long ∙ ap prefix_octets (sym (low_bits_of prefix fits));
      none = no_subs (has_subs entry) prefix.sids (subs_bit prefix.down (is_some_list prefix.sids) prefix.length bits);
    }

entry_says : (prefix : Prefix) → FitsPrefix prefix → HasPrefixWidths prefix → SaysPrefix (entry_of prefix) prefix
entry_says prefix fits widths =
    let octets = prefix_octets prefix.length in
    let subs = prefix_subs_of prefix in
    let bits : prefix.length ≤ 32 = fits.bits in
    let whole : take octets (big_bytes 4 prefix.prefix) ++ replicate 4 0 ≡ big_bytes 4 prefix.prefix ++ replicate octets 0 =
    padded octets (big_bytes 4 prefix.prefix) (omega arith) refl fits.past in
    record {
      metric = refl;
      down = sym (down_bit prefix.down (is_some_list prefix.sids) prefix.length bits);
      length = sym (low_bits_of prefix fits);
      number = sym (ap (big_number 4) whole ∙ big_number-reads_back 4 prefix.prefix (replicate octets 0) widths.number);
      subs = field_subs prefix_fields subs;
      are = are_subs (prefix_subs prefix) (field_subs prefix_fields subs) (fields_text-subs prefix_fields prefix_field_laws subs);
      say = fields_again prefix_fields subs (omega arith, tt) prefix_field_laws fits.subs widths.subs;
    }

-- an entry with a short prefix says its part
own_some : (entry : PrefixEntry) (prefix : Prefix) → bits_of entry ≤ ADDRESS_BITS → SaysPrefix entry prefix → SaysOwn entry (PrefixPart prefix ∷ [])
own_some entry prefix h says =
    let short : nat_le (bits_of entry) ADDRESS_BITS ≡ true = grind (arith, nat_tests) in
    let P : Bool → Type 0 = λ b. SaysIf b entry (PrefixPart prefix ∷ []) in
    subst P (sym short) (prefix, says, refl)

-- a value that is written is read again
prefix_again : (prefix : Prefix) → FitsPrefix prefix → HasPrefixWidths prefix → prefix_kind.format.says (prefix_value prefix) (PrefixPart prefix ∷ [])
prefix_again prefix fits widths =
    let entry = entry_of prefix in
    let says = entry_says prefix fits widths in
    let short : bits_of entry ≤ ADDRESS_BITS = omega (arith, low_bits_of prefix fits, fits.bits) in
    record {
      pieces = entry ∷ [];
      run = record {
        text = sym (append-nil (prefix_text entry));
        each = (entry_is prefix fits widths, tt);
        sound = (sound_entry entry prefix says, tt);
      };
      say = (PrefixPart prefix ∷ [], [], own_some entry prefix short says, refl, refl);
    }

pub prefix_laws : KindLaws prefix_kind
prefix_laws = record {
  format = run_laws prefix_layout FieldExtent SaysOwn piece_laws;
  again = prefix_again;
  fit = λ value parts small says. each_have prefix_layout SaysOwn (IsFitting prefix_kind)
      (λ entry own octets is say. own_fits (nat_le (bits_of entry) ADDRESS_BITS) entry own (entry_octets entry is octets) is refl say)
      says.pieces parts (octets_same value (flat_map prefix_text says.pieces) says.run.text small) says.run.each says.say;
}

-- for reading: the octets of an entry before its sub-TLVs
prefix_front : (value : List ℕ) (at prefix_end : ℕ) → AreOctets value → at + 5 ≤ prefix_end → prefix_end ≤ length value
    → drop at value ≡ (big_bytes 4 (number value at 4) ++ octet value (at + 4) ∷ slice_range value (at + 5) prefix_end) ++ drop prefix_end value
prefix_front value at prefix_end small room within =
    let next : at + 4 + 1 ≡ at + 5 = omega arith in
    let metric : drop at value ≡ big_bytes 4 (number value at 4) ++ drop (at + 4) value = split_number 4 at value small (omega arith) in
    let control : drop (at + 4) value ≡ octet value (at + 4) ∷ drop (at + 5) value = split_octet (at + 4) value (omega arith) ∙ ap (λ (k : ℕ). octet value (at + 4) ∷ drop k value) next in
    let prefix : drop (at + 5) value ≡ slice_range value (at + 5) prefix_end ++ drop prefix_end value = drop_split value (at + 5) prefix_end room in
    metric ∙ ap (λ (xs : List ℕ). big_bytes 4 (number value at 4) ++ xs) (control ∙ ap (λ (xs : List ℕ). octet value (at + 4) ∷ xs) prefix)

-- the prefix of an entry at a place ends there
abbrev pub PrefixEnds : List ℕ → ℕ → ℕ → Type 0
PrefixEnds value at prefix_end = prefix_end ≡ at + 5 + prefix_octets (octet value (at + 4) % 64)

-- the extent of an entry by its places
abbrev pub extent : ℕ → ℕ → ℕ → Extent
extent prefix_end subs_from end = record { prefix_end = prefix_end; subs_from = subs_from; end = end }

-- an entry without sub-TLVs
pub bare_extent : (value : List ℕ) (at prefix_end : ℕ) → AreOctets value → PrefixEnds value at prefix_end → prefix_end ≤ length value
    → bit_and (octet value (at + 4)) PREFIX_SUBS ≡ 0 → IsExtent value at (extent prefix_end prefix_end prefix_end)
bare_extent value at prefix_end small is within none =
    let entry = prefix_entry_at value at (extent prefix_end prefix_end prefix_end) in
    let front = big_bytes 4 (number value at 4) ++ octet value (at + 4) ∷ slice_range value (at + 5) prefix_end in
    let room : at + 5 ≤ prefix_end = omega arith in
    let absent : has_subs entry ≡ false = ap not (eq-eqb (bit_and (octet value (at + 4)) PREFIX_SUBS) 0 none) in
    let nothing : slice_range value prefix_end prefix_end ≡ [] = nil_from_length (slice_range value prefix_end prefix_end) (range_long value prefix_end prefix_end (omega arith) within ∙ omega arith) in
    let P : Bool → Type 0 = λ b. MatchBool b (Unit {0}) (slice_range value prefix_end prefix_end ≡ []) in
    let Q : Bool → Type 0 = λ b. drop at value ≡ (front ++ (if b then length entry.subs ∷ entry.subs else [])) ++ drop prefix_end value in
    record {
      prefix = room;
      subs = omega arith;
      end = omega arith;
      within = within;
      is = record {
        metric = number_fits 4 at value small;
        long = range_long value (at + 5) prefix_end room within ∙ omega (arith, is);
        none = subst P (sym absent) nothing;
      };
      text = subst Q (sym absent) (prefix_front value at prefix_end small room within ∙ ap (λ (xs : List ℕ). xs ++ drop prefix_end value) (sym (append-nil front)));
      behind = inr refl;
    }

-- an entry with sub-TLVs
pub full_extent : (value : List ℕ) (at prefix_end subs : ℕ) → AreOctets value → PrefixEnds value at prefix_end → subs ≡ octet value prefix_end
    → prefix_end + 1 + subs ≤ length value → bit_and (octet value (at + 4)) PREFIX_SUBS ≢ 0 → IsExtent value at (extent prefix_end (prefix_end + 1) (prefix_end + 1 + subs))
full_extent value at prefix_end subs small is told within some =
    let whole = extent prefix_end (prefix_end + 1) (prefix_end + 1 + subs) in
    let entry = prefix_entry_at value at whole in
    let room : at + 5 ≤ prefix_end = omega arith in
    let present : has_subs entry ≡ true = ap not (ne_eqb (bit_and (octet value (at + 4)) PREFIX_SUBS) 0 some) in
    let long : length entry.subs ≡ subs = range_long value (prefix_end + 1) (prefix_end + 1 + subs) (omega arith) within ∙ omega arith in
    let front = big_bytes 4 (number value at 4) ++ octet value (at + 4) ∷ slice_range value (at + 5) prefix_end in
    let behind : drop prefix_end value ≡ (length entry.subs ∷ entry.subs) ++ drop (prefix_end + 1 + subs) value =
    split_octet prefix_end value (omega arith) ∙ ap (λ (b : ℕ). b ∷ drop (prefix_end + 1) value) (sym told ∙ sym long)
    ∙ ap (λ (xs : List ℕ). length entry.subs ∷ xs) (drop_split value (prefix_end + 1) (prefix_end + 1 + subs) (omega arith)) in
    let P : Bool → Type 0 = λ b. MatchBool b (Unit {0}) (entry.subs ≡ []) in
    let Q : Bool → Type 0 = λ b. drop at value ≡ (front ++ (if b then length entry.subs ∷ entry.subs else [])) ++ drop (prefix_end + 1 + subs) value in
    record {
      prefix = room;
      subs = omega arith;
      end = omega arith;
      within = within;
      is = record {
        metric = number_fits 4 at value small;
        long = range_long value (at + 5) prefix_end room (omega arith) ∙ omega (arith, is);
        none = subst P (sym present) tt;
      };
      text = subst Q (sym present) (prefix_front value at prefix_end small room (omega arith) ∙ ap (λ (xs : List ℕ). front ++ xs) behind
          ∙ sym (append_assoc front (length entry.subs ∷ entry.subs) (drop (prefix_end + 1 + subs) value)));
      behind = inl refl;
    }

-- the octets that an entry at a place takes
record EntryRoom (value : List ℕ) (at prefix_end : ℕ) : Type 0 where
  pub prefix : prefix_end ≤ length value
  pub subs : bit_and (octet value (at + 4)) PREFIX_SUBS ≢ 0 → prefix_end + 1 + octet value prefix_end ≤ length value

entry_room : (value : List ℕ) (at prefix_end : ℕ) → PrefixEnds value at prefix_end → (entry : PrefixEntry) (rest : List ℕ) → IsPrefixEntry entry → drop at value ≡ prefix_text entry ++ rest
    → EntryRoom value at prefix_end
entry_room value at prefix_end place entry rest is e =
    let front = big_bytes 4 entry.metric ++ entry.control ∷ entry.prefix in
    let control : octet value (at + 4) ≡ entry.control = sym (get_or-drop at value 4 0) ∙ ap (λ (xs : List ℕ). slice_index xs 4) e in
    let whole : drop at value ≡ front ++ (subs_text entry ++ rest) = e ∙ append_assoc front (subs_text entry) rest in
    let long : length (drop at value) ≡ length front + length (subs_text entry ++ rest) = ap length whole ∙ length-append front (subs_text entry ++ rest) in
    let left : length (drop at value) ≡ length value - at = length-drop at value in
    let behind : length (subs_text entry ++ rest) ≡ length (subs_text entry) + length rest = length-append (subs_text entry) rest in
    let five : length front ≡ 5 + length entry.prefix = length-append (big_bytes 4 entry.metric) (entry.control ∷ entry.prefix) ∙ omega arith in
    let bits : length entry.prefix ≡ prefix_octets (octet value (at + 4) % 64) = is.long ∙ ap (λ (k : ℕ). prefix_octets (k % 64)) (sym control) in
    record {
      prefix = omega arith;
      subs = λ some.
          let present : has_subs entry ≡ true = ap (λ (k : ℕ). not (bit_and k PREFIX_SUBS == 0)) (sym control) ∙ ap not (ne_eqb (bit_and (octet value (at + 4)) PREFIX_SUBS) 0 some) in
          let text : subs_text entry ≡ length entry.subs ∷ entry.subs = ap (λ (b : Bool). if b then length entry.subs ∷ entry.subs else []) present in
          let more : length (subs_text entry) ≡ suc (length entry.subs) = ap length text in
          let reach : prefix_end ≡ at + length front = omega arith in
          let told : octet value prefix_end ≡ length entry.subs =
          ap (slice_index value) reach ∙ sym (get_or-drop at value (length front) 0) ∙ ap (λ (xs : List ℕ). slice_index xs (length front)) (whole ∙ ap (λ (xs : List ℕ). front ++ (xs ++ rest)) text)
          ∙ get_or-append_seam front (length entry.subs) (entry.subs ++ rest) 0 in
          omega arith;
    }

-- no entry stands where its prefix passes the end
pub no_prefix : (value : List ℕ) (at prefix_end : ℕ) → PrefixEnds value at prefix_end → length value < prefix_end → (entry : PrefixEntry) (rest : List ℕ) → IsPrefixEntry entry
    → drop at value ≡ prefix_text entry ++ rest → ⊥
no_prefix value at prefix_end place short entry rest is e = omega (arith, (entry_room value at prefix_end place entry rest is e).prefix)

-- nor where its sub-TLVs do
pub no_sub_tlvs : (value : List ℕ) (at prefix_end : ℕ) → PrefixEnds value at prefix_end → bit_and (octet value (at + 4)) PREFIX_SUBS ≢ 0 → length value < prefix_end + 1 + octet value prefix_end
    → (entry : PrefixEntry) (rest : List ℕ) → IsPrefixEntry entry → drop at value ≡ prefix_text entry ++ rest → ⊥
no_sub_tlvs value at prefix_end place some short entry rest is e = omega (arith, (entry_room value at prefix_end place entry rest is e).subs some)

-- an entry of whole sub-TLVs is the next piece
pub next_entry : (value : List ℕ) (at : ℕ) (extent : Extent) (subs : List Tlv) (own : List Part) → IsExtent value at extent → AreSubs (slice_range value extent.subs_from extent.end) subs
    → SaysOwn (prefix_entry_at value at extent) own → IsNextPiece prefix_layout SaysOwn value at extent.end own
next_entry value at extent subs own is are says =
    let entry = prefix_entry_at value at extent in
    record {
      piece = entry;
      further = omega (arith, is.prefix, is.subs, is.end);
      within = is.within;
      is = is.is;
      text = is.text;
      sound = λ k check fault. whole_subs_sound entry.subs subs are fault.0 check fault.1;
      told = says;
    }

-- one whose sub-TLVs have a fault stops the run there
pub faulty_entry : (value : List ℕ) (at : ℕ) (extent : Extent) (inside : ℕ) (check : Check) → IsExtent value at extent → SubFault (slice_range value extent.subs_from extent.end) inside check
    → StopsAt prefix_layout value at (inside + extent.subs_from) check
faulty_entry value at extent inside check is fault =
    let entry = prefix_entry_at value at extent in
    let prefix : at + 5 ≤ extent.prefix_end = is.prefix in
    let subs : extent.prefix_end ≤ extent.subs_from = is.subs in
    let end : extent.subs_from ≤ extent.end = is.end in
    let within : extent.end ≤ length value = is.within in
    let long : length entry.prefix ≡ extent.prefix_end - (at + 5) = range_long value (at + 5) extent.prefix_end prefix (omega arith) in
    elim is.behind [
      | inl next ↦ inr (
        6 + length entry.prefix + inside,
        record { piece = entry; rest = drop extent.end value; is = is.is; text = is.text; fault = (inside, fault, refl) },
        omega (arith, next),
      )
      | inr none ↦ (let empty : length entry.subs ≡ 0 = range_long value extent.subs_from extent.end end within ∙ omega (arith, none) in
          absurd (whole_subs_sound entry.subs [] (are_subs entry.subs [] (nil_from_length entry.subs empty)) inside check fault))
    ]

-- for writing: the octets of a value before its sub-TLVs
abbrev front_of : Prefix → List ℕ
front_of prefix = big_bytes 4 prefix.metric ++ control_octet prefix ∷ take (prefix_octets prefix.length) (big_bytes 4 prefix.prefix)

-- the value is these, and then its sub-TLVs
value_pieces : (prefix : Prefix) → FitsPrefix prefix → prefix_value prefix ≡ front_of prefix ++ counted_subs prefix
value_pieces prefix fits =
    ap (λ (b : Bool). front_of prefix ++ (if b then length (prefix_subs prefix) ∷ prefix_subs prefix else [])) (subs_bit prefix.down (is_some_list prefix.sids) prefix.length fits.bits)

-- how many octets it has
pub length_prefix : (prefix : Prefix) → FitsPrefix prefix → length (prefix_value prefix) ≡ 5 + prefix_octets prefix.length + length (counted_subs prefix)
length_prefix prefix fits =
    let bits : prefix.length ≤ 32 = fits.bits in
    let address : length (take (prefix_octets prefix.length) (big_bytes 4 prefix.prefix)) ≡ prefix_octets prefix.length =
    length-take-le (prefix_octets prefix.length) (big_bytes 4 prefix.prefix) (omega arith) in
    let front : length (front_of prefix) ≡ 5 + prefix_octets prefix.length = omega arith in
    ap length (value_pieces prefix fits) ∙ length-append (front_of prefix) (counted_subs prefix) ∙ ap (λ (k : ℕ). k + length (counted_subs prefix)) front

-- the TLV, written in three pieces, each behind the others
pub written : (prefix : Prefix) (octets : ℕ) (old one two three : List ℕ) → FitsPrefix prefix → octets ≡ length (prefix_value prefix)
    → one ≡ old ++ (EXTENDED_PREFIX ∷ octets ∷ big_bytes 4 prefix.metric ++ control_octet prefix ∷ []) → two ≡ one ++ take (prefix_octets prefix.length) (big_bytes 4 prefix.prefix)
    → three ≡ two ++ counted_subs prefix → three ≡ old ++ kind_text prefix_kind prefix
written prefix octets old one two three fits long first second third =
    let A : List ℕ = EXTENDED_PREFIX ∷ octets ∷ big_bytes 4 prefix.metric ++ control_octet prefix ∷ [] in
    let B : List ℕ = take (prefix_octets prefix.length) (big_bytes 4 prefix.prefix) in
    let C : List ℕ = counted_subs prefix in
    let front : two ≡ old ++ (A ++ B) = second ∙ ap (λ (xs : List ℕ). xs ++ B) first ∙ append_assoc old A B in
    third ∙ ap (λ (xs : List ℕ). xs ++ C) front ∙ append_assoc old (A ++ B) C
    ∙ ap (λ (v : List ℕ). old ++ (EXTENDED_PREFIX ∷ octets ∷ v)) (sym (value_pieces prefix fits))
    ∙ ap (λ (k : ℕ). old ++ (EXTENDED_PREFIX ∷ k ∷ prefix_value prefix)) long
