-- The laws of SR-Capabilities.
use Rattle.std.proofs.Common.{◌≡◌, ◌≢◌, ℕ, suc, ◌+◌, ◌-◌, ◌*◌, ◌%◌, ◌^◌, ◌<◌, ◌≤◌, List, [], ◌∷◌, ◌++◌, length, take, drop, slice_index, refl, sym, ap, ◌∙◌, subst, arith, append_assoc, length-append, length-drop}
use Rattle.std.proofs.Math.ListN.{drop_of_length-le}
use Rattle.std.proofs.Math.Nat.{mod-eq_of_lt, mod-lt}
use Rattle.std.specs.List.{flat_map, AllByRecursion}
use Rattle.std.proofs.lemmas.List.{append-nil, drop-drop, drop-take, get_or-drop, get_or-take, length-take}
use Rattle.std.proofs.lemmas.List.Elements.{All-from_recursion, recursion_from_All}
use Rattle.sr_wire.specs.declared.registry.TheConstants.{SID_LABEL}
use Rattle.byteorder.specs.Endian.{big_bytes, big_number}
use Rattle.byteorder.specs.Numbers.{big_from-take, big_number-reads_back}
use Rattle.sr_model.specs.declared.label.Range.{Range}
use Rattle.sr_subtlv.specs.declared.sr_cap.SrCap.{SrCap}
use Rattle.sr_wire.specs.Octets.{number}
use Rattle.sr_subtlv.specs.SrCap.{AreRanges, FitsRange, FitsSrCap, IsRange, IsSrCap, range_text, sr_cap_sub, sr_cap_value}
use Rattle.sr_wire.proofs.Bytes.{number_fits}
use Rattle.sr_wire.proofs.FieldLaws.{SubLaws}
use Rattle.sr_wire.proofs.OctetLemmas.{AreOctets, octets_back, octets_drop, octets_same, octets_take}

-- a range by its fields
abbrev pub range_of : ℕ → ℕ → Range
range_of first size = record { first = first; size = size }

-- octets are one range
pub range_one : (octets : List ℕ) (r q : Range) → IsRange octets r → IsRange octets q → r ≡ q
range_one octets r q a b =
    let sizes : r.size ≡ q.size = a.size ∙ sym b.size in
    let firsts : r.first ≡ q.first = a.first ∙ sym b.first in
    ap (λ (f : ℕ). range_of f r.size) firsts ∙ ap (range_of q.first) sizes

-- a range isn't less than eight octets
pub no_short_range : (octets : List ℕ) (r : Range) → IsRange (take 8 octets) r → 8 ≤ length octets
no_short_range octets r is = omega (arith, is.long, length-take 8 octets)

-- octets are one list of ranges
pub same_ranges : (octets : List ℕ) (xs ys : List Range) → AreRanges octets xs → AreRanges octets ys → xs ≡ ys
same_ranges octets [] [] a b = refl
same_ranges octets [] (y ∷ ys) a b = absurd (let long : 8 ≤ length octets = no_short_range octets y b.0 in let none : length octets ≡ 0 = ap length a in omega arith)
same_ranges octets (x ∷ xs) [] a b = absurd (let long : 8 ≤ length octets = no_short_range octets x a.0 in let none : length octets ≡ 0 = ap length b in omega arith)
same_ranges octets (x ∷ xs) (y ∷ ys) a b =
    ap (λ (r : Range). r ∷ xs) (range_one (take 8 octets) x y a.0 b.0) ∙ ap (λ (rs : List Range). y ∷ rs) (same_ranges (drop 8 octets) xs ys a.1 b.1)

-- the ranges before a place, where what is left decides the whole
pub record RangesSoFar (octets : List ℕ) (at : ℕ) (ranges : List Range) : Type 0 where
  pub within : at ≤ length octets
  pub grows : (tail : List Range) → AreRanges (drop at octets) tail → AreRanges octets (ranges ++ tail)
  pub only : (all : List Range) → AreRanges octets all → (tail : List Range) × (all ≡ ranges ++ tail) × AreRanges (drop at octets) tail

-- where a range stands next, it is the first of what is left
first_left : (octets : List ℕ) (at : ℕ) (ranges all tail : List Range) (r : Range) → all ≡ ranges ++ tail → at + 8 ≤ length octets → IsRange (take 8 (drop at octets)) r
    → AreRanges (drop at octets) tail → (more : List Range) × (all ≡ (ranges ++ r ∷ []) ++ more) × AreRanges (drop (at + 8) octets) more
first_left octets at ranges all [] r is room range left = absurd (let none : length (drop at octets) ≡ 0 = ap length left in omega (arith, length-drop at octets))
first_left octets at ranges all (q ∷ qs) r is room range left =
    let same : q ≡ r = range_one (take 8 (drop at octets)) q r left.0 range in
    let P : List ℕ → Type 0 = λ xs. AreRanges xs qs in
    (qs, is ∙ ap (λ (x : Range). ranges ++ x ∷ qs) same ∙ sym (append_assoc ranges (r ∷ []) qs), subst P (drop-drop 8 at octets) left.1)

-- one range more
pub one_range : (octets : List ℕ) (at : ℕ) (ranges : List Range) (r : Range) → RangesSoFar octets at ranges → at + 8 ≤ length octets → IsRange (take 8 (drop at octets)) r
    → RangesSoFar octets (at + 8) (ranges ++ r ∷ [])
one_range octets at ranges r s room range = record {
  within = room;
  grows = λ tail h.
      let P : List ℕ → Type 0 = λ xs. AreRanges xs tail in
      let Q : List Range → Type 0 = λ rs. AreRanges octets rs in
      subst Q (sym (append_assoc ranges (r ∷ []) tail)) (s.grows (r ∷ tail) (range, subst P (sym (drop-drop 8 at octets)) h));
  only = λ all h.
      let found = s.only all h in
      first_left octets at ranges all found.0 r found.1 room range found.2;
}

-- octets where no range stands next are no ranges
none_left : (octets : List ℕ) (at : ℕ) (tail : List Range) → at < length octets → ((r : Range) → IsRange (take 8 (drop at octets)) r → ⊥) → AreRanges (drop at octets) tail → ⊥
none_left octets at [] more none left = absurd (let long : length (drop at octets) ≡ 0 = ap length left in omega (arith, length-drop at octets))
none_left octets at (q ∷ qs) more none left = none q left.0

-- where no range stands next, the octets aren't ranges
pub not_ranges : (octets : List ℕ) (at : ℕ) (ranges : List Range) → RangesSoFar octets at ranges → at < length octets → ((r : Range) → IsRange (take 8 (drop at octets)) r → ⊥)
    → (all : List Range) → AreRanges octets all → ⊥
not_ranges octets at ranges s more none all h = let found = s.only all h in none_left octets at found.0 more none found.2

-- at the end all octets are ranges
pub all_ranges : (octets : List ℕ) (at : ℕ) (ranges : List Range) → RangesSoFar octets at ranges → length octets ≤ at → AreRanges octets ranges
all_ranges octets at ranges s end =
    let P : List Range → Type 0 = λ rs. AreRanges octets rs in
    subst P (append-nil ranges) (s.grows [] (drop_of_length-le octets end))

-- what is written of a range is that range
pub range_again : (r : Range) → FitsRange r → IsRange (range_text r) r
range_again r fits = record {
  long = refl;
  kind = refl;
  three = refl;
  size = sym (big_number-reads_back 3 r.size (SID_LABEL ∷ 3 ∷ big_bytes 3 r.first) fits.size);
  first =
      let wide : r.first < 256 ^ 3 = omega (arith, fits.first) in
      sym (mod-eq_of_lt fits.first) ∙ ap (λ (k : ℕ). k % 2 ^ 20) (sym (big_number-reads_back 3 r.first [] wide));
}

-- what is written of ranges is those ranges
ranges_again : (rs : List Range) → AllByRecursion FitsRange rs → AreRanges (flat_map range_text rs) rs
ranges_again [] fits = refl
ranges_again (r ∷ rs) fits = (range_again r fits.0, ranges_again rs fits.1)

-- SR-Capabilities by their fields
abbrev pub sr_cap_of : ℕ → List Range → SrCap
sr_cap_of flags ranges = record { flags = flags; ranges = ranges }

-- what is written of SR-Capabilities is those
pub sr_cap_again : (given : SrCap) → FitsSrCap given → IsSrCap (sr_cap_value given) given
sr_cap_again given fits = record {
  octets = flat_map range_text given.ranges;
  text = refl;
  ranges = ranges_again given.ranges (recursion_from_All FitsRange given.ranges fits.each);
  some = fits.some;
}

-- a value is one SR-Capabilities
pub same_sr_cap : (value : List ℕ) (x y : SrCap) → IsSrCap value x → IsSrCap value y → x ≡ y
same_sr_cap value x y a b =
    let texts : x.flags ∷ a.octets ≡ y.flags ∷ b.octets = sym a.text ∙ b.text in
    let flags : x.flags ≡ y.flags = cc in
    let octets : a.octets ≡ b.octets = cc in
    let P : List ℕ → Type 0 = λ xs. AreRanges xs x.ranges in
    let ranges : x.ranges ≡ y.ranges = same_ranges b.octets x.ranges y.ranges (subst P octets a.ranges) b.ranges in
    ap (λ (k : ℕ). sr_cap_of k x.ranges) flags ∙ ap (sr_cap_of y.flags) ranges

-- what is written is read as those alone
pub sr_cap_alone : (given read : SrCap) → FitsSrCap given → (IsSrCap (sr_cap_value given) read → read ≡ given) × (read ≡ given → IsSrCap (sr_cap_value given) read)
sr_cap_alone given read fits = (
  λ is. same_sr_cap (sr_cap_value given) read given is (sr_cap_again given fits),
  λ same. let P : SrCap → Type 0 = λ cap. IsSrCap (sr_cap_value given) cap in subst P (sym same) (sr_cap_again given fits),
)

-- eight octets each
pub length_ranges : (rs : List Range) → length (flat_map range_text rs) ≡ 8 * length rs
length_ranges [] = refl
length_ranges (r ∷ rs) =
    let one : length (flat_map range_text (r ∷ rs)) ≡ 8 + length (flat_map range_text rs) = length-append (range_text r) (flat_map range_text rs) in
    let rest : length (flat_map range_text rs) ≡ 8 * length rs = length_ranges rs in
    omega arith

-- an octet of the eight that stand at a place
pub octet_of_eight : (octets : List ℕ) (at k : ℕ) → k < 8 → slice_index (take 8 (drop at octets)) k ≡ slice_index octets (at + k)
octet_of_eight octets at k h = get_or-take 8 (drop at octets) k 0 h ∙ get_or-drop at octets k 0

-- a number of the eight
pub number_of_eight : (octets : List ℕ) (at k n : ℕ) → k + n ≤ 8 → number (take 8 (drop at octets)) k n ≡ number octets (at + k) n
number_of_eight octets at k n h =
    let parts : k + (8 - k) ≡ 8 = omega arith in
    let front : drop k (take 8 (drop at octets)) ≡ take (8 - k) (drop k (drop at octets)) =
    ap (λ (m : ℕ). drop k (take m (drop at octets))) (sym parts) ∙ drop-take k (8 - k) (drop at octets) in
    ap (big_number n) front ∙ big_from-take 0 n (8 - k) (drop k (drop at octets)) (omega arith) ∙ ap (big_number n) (drop-drop k at octets)

-- the range that stands at a place
pub range_at : (octets : List ℕ) (at : ℕ) → at + 8 ≤ length octets → slice_index octets (at + 3) ≡ SID_LABEL → slice_index octets (at + 4) ≡ 3
    → IsRange (take 8 (drop at octets)) (range_of (number octets (at + 5) 3 % 2 ^ 20) (number octets at 3))
range_at octets at room kind three =
    let here : at + 0 ≡ at = omega arith in
    record {
      long = omega (arith, length-take 8 (drop at octets), length-drop at octets);
      kind = octet_of_eight octets at 3 (omega arith) ∙ kind;
      three = octet_of_eight octets at 4 (omega arith) ∙ three;
      size = sym (number_of_eight octets at 0 3 (omega arith) ∙ ap (λ (k : ℕ). number octets k 3) here);
      first = ap (λ (n : ℕ). n % 2 ^ 20) (sym (number_of_eight octets at 5 3 (omega arith)));
    }

-- one or more ranges have eight octets at least
some_range : (octets : List ℕ) (rs : List Range) → AreRanges octets rs → rs ≢ [] → 8 ≤ length octets
some_range octets [] are some = absurd (some refl)
some_range octets (r ∷ rs) are some = no_short_range octets r are.0

-- a value too short for flags and a range
pub no_short_sr_cap : (value : List ℕ) (cap : SrCap) → IsSrCap value cap → 9 ≤ length value
no_short_sr_cap value cap is =
    let long : length value ≡ length (cap.flags ∷ is.octets) = ap length is.text in
    let more : length (cap.flags ∷ is.octets) ≡ suc (length is.octets) = refl in
    let ranges : 8 ≤ length is.octets = some_range is.octets cap.ranges is.ranges is.some in
    omega arith

-- label ranges of octets fit
ranges_fit : (octets : List ℕ) (ranges : List Range) → AreOctets octets → AreRanges octets ranges → AllByRecursion FitsRange ranges
ranges_fit octets [] small are = tt
ranges_fit octets (r ∷ rs) small are = (
  record {
    size = omega (arith, are.0.size, number_fits 3 0 (take 8 octets) (octets_take 8 octets small));
    first = let low : number (take 8 octets) 5 3 % 2 ^ 20 < 2 ^ 20 = mod-lt (number (take 8 octets) 5 3) (omega arith) in omega (arith, are.0.first);
  },
  ranges_fit (drop 8 octets) rs (octets_drop 8 octets small) are.1,
)

-- SR-Capabilities of octets fit
sr_cap_fits : (value : List ℕ) (cap : SrCap) → AreOctets value → IsSrCap value cap → FitsSrCap cap
sr_cap_fits value cap small is = record {
  some = is.some;
  each =
      let behind : AreOctets is.octets = octets_back (cap.flags ∷ []) is.octets (octets_same value (cap.flags ∷ is.octets) is.text small) in
      All-from_recursion FitsRange cap.ranges (ranges_fit is.octets cap.ranges behind is.ranges);
}

-- the laws of the kind
pub sr_cap_laws : SubLaws sr_cap_sub
sr_cap_laws = record { one = same_sr_cap; again = λ cap fits widths. sr_cap_again cap fits; fit = sr_cap_fits }
