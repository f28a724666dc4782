-- The laws of maximum SID depths.
use Rattle.std.proofs.Common.{◌≡◌, ◌≤◌, ℕ, ◌+◌, ◌*◌, List, [], ◌∷◌, ◌++◌, length, drop, slice_index, refl, sym, ap, ◌∙◌, arith, append_assoc}
use Rattle.std.proofs.lemmas.List.{flat_map_more}
use Rattle.std.specs.List.{flat_map, AllByRecursion}
use Rattle.sr_subtlv.specs.declared.msd.Msd.{Msd}
use Rattle.sr_subtlv.specs.Msd.{msd_value, msds_sub}
use Rattle.sr_wire.proofs.Bytes.{split_octet}
use Rattle.sr_wire.proofs.Codes.{IsCode, same_pieces}
use Rattle.sr_wire.proofs.FieldLaws.{SubLaws}

-- each depth has a spelling
abbrev pub IsAnyMsd : Msd → Type 0
IsAnyMsd msd = Unit {0}

-- depths of one type and one value are one
msd_same : (x y : Msd) → x.kind ≡ y.kind → x.value ≡ y.value → x ≡ y
msd_same x y kinds values = ap (λ (k : ℕ). record { kind = k; value = x.value }) kinds ∙ ap (λ (v : ℕ). record { kind = y.kind; value = v }) values

-- a depth that begins a text is one, and so is the rest
msd_one : (x y : Msd) (a b : List ℕ) → msd_value x ++ a ≡ msd_value y ++ b → (x ≡ y) × (a ≡ b)
msd_one x y a b e =
    let kinds : x.kind ≡ y.kind = cc in
    let values : x.value ≡ y.value = cc in
    let rest : a ≡ b = cc in
    (msd_same x y kinds values, rest)

-- no depth's octets begin another's
pub msd_code : IsCode IsAnyMsd msd_value
msd_code = record { one = λ x y a b px py e. msd_one x y a b e; some = λ x a e. absurd {0} (cc) }

-- so it is of several depths
any_msds : (msds : List Msd) → AllByRecursion IsAnyMsd msds
any_msds [] = tt
any_msds (m ∷ ms) = (tt, any_msds ms)

-- octets are one list of depths
pub same_msds : (x y : List Msd) → flat_map msd_value x ≡ flat_map msd_value y → x ≡ y
same_msds x y e = same_pieces IsAnyMsd msd_value msd_code x y (any_msds x) (any_msds y) e

-- two octets each
pub length_msds : (msds : List Msd) → length (flat_map msd_value msds) ≡ 2 * length msds
length_msds [] = refl
length_msds (m ∷ ms) = let e : length (flat_map msd_value ms) ≡ 2 * length ms = length_msds ms in omega arith

-- one depth more
pub msds_more : (value : List ℕ) (msds : List Msd) (at : ℕ) → at + 2 ≤ length value → value ≡ flat_map msd_value msds ++ drop at value
    → value ≡ flat_map msd_value (msds ++ record { kind = slice_index value at; value = slice_index value (at + 1) } ∷ []) ++ drop (at + 2) value
msds_more value msds at h text =
    let next : at + 1 + 1 ≡ at + 2 = omega arith in
    let msd : Msd = record { kind = slice_index value at; value = slice_index value (at + 1) } in
    let first : drop at value ≡ slice_index value at ∷ drop (at + 1) value = split_octet at value (omega arith) in
    let second : drop (at + 1) value ≡ slice_index value (at + 1) ∷ drop (at + 2) value =
    split_octet (at + 1) value (omega arith) ∙ ap (λ (k : ℕ). slice_index value (at + 1) ∷ drop k value) next in
    let both : drop at value ≡ msd_value msd ++ drop (at + 2) value = first ∙ ap (λ (xs : List ℕ). slice_index value at ∷ xs) second in
    text ∙ ap (λ (xs : List ℕ). flat_map msd_value msds ++ xs) both
    ∙ sym (append_assoc (flat_map msd_value msds) (msd_value msd) (drop (at + 2) value))
    ∙ ap (λ (xs : List ℕ). xs ++ drop (at + 2) value) (flat_map_more msd_value [] msds msd)

-- the laws of the kind
pub msds_laws : SubLaws msds_sub
msds_laws = record { one = λ octets x y a b. same_msds x y (sym a ∙ b); again = λ msds fits widths. refl; fit = λ octets msds small are. tt }
