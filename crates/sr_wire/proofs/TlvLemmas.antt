-- The encoding of a TLV at a place of a run.
use Rattle.std.proofs.Common.{◌≡◌, ℕ, suc, ◌+◌, ◌-◌, ◌≤◌, List, [], ◌∷◌, ◌++◌, length, get_or, take, drop, sym, ap, ◌∙◌, arith, length-drop, drop-cons}
use Rattle.std.proofs.lemmas.List.Folds.{drop_split}
use Rattle.std.proofs.lemmas.List.{length-take-le}
use Rattle.std.proofs.Math.Seq.{take-append_seam, drop-append_seam}
use Rattle.std.specs.List.{slice_range}
use Rattle.std.specs.List.{AllByRecursion}
use Rattle.sr_wire.specs.declared.place.Frame.{Frame}
use Rattle.sr_wire.specs.Tlv.{Tlv, tlv_text, framed, IsFrame}
use Rattle.sr_wire.proofs.Codes.{IsCode}

-- a range that lies in a run has as many octets as its ends are apart
pub length_range : (run : List ℕ) (from long : ℕ) → from + long ≤ length run → length (slice_range run from (from + long)) ≡ long
length_range run from long h =
    let apart : from + long - from ≡ long = omega arith in
    let fits : long ≤ length (drop from run) = omega (arith, length-drop from run) in
    rw apart (length-take-le long (drop from run) fits)

-- two octets and a value behind them
pub text_at : (run : List ℕ) (at long : ℕ) → get_or run (at + 1) 0 ≡ long → at + 2 + long ≤ length run
    → drop at run ≡ (get_or run at 0 ∷ length (slice_range run (at + 2) (at + 2 + long)) ∷ slice_range run (at + 2) (at + 2 + long)) ++ drop (at + 2 + long) run
text_at run at long is h =
    let first : drop at run ≡ get_or run at 0 ∷ drop (suc at) run = drop-cons run at 0 (omega arith) in
    let second : drop (suc at) run ≡ get_or run (suc at) 0 ∷ drop (suc (suc at)) run = drop-cons run (suc at) 0 (omega arith) in
    let next : suc at ≡ at + 1 = omega arith in
    let after : suc (suc at) ≡ at + 2 = omega arith in
    let told : get_or run (suc at) 0 ≡ length (slice_range run (at + 2) (at + 2 + long)) =
    ap (λ (k : ℕ). get_or run k 0) next ∙ is ∙ sym (length_range run (at + 2) long h) in
    let behind : drop (suc (suc at)) run ≡ slice_range run (at + 2) (at + 2 + long) ++ drop (at + 2 + long) run =
    ap (λ (k : ℕ). drop k run) after ∙ drop_split run (at + 2) (at + 2 + long) (omega arith) in
    cc

-- lists of one length that begin alike are alike
pub fronts : (xs ys more other : List ℕ) → length xs ≡ length ys → xs ++ more ≡ ys ++ other → (xs ≡ ys) × (more ≡ other)
fronts xs ys more other long e =
    let front : xs ≡ ys = sym (take-append_seam xs more) ∙ ap (take (length xs)) e ∙ ap (λ (k : ℕ). take k (ys ++ other)) long ∙ take-append_seam ys other in
    let back : more ≡ other = sym (drop-append_seam xs more) ∙ ap (drop (length xs)) e ∙ ap (λ (k : ℕ). drop k (ys ++ other)) long ∙ drop-append_seam ys other in
    (front, back)

-- each TLV has a text
abbrev pub IsAny : Tlv → Type 0
IsAny tlv = Unit {0}

-- TLVs of one type and one value are one
tlv_same : (x y : Tlv) → x.kind ≡ y.kind → x.value ≡ y.value → x ≡ y
tlv_same x y kinds values = ap (λ (k : ℕ). record { kind = k; value = x.value }) kinds ∙ ap (λ (v : List ℕ). record { kind = y.kind; value = v }) values

-- a TLV that begins a text is one, and so is the rest
tlv_one : (x y : Tlv) (a b : List ℕ) → tlv_text x ++ a ≡ tlv_text y ++ b → (x ≡ y) × (a ≡ b)
tlv_one x y a b e =
    let kinds : x.kind ≡ y.kind = cc in
    let lengths : length x.value ≡ length y.value = cc in
    let behind : x.value ++ a ≡ y.value ++ b = cc in
    let both = fronts x.value y.value a b lengths behind in
    (tlv_same x y kinds both.0, both.1)

-- no TLV's text begins another's
pub tlv_code : IsCode IsAny tlv_text
tlv_code = record { one = λ x y a b px py e. tlv_one x y a b e; some = λ x a e. absurd {0} (cc) }

-- so it is of several TLVs
pub any_tlvs : (tlvs : List Tlv) → AllByRecursion IsAny tlvs
any_tlvs [] = tt
any_tlvs (t ∷ ts) = (tt, any_tlvs ts)

-- a TLV is nowhere another one than the one that was found there
pub one_frame : (run : List ℕ) (at : ℕ) (frame : Frame) (tlv : Tlv) (rest : List ℕ) → IsFrame run at frame → drop at run ≡ tlv_text tlv ++ rest → tlv ≡ framed run frame
one_frame run at frame tlv rest found e = (tlv_code.one tlv (framed run frame) rest (drop frame.to run) tt tt (sym e ∙ found.text)).0
