-- The small steps: lists, lines, what is held of a line, and writes.
use Rattle.std.proofs.Common.{◌≡◌, ◌≢◌, ℕ, zero, suc, ◌+◌, ◌-◌, ◌<◌, ◌≤◌, min, Bool, true, false, ◌||◌, List, [], ◌∷◌, ◌++◌, length, get_or, take, drop, refl, sym, ap, subst, ◌∙◌, arith, append-nil, take-append-drop, length-take, length-take-le, ⊎_elim, length-drop, Some, None, Err, eqb-true, eq-eqb}
use Rattle.std.specs.declared.option.Option.{Option}
use Rattle.std.specs.Io.KnownBytes.{Appends}
use Rattle.std.proofs.KnownBytes.{Appends-trans, Appends-kept}
use Rattle.sr_base.specs.declared.SinkFault.{SinkFault}
use Rattle.sr_base.specs.declared.SinkFault.TheVariants.{Failed, Memory}
use Rattle.sr_base.specs.Writing.{LeftBy, CauseOf}
use Rattle.memchr.specs.Find.{IsFirstByte, is_byte}
use Rattle.sr_engine.specs.Output.{WritesAll}
use Rattle.std.proofs.lemmas.List.{take_all, take_min, take-append-le, take_more}
use Rattle.std.proofs.Math.Seq.{take-append-add}
use Rattle.std.proofs.lemmas.Bool.{cases_lt}
use Rattle.sr_engine.specs.Lines.{IsUnbroken, AreUnbroken, head_of}

-- ---- lists

pub empty : {A : Type 0} (xs : List A) → length xs ≡ 0 → xs ≡ []
empty [] e = refl
empty (x ∷ xs) e = absurd (omega arith)

pub or_assoc : (a b c : Bool) → (a || b) || c ≡ a || (b || c)
or_assoc true b c = refl
or_assoc false b c = refl

pub or_false : (a : Bool) → a || false ≡ a
or_false true = refl
or_false false = refl

pub take_further : (xs : List ℕ) (a b : ℕ) → a ≤ length xs → take (a + b) xs ≡ take a xs ++ take b (drop a xs)
take_further xs a b within =
    let long : length (take a xs) ≡ a = length-take-le a xs within in
    ap (take (a + b)) (sym (take-append-drop a xs))
    ∙ ap (λ n. take (n + b) (take a xs ++ drop a xs)) (sym long)
    ∙ take-append-add (take a xs) (drop a xs) b

-- the first n elements of a list and more, where the first n of the list are held and some of more are added
pub take_grown : (n : ℕ) (rest more : List ℕ) (count : ℕ) → count ≡ min (n - length (take n rest)) (length more)
    → take n rest ++ take count more ≡ take n (rest ++ more)
take_grown n rest more count is =
    ⊎_elim {A = n < length rest} {B = length rest ≤ n}
    (λ h.
    let long : length (take n rest) ≡ n = length-take-le n rest (omega arith) in
    let none : count ≡ 0 = omega (arith, is, long) in
    ap (λ k. take n rest ++ take k more) none ∙ append-nil (take n rest) ∙ sym (take-append-le n rest more (omega arith)))
    (λ h.
    let whole : take n rest ≡ rest = take_all n rest h in
    let short : length (take n rest) ≡ length rest = ap length whole in
    let count_is : count ≡ min (n - length rest) (length more) = omega (arith, is, short) in
    let sum : length rest + (n - length rest) ≡ n = omega arith in
    ap (λ l. l ++ take count more) whole
    ∙ ap (λ k. rest ++ take k more) count_is
    ∙ ap (λ l. rest ++ l) (take_min (n - length rest) more)
    ∙ sym (take-append-add rest more (n - length rest))
    ∙ ap (λ k. take k (rest ++ more)) sum)
    (cases_lt n (length rest))

-- ---- lines

pub unbroken_take : (bytes : List ℕ) (count : ℕ) → ((i : ℕ) → i < count → i < length bytes → get_or bytes i 0 ≢ 10) → IsUnbroken (take count bytes)
unbroken_take bytes zero h = tt
unbroken_take [] (suc count) h = tt
unbroken_take (byte ∷ bytes) (suc count) h = (h 0 (omega arith) (omega arith), unbroken_take bytes count (λ i l m. h (suc i) (omega arith) (omega arith)))

pub unbroken_append : (a b : List ℕ) → IsUnbroken a → IsUnbroken b → IsUnbroken (a ++ b)
unbroken_append [] b p q = q
unbroken_append (x ∷ a) b p q = (p.0, unbroken_append a b p.1 q)

pub are_unbroken_append : (a b : List (List ℕ)) → AreUnbroken a → AreUnbroken b → AreUnbroken (a ++ b)
are_unbroken_append [] b p q = q
are_unbroken_append (x ∷ a) b p q = (p.0, are_unbroken_append a b p.1 q)

-- ---- what is held of a line

pub kept-more : (kept rest more : List ℕ) (count : ℕ) → kept ≡ head_of rest → count ≡ min (140001 - length kept) (length more)
    → kept ++ take count more ≡ head_of (rest ++ more)
unfolding head_of
kept-more kept rest more count is count_is =
    let long : length kept ≡ length (take 140001 rest) = ap length is in
    ap (λ l. l ++ take count more) is ∙ take_grown 140001 rest more count (omega (arith, long, count_is))

take_none : (n : ℕ) (xs : List ℕ) → [] ≡ take (suc n) xs → xs ≡ []
take_none n [] e = refl
take_none n (x ∷ xs) e = cc

pub kept-none : (kept rest : List ℕ) → kept ≡ [] → kept ≡ head_of rest → rest ≡ []
unfolding head_of
kept-none kept rest e h = take_none 140000 rest (sym e ∙ h)

pub kept-nothing : [] ≡ head_of []
unfolding head_of
kept-nothing = refl

-- ---- the next line feed

pub first-line : (bytes : List ℕ) (count : ℕ) → IsFirstByte (is_byte 10) bytes (Some count)
    → IsUnbroken (take count bytes) × (take count bytes ++ 10 ∷ [] ≡ take (count + 1) bytes) × (count < length bytes)
first-line bytes count first =
    let feed : get_or bytes count 0 ≡ 10 = eqb-true (get_or bytes count 0) 10 first.1 in
    let high : count < length bytes = first.0.high in (
      unbroken_take bytes count (λ i l m e. first.0.before i (omega arith) l (eq-eqb (get_or bytes i 0) 10 e)),
      ap (λ b. take count bytes ++ b ∷ []) (sym feed) ∙ sym (take_more bytes count 0 high),
      high,
    )

pub no-line : (bytes : List ℕ) → IsFirstByte (is_byte 10) bytes None → IsUnbroken bytes
no-line bytes none =
    subst IsUnbroken (take_all (length bytes) bytes (omega arith))
    (unbroken_take bytes (length bytes) (λ i l m e. none i (omega arith) m (eq-eqb (get_or bytes i 0) 10 e)))

-- ---- writing

pub sent-more : (a b c : Option (List ℕ)) (text : List ℕ) (at count rest : ℕ) → at ≤ length text → rest ≡ length text - at → count ≤ length (take rest (drop at text))
    → Appends a b (take at text) → Appends b c (take count (take rest (drop at text))) → Appends a c (take (at + count) text)
sent-more a b c text at count rest within is few p q =
    let all : take rest (drop at text) ≡ drop at text = take_all rest (drop at text) (omega (arith, length-drop at text)) in
    let q1 = subst (λ l. Appends b c (take count l)) all q in
    subst (Appends a c) (sym (take_further text at count within)) (Appends-trans a b c (take at text) (take count (drop at text)) p q1)

pub sent-within : (text : List ℕ) (at count rest : ℕ) → at ≤ length text → rest ≡ length text - at → count ≤ length (take rest (drop at text)) → at + count ≤ length text
sent-within text at count rest within is few = omega (arith, few, length-take rest (drop at text), length-drop at text)

pub sent-failed : (a b c : Option (List ℕ)) (before now : ℕ) (text : List ℕ) (at rest : ℕ) (fault : SinkFault) → at ≤ length text → rest ≡ length text - at
    → Appends a b (take at text) → LeftBy b c (take rest (drop at text)) fault → CauseOf before now fault
    → WritesAll a c before now text (Err fault)
sent-failed a b c before now text at rest Failed within is p q cause = record {
  bytes = (at + q.0, sent-within text at q.0 rest within is q.1, sent-more a b c text at q.0 rest within is q.1 p q.2);
  cause = cause;
}
sent-failed a b c before now text at rest (Memory e) within is p q cause = record {
  bytes = (at, within, Appends-kept a b c (take at text) p q);
  cause = cause;
}
