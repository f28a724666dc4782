-- Octets that are written block by block, and what the whole text decodes to.
use Rattle.std.proofs.Common.{◌≡◌, ℕ, zero, suc, ◌+◌, ◌-◌, ◌*◌, ◌%◌, ◌<◌, ◌≤◌, List, [], ◌∷◌, ◌++◌, length, get_or, take, drop, Option, Some, None, Result, Ok, Err, MatchOption, is_some, Bool, true, false, refl, sym, ap, ◌∙◌, subst, inl, inr, arith}
use Rattle.std.specs.Prelude.{IsErr, MatchBool}
use Rattle.std.specs.List.{AllPass}
use Rattle.std.proofs.lemmas.Bool.{cases_lt}
use Rattle.std.proofs.lemmas.List.{append-nil, drop_all, length-drop, set-get_or, take_rest}
use borrow.Rule.Slice.PartMut.{put_mid}
use Rattle.hex.specs.declared.error.FromHexError.{FromHexError}
use Rattle.hex.specs.Hex.{decode_of, decode_pairs, digit_or_error, hex_digit_value, is_hex_digit, pair_value, ◌>>=◌}
use Rattle.hex.proofs.Pairs.{prepend, decode_start, decode_step}
use Rattle.hex.proofs.HexLemmas.{decode_of-even, decode_of-ok}
use Rattle.std.proofs.lemmas.List.Elements.{All-get_or}
use Rattle.std.proofs.lemmas.Simd.{get_or-chunk, get_or-put_chunk_at, get_or-put_chunk_below}
use lib.Lanes.{chunk, put_chunk}
use Rattle.sr_script.specs.Digits.{IsValueOf, AreValuesOf, AreDigits, AreOctetsOf}

-- two digits write the octet, the high one first
pub record WritesOctet (high low octet : ℕ) : Type 0 where
  pub upper : ℕ
  pub lower : ℕ
  pub reads_high : hex_digit_value high ≡ Some upper
  pub reads_low : hex_digit_value low ≡ Some lower
  pub sum : octet ≡ 16 * upper + lower

-- the first n octets are written
abbrev pub AreWritten : List ℕ → List ℕ → ℕ → Type 0
AreWritten text octets n = (k : ℕ) → k < n → WritesOctet (get_or text (2 * k) 0) (get_or text (2 * k + 1) 0) (get_or octets k 0)

-- a value below 16 is a digit's
read_digit : (o : Option ℕ) (value : ℕ) → MatchOption o (16 ≤ value) (λ v. v ≡ value) → value < 16 → o ≡ Some value
read_digit (Some v) value h small = ap Some h
read_digit None value h small = absurd (omega arith)

pub digit_of : (byte value : ℕ) → IsValueOf byte value → value < 16 → hex_digit_value byte ≡ Some value
digit_of byte value h small = read_digit (hex_digit_value byte) value h small

pair_of : (high low octet i : ℕ) → WritesOctet high low octet → pair_value high low i ≡ Ok octet
pair_of high low octet i w =
    let e : w.upper * 16 + w.lower ≡ octet = omega (arith, w.sum) in
    rw (w.reads_high, w.reads_low) (ap Ok e)

-- what is written is the beginning of what the text decodes to
pub front-decoded : (text octets : List ℕ) (n : ℕ) → AreWritten text octets n → 2 * n ≤ length text → n ≤ length octets
    → decode_pairs 0 text ≡ prepend (take n octets) (decode_pairs (2 * n) (drop (2 * n) text))
front-decoded text octets zero w room space = decode_start text octets
front-decoded text octets (suc n) w room space =
    let before = front-decoded text octets n (λ k h. w k (omega arith)) (omega arith) (omega arith) in
    let pair = pair_of (get_or text (2 * n) 0) (get_or text (2 * n + 1) 0) (get_or octets n 0) (2 * n) (w n (omega arith)) in
    let step = decode_step text octets n (get_or octets n 0) (omega arith) (omega arith) pair before in
    let same : n + 1 ≡ suc n = omega arith in
    let P : ℕ → Type 0 = λ m. decode_pairs 0 text ≡ prepend (take m octets) (decode_pairs (2 * m) (drop (2 * m) text)) in
    subst P same (rw (set-get_or octets n 0) at step)

-- ---- the place of the first digit matters to the error alone

-- both are decoded, to the same octets, or both are refused
abbrev SameAnswer : Result (List ℕ) FromHexError → Result (List ℕ) FromHexError → Type 0
SameAnswer (Ok a) (Ok b) = a ≡ b
SameAnswer (Err d) (Err e) = Unit {0}
SameAnswer (Ok a) (Err e) = ⊥
SameAnswer (Err d) (Ok b) = ⊥

abbrev one_pair : ℕ → ℕ → ℕ → Option ℕ → Option ℕ → Result (List ℕ) FromHexError → Result (List ℕ) FromHexError
one_pair i a b high low rest =
    (digit_or_error a i high >>= (λ h. digit_or_error b (i + 1) low >>= (λ l. Ok (h * 16 + l)))) >>= (λ byte. rest >>= (λ bytes. Ok (byte ∷ bytes)))

same_pair : (i j a b : ℕ) (high low : Option ℕ) (r q : Result (List ℕ) FromHexError) → SameAnswer r q
    → SameAnswer (one_pair i a b high low r) (one_pair j a b high low q)
same_pair i j a b None low r q h = tt
same_pair i j a b (Some x) None r q h = tt
same_pair i j a b (Some x) (Some y) (Ok r) (Ok q) h = ap (λ (t : List ℕ). (x * 16 + y) ∷ t) h
same_pair i j a b (Some x) (Some y) (Err r) (Err q) h = tt
same_pair i j a b (Some x) (Some y) (Ok r) (Err q) h = absurd h
same_pair i j a b (Some x) (Some y) (Err r) (Ok q) h = absurd h

same_elsewhere : (i j : ℕ) (text : List ℕ) → SameAnswer (decode_pairs i text) (decode_pairs j text)
unfolding decode_pairs
same_elsewhere i j [] = refl
same_elsewhere i j (a ∷ []) = tt
same_elsewhere i j (a ∷ b ∷ rest) = same_pair i j a b (hex_digit_value a) (hex_digit_value b) _ _ (same_elsewhere (i + 2) (j + 2) rest)

ok_elsewhere : (r q : Result (List ℕ) FromHexError) (bytes : List ℕ) → SameAnswer r q → r ≡ Ok bytes → q ≡ Ok bytes
ok_elsewhere (Ok a) (Ok b) bytes h e = ap Ok (sym h) ∙ e
ok_elsewhere (Ok a) (Err d) bytes h e = absurd h
ok_elsewhere (Err d) q bytes h e = cc e

err_elsewhere : (r q : Result (List ℕ) FromHexError) (front : List ℕ) → SameAnswer r q → IsErr r → IsErr (prepend front q)
err_elsewhere (Ok a) q front h refused = cc refused
err_elsewhere (Err d) (Ok b) front h refused = absurd h
err_elsewhere (Err d) (Err c) front h refused = refl

-- ---- the whole text

-- the octets written before, and those of the rest of the text
pub whole-text : (text octets rest : List ℕ) (n : ℕ) (r : Bool) → AreWritten text octets n → length text ≡ 2 * length octets → n ≤ length octets
    → MatchBool r (decode_of (take (length text - 2 * n) (drop (2 * n) text)) ≡ Ok rest) (IsErr (decode_of (take (length text - 2 * n) (drop (2 * n) text))))
    → MatchBool r (decode_of text ≡ Ok (put_mid n (length octets - n) octets rest)) (IsErr (decode_of text))
whole-text text octets rest n r w len fits answer = go r answer
  where
    even : length text % 2 ≡ 0
    even = omega arith

    left : decode_of (take (length text - 2 * n) (drop (2 * n) text)) ≡ decode_pairs 0 (drop (2 * n) text)
    left = ap decode_of (take_rest text (2 * n)) ∙ decode_of-even (drop (2 * n) text) (omega (arith, length-drop (2 * n) text))

    front : decode_of text ≡ prepend (take n octets) (decode_pairs (2 * n) (drop (2 * n) text))
    front = decode_of-even text even ∙ front-decoded text octets n w (omega arith) fits

    put : put_mid n (length octets - n) octets rest ≡ take n octets ++ rest
    put = ap (λ (l : List ℕ). take n octets ++ (rest ++ l)) (drop_all (length octets - n) (drop n octets) (omega (arith, length-drop n octets))) ∙ ap (λ (l : List ℕ). take n octets ++ l) (append-nil rest)

    go : (b : Bool) → MatchBool b (decode_of (take (length text - 2 * n) (drop (2 * n) text)) ≡ Ok rest) (IsErr (decode_of (take (length text - 2 * n) (drop (2 * n) text))))
        → MatchBool b (decode_of text ≡ Ok (put_mid n (length octets - n) octets rest)) (IsErr (decode_of text))
    go true e =
        front ∙ ap (prepend (take n octets)) (ok_elsewhere _ _ rest (same_elsewhere 0 (2 * n) (drop (2 * n) text)) (sym left ∙ e)) ∙ ap Ok (sym put)
    go false e = subst IsErr (sym front) (err_elsewhere _ _ (take n octets) (same_elsewhere 0 (2 * n) (drop (2 * n) text)) (subst IsErr left e))

-- a text with a byte that is no digit
pub no-digits : (text : List ℕ) → (AllPass is_hex_digit text → ⊥) → IsErr (decode_of text)
no-digits text bad = go (decode_of text) refl
  where
    go : (r : Result (List ℕ) FromHexError) → decode_of text ≡ r → IsErr r
    go (Ok bytes) e = absurd (bad (decode_of-ok text bytes e).1)
    go (Err error) e = refl

-- ---- a block

-- the value of a digit is below 16
digit-small : (byte value : ℕ) → hex_digit_value byte ≡ Some value → value < 16
digit-small byte value e = grind arith

known_digit : (o : Option ℕ) (value : ℕ) → is_some o ≡ true → MatchOption o (16 ≤ value) (λ v. v ≡ value) → o ≡ Some value
known_digit (Some v) value h same = ap Some same
known_digit None value h same = cc h

-- 32 bytes from an even place on, of which one is no digit
pub block-refused : (text values : List ℕ) (i : ℕ) → i + 32 ≤ length text → AreValuesOf 32 (chunk i 32 text) values
    → (AreDigits 32 values → ⊥) → IsErr (decode_of text)
block-refused text values i room shown bad =
    no-digits text (λ all. bad (λ k h.
    let at : get_or (chunk i 32 text) k 0 ≡ get_or text (i + k) 0 = get_or-chunk i 32 text k 0 h in
    let digit : is_hex_digit (get_or text (i + k) 0) ≡ true = All-get_or (λ (x : ℕ). is_hex_digit x ≡ true) text (i + k) 0 (omega arith) all in
    let value = subst (λ (b : ℕ). IsValueOf b (get_or values k 0)) at (shown.lanes k h) in
    digit-small (get_or text (i + k) 0) (get_or values k 0) (known_digit (hex_digit_value (get_or text (i + k) 0)) (get_or values k 0) digit value)))

-- the block's octet at place j
lane-written : (text values block : List ℕ) (i j : ℕ) → AreValuesOf 32 (chunk (2 * i) 32 text) values → AreDigits 32 values → AreOctetsOf 16 values block
    → j < 16 → WritesOctet (get_or text (2 * (i + j)) 0) (get_or text (2 * (i + j) + 1) 0) (get_or block j 0)
lane-written text values block i j shown digits made h =
    let high : get_or (chunk (2 * i) 32 text) (2 * j) 0 ≡ get_or text (2 * (i + j)) 0 =
    get_or-chunk (2 * i) 32 text (2 * j) 0 (omega arith) ∙ ap (λ (k : ℕ). get_or text k 0) (omega arith) in
    let low : get_or (chunk (2 * i) 32 text) (2 * j + 1) 0 ≡ get_or text (2 * (i + j) + 1) 0 =
    get_or-chunk (2 * i) 32 text (2 * j + 1) 0 (omega arith) ∙ ap (λ (k : ℕ). get_or text k 0) (omega arith) in
    record {
      upper = get_or values (2 * j) 0;
      lower = get_or values (2 * j + 1) 0;
      reads_high = ap hex_digit_value (sym high) ∙ digit_of (get_or (chunk (2 * i) 32 text) (2 * j) 0) _ (shown.lanes (2 * j) (omega arith)) (digits (2 * j) (omega arith));
      reads_low = ap hex_digit_value (sym low) ∙ digit_of (get_or (chunk (2 * i) 32 text) (2 * j + 1) 0) _ (shown.lanes (2 * j + 1) (omega arith)) (digits (2 * j + 1) (omega arith));
      sum = made.lanes j h;
    }

-- 16 octets more
pub block-written : (text octets values block : List ℕ) (b : ℕ) → AreWritten text octets (16 * b) → AreValuesOf 32 (chunk (2 * (16 * b)) 32 text) values
    → AreDigits 32 values → AreOctetsOf 16 values block → 16 * b + 16 ≤ length octets → AreWritten text (put_chunk (16 * b) octets block) (16 * (b + 1))
block-written text octets values block b before shown digits made room k h =
    elim (cases_lt k (16 * b)) [
      | inl old ↦
          let kept = get_or-put_chunk_below (16 * b) octets block k 0 old in
          rw kept (before k old)
      | inr new ↦
          let j : ℕ = k - 16 * b in
          let place : 16 * b + j ≡ k = omega arith in
          let below : j < 16 = omega arith in
          let put = get_or-put_chunk_at (16 * b) octets block j 0 (omega (arith, made.count)) (omega (arith, made.count)) in
          let P : ℕ → Type 0 = λ n. WritesOctet (get_or text (2 * n) 0) (get_or text (2 * n + 1) 0) (get_or (put_chunk (16 * b) octets block) n 0) in
          subst P place (rw put (lane-written text values block (16 * b) j shown digits made below))
    ]
