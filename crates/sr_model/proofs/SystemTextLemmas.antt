-- The text that is written for a system id is read as that id.
use Rattle.std.proofs.Common.{◌≡◌, ℕ, ◌+◌, ◌*◌, ◌/◌, ◌%◌, ◌<◌, ◌^◌, List, refl, arith, ap, sym, ◌∙◌, Some}
use Rattle.std.specs.Char.{digit_value, digit_char}
use Rattle.std.proofs.Math.Nat.{div-div-eq-div-mul}
use Rattle.std.proofs.lemmas.Str.{digit_value-digit_char}
use Rattle.std.proofs.lemmas.Bool.{lt-ltb}
use Rattle.sr_model.specs.SystemText.{system_text, system_read, digit_at, group_read}

-- a written digit is worth what it was written for
digit-written : (n : ℕ) → digit_value (digit_char (n % 16)) ≡ n % 16
digit-written n = digit_value-digit_char (n % 16) (omega arith)

four_digits : (v : ℕ) → ((v / 4096 % 16 * 16 + v / 256 % 16) * 16 + v / 16 % 16) * 16 + v % 16 ≡ v % 65536
four_digits v = omega arith

group_read-digits : (text : List ℕ) (i a b c d : ℕ) → digit_at text i ≡ a → digit_at text (i + 1) ≡ b → digit_at text (i + 2) ≡ c → digit_at text (i + 3) ≡ d → a < 16 → b < 16 → c < 16 → d < 16 → group_read text i ≡ Some (((a * 16 + b) * 16 + c) * 16 + d)
unfolding group_read
group_read-digits text i a b c d ea eb ec ed la lb lc ld = rw (ea, eb, ec, ed, lt-ltb a 16 la, lt-ltb b 16 lb, lt-ltb c 16 lc, lt-ltb d 16 ld) refl

-- the four digits of v are read as v
group_read-written : (text : List ℕ) (i v a b c : ℕ) → v / 4096 ≡ a → v / 256 ≡ b → v / 16 ≡ c → digit_at text i ≡ digit_value (digit_char (a % 16)) → digit_at text (i + 1) ≡ digit_value (digit_char (b % 16)) → digit_at text (i + 2) ≡ digit_value (digit_char (c % 16)) → digit_at text (i + 3) ≡ digit_value (digit_char (v % 16)) → group_read text i ≡ Some (v % 65536)
group_read-written text i v a b c is_a is_b is_c first second third last =
    group_read-digits text i (v / 4096 % 16) (v / 256 % 16) (v / 16 % 16) (v % 16)
    (first ∙ digit-written a ∙ ap (λ k. k % 16) (sym is_a))
    (second ∙ digit-written b ∙ ap (λ k. k % 16) (sym is_b))
    (third ∙ digit-written c ∙ ap (λ k. k % 16) (sym is_c))
    (last ∙ digit-written v)
    (omega arith) (omega arith) (omega arith) (omega arith)
    ∙ ap Some (four_digits v)

three_groups : (n : ℕ) → n < 2 ^ 48 → n / 2 ^ 32 % 65536 * 2 ^ 32 + n / 2 ^ 16 % 65536 * 2 ^ 16 + n % 65536 ≡ n
three_groups n small = omega arith

pub written_is_read : (n : ℕ) → n < 2 ^ 48 → system_read (system_text n) ≡ Some n
written_is_read n small =
    let high : group_read (system_text n) 0 ≡ Some (n / 2 ^ 32 % 65536) = group_read-written (system_text n) 0 (n / 2 ^ 32) (n / 2 ^ 44) (n / 2 ^ 40) (n / 2 ^ 36) (div-div-eq-div-mul n (2 ^ 32) 4096) (div-div-eq-div-mul n (2 ^ 32) 256) (div-div-eq-div-mul n (2 ^ 32) 16) refl refl refl refl in
    let middle : group_read (system_text n) 5 ≡ Some (n / 2 ^ 16 % 65536) = group_read-written (system_text n) 5 (n / 2 ^ 16) (n / 2 ^ 28) (n / 2 ^ 24) (n / 2 ^ 20) (div-div-eq-div-mul n (2 ^ 16) 4096) (div-div-eq-div-mul n (2 ^ 16) 256) (div-div-eq-div-mul n (2 ^ 16) 16) refl refl refl refl in
    let low : group_read (system_text n) 10 ≡ Some (n / 1 % 65536) = group_read-written (system_text n) 10 (n / 1) (n / 2 ^ 12) (n / 2 ^ 8) (n / 2 ^ 4) (div-div-eq-div-mul n 1 4096) (div-div-eq-div-mul n 1 256) (div-div-eq-div-mul n 1 16) refl refl refl refl in
    rw (high, middle, low) (ap Some (omega (arith, three_groups n small)))
