-- A number that is read from octets has these octets.
use Rattle.std.proofs.Common.{◌≡◌, ℕ, zero, suc, ◌+◌, ◌*◌, ◌/◌, ◌%◌, ◌^◌, ◌<◌, ◌≤◌, List, ◌∷◌, ◌++◌, length, take, drop, slice_index, refl, sym, ap, ◌∙◌, arith, length-drop, drop-cons}
use Rattle.std.proofs.Math.Nat.{div-one, div-eq_of_lt, mul_assoc, mul-add-div_right, mul-add-mod_self_right, mod-eq_of_lt, one-le-pow, pow-suc}
use Rattle.std.proofs.lemmas.List.{drop-drop, get_or-drop, take-append-drop}
use Rattle.std.proofs.lemmas.Nat.{pow-add}
use Rattle.std.specs.Int.{byte_at, bytes_high_first}
use Rattle.byteorder.specs.Endian.{big_from, big_number, big_bytes}
use Rattle.byteorder.specs.Numbers.{big_from-lt}

-- a byte of a number, by its place
byte_at-pow : (k x : ℕ) → byte_at k x ≡ x / 256 ^ k % 256
byte_at-pow zero x = ap (λ (y : ℕ). y % 256) (sym (div-one x))
byte_at-pow (suc k) x = refl

-- a power of 256 is above 0
pow_above : (n : ℕ) → zero < 256 ^ n
pow_above n = let h = one-le-pow n 256 (omega arith) in omega arith

-- what stands above the n lowest bytes changes none of them
byte_below : (k m x r : ℕ) → byte_at k (x * 256 ^ suc (k + m) + r) ≡ byte_at k r
byte_below k m x r =
    let exponent : suc (k + m) ≡ suc m + k = omega arith in
    let power : 256 ^ suc (k + m) ≡ (256 ^ m * 256) * 256 ^ k = ap (λ (j : ℕ). 256 ^ j) exponent ∙ pow-add 256 (suc m) k ∙ ap (λ (p : ℕ). p * 256 ^ k) (pow-suc 256 m) in
    let whole : x * 256 ^ suc (k + m) ≡ (x * 256 ^ m * 256) * 256 ^ k = ap (λ (p : ℕ). x * p) power ∙ sym (mul_assoc x (256 ^ m * 256) (256 ^ k)) ∙ ap (λ (p : ℕ). p * 256 ^ k) (sym (mul_assoc x (256 ^ m) 256)) in
    byte_at-pow k (x * 256 ^ suc (k + m) + r)
    ∙ ap (λ (y : ℕ). (y + r) / 256 ^ k % 256) whole
    ∙ ap (λ (y : ℕ). y % 256) (mul-add-div_right (pow_above k) (x * 256 ^ m * 256) r)
    ∙ mul-add-mod_self_right (x * 256 ^ m) 256 (r / 256 ^ k)
    ∙ sym (byte_at-pow k r)

-- nor any of all of them
bytes_below : (k m x r : ℕ) → bytes_high_first k (x * 256 ^ (k + m) + r) ≡ bytes_high_first k r
bytes_below zero m x r = refl
bytes_below (suc k) m x r =
    let exponent : suc k + m ≡ suc (k + m) = omega arith in
    let shifted : suc k + m ≡ k + suc m = omega arith in
    let first : byte_at k (x * 256 ^ (suc k + m) + r) ≡ byte_at k r = ap (λ (j : ℕ). byte_at k (x * 256 ^ j + r)) exponent ∙ byte_below k m x r in
    let rest : bytes_high_first k (x * 256 ^ (suc k + m) + r) ≡ bytes_high_first k r = ap (λ (j : ℕ). bytes_high_first k (x * 256 ^ j + r)) shifted ∙ bytes_below k (suc m) x r in
    ap (λ (b : ℕ). b ∷ bytes_high_first k (x * 256 ^ (suc k + m) + r)) first ∙ ap (λ (bs : List ℕ). byte_at k r ∷ bs) rest

-- the highest byte
byte_top : (n x r : ℕ) → x < 256 → r < 256 ^ n → byte_at n (x * 256 ^ n + r) ≡ x
byte_top n x r hx hr =
    byte_at-pow n (x * 256 ^ n + r)
    ∙ ap (λ (y : ℕ). y % 256) (mul-add-div_right (pow_above n) x r)
    ∙ ap (λ (y : ℕ). (x + y) % 256) (div-eq_of_lt hr)
    ∙ ap (λ (y : ℕ). y % 256) (omega arith)
    ∙ mod-eq_of_lt hx

-- the bytes of the number that stands from place i on
pub bytes_of-big_from : (n i : ℕ) (xs : List ℕ) → ((k : ℕ) → slice_index xs k < 256) → i + n ≤ length xs → bytes_high_first n (big_from i n xs) ≡ take n (drop i xs)
bytes_of-big_from zero i xs small h = refl
bytes_of-big_from (suc n) i xs small h =
    let rest : big_from (suc i) n xs < 256 ^ n = big_from-lt (suc i) n xs small in
    let top : byte_at n (big_from i (suc n) xs) ≡ slice_index xs i = byte_top n (slice_index xs i) (big_from (suc i) n xs) (small i) rest in
    let exponent : n + 0 ≡ n = omega arith in
    let low : bytes_high_first n (big_from i (suc n) xs) ≡ bytes_high_first n (big_from (suc i) n xs) =
    ap (λ (j : ℕ). bytes_high_first n (slice_index xs i * 256 ^ j + big_from (suc i) n xs)) (sym exponent) ∙ bytes_below n 0 (slice_index xs i) (big_from (suc i) n xs) in
    let behind : bytes_high_first n (big_from (suc i) n xs) ≡ take n (drop (suc i) xs) = bytes_of-big_from n (suc i) xs small (omega arith) in
    let front : drop i xs ≡ slice_index xs i ∷ drop (suc i) xs = drop-cons xs i 0 (omega arith) in
    ap (λ (b : ℕ). b ∷ bytes_high_first n (big_from i (suc n) xs)) top
    ∙ ap (λ (bs : List ℕ). slice_index xs i ∷ bs) (low ∙ behind)
    ∙ ap (take (suc n)) (sym front)

-- a number's octets stand where it was read
pub split_number : (n at : ℕ) (octets : List ℕ) → ((k : ℕ) → slice_index octets k < 256) → at + n ≤ length octets
    → drop at octets ≡ big_bytes n (big_number n (drop at octets)) ++ drop (at + n) octets
split_number n at octets small h =
    let behind : (k : ℕ) → slice_index (drop at octets) k < 256 = λ k. rw (get_or-drop at octets k 0) (small (at + k)) in
    let fits : 0 + n ≤ length (drop at octets) = omega (arith, length-drop at octets) in
    let front : big_bytes n (big_number n (drop at octets)) ≡ take n (drop at octets) = bytes_of-big_from n 0 (drop at octets) behind fits in
    sym (take-append-drop n (drop at octets))
    ∙ ap (λ (xs : List ℕ). take n (drop at octets) ++ xs) (drop-drop n at octets)
    ∙ ap (λ (xs : List ℕ). xs ++ drop (at + n) octets) (sym front)

-- so does an octet
pub split_octet : (at : ℕ) (octets : List ℕ) → at < length octets → drop at octets ≡ slice_index octets at ∷ drop (at + 1) octets
split_octet at octets h =
    let next : suc at ≡ at + 1 = omega arith in
    drop-cons octets at 0 h ∙ ap (λ (k : ℕ). slice_index octets at ∷ drop k octets) next

-- n octets hold no number from 256 ^ n on
pub number_fits : (n at : ℕ) (octets : List ℕ) → ((k : ℕ) → slice_index octets k < 256) → big_number n (drop at octets) < 256 ^ n
number_fits n at octets small = big_from-lt 0 n (drop at octets) (λ k. rw (get_or-drop at octets k 0) (small (at + k)))
