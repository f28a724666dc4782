-- How many nodes a set has.
use Rattle.std.proofs.Common.{◌≡◌, ◌≢◌, ℕ, zero, suc, ◌+◌, ◌*◌, ◌/◌, ◌%◌, ◌^◌, ◌<◌, ⊎_elim, Bool, true, false, not, ◌&&◌, ◌==◌, nat_eq, if◌then◌else◌, List, get_or, refl, arith, ap, sym, ◌∙◌, subst}
use Rattle.std.specs.Int.{bit_at}
use Rattle.std.proofs.lemmas.Bool.{eq-eqb, eqb-true, cases_eq, cases_Bool, and_parts, not-true, true≢false}
use Rattle.std.proofs.lemmas.Nat.{mod-pow-add, mod_below, pow_pos, ones_cat}
use lib.Count.{ones}
use Rattle.sr_lanes.specs.declared.words.NodeBits.{NodeBits}
use Rattle.sr_lanes.specs.Bits.{is_in, count_below, member_count, IsFirstIn, IsWithout}
use Rattle.sr_lanes.specs.Words.{AreWords}
use Rattle.sr_lanes.proofs.WordLemmas.{tells}

pub count_below-same : (test other : ℕ → Bool) (n : ℕ) → ((k : ℕ) → k < n → other k ≡ test k)
    → count_below other n ≡ count_below test n
unfolding count_below
count_below-same test other zero all = refl
count_below-same test other (suc n) all =
    let before : count_below other n ≡ count_below test n = count_below-same test other n (λ k lt. all k (omega arith)) in
    rw (before, all n (omega arith)) refl

-- a test that says no where another says yes, and is the same elsewhere, says yes less often
pub count_below-less : (test less : ℕ → Bool) (n v : ℕ) → v < n → test v ≡ true → less v ≡ false → ((k : ℕ) → k ≢ v
    → less k ≡ test k) → count_below less n < count_below test n
unfolding count_below
count_below-less test less zero v lt was gone all = absurd (omega arith)
count_below-less test less (suc n) v lt was gone all =
    ⊎_elim
    (λ (here : v ≡ n).
    let same : count_below less n ≡ count_below test n = count_below-same test less n (λ k below. all k (λ e. let z : n < n = omega arith in omega arith)) in
    let was' : test n ≡ true = subst (λ k. test k ≡ true) here was in
    let gone' : less n ≡ false = subst (λ k. less k ≡ false) here gone in
    rw (same, was', gone') (omega arith))
    (λ (apart : v ≢ n).
    let before : count_below less n < count_below test n = count_below-less test less n v (omega arith) was gone all in
    let same : less n ≡ test n = all n (λ e. apart (sym e)) in
    rw same (omega (arith, before)))
    (cases_eq v n)

-- a number that isn't v is told apart from it
pub apart_test : (k v : ℕ) → k ≢ v → (k == v) ≡ false
apart_test k v ne = ⊎_elim (λ yes. absurd (ne (eqb-true k v yes))) (λ no. no) (cases_Bool (k == v))

pub without-same : (set less : NodeBits) (v : ℕ) → IsWithout set less v → is_in less v ≡ false
without-same set less v is = is v ∙ ap (λ t. not t && is_in set v) (eq-eqb v v refl)

pub without-other : (set less : NodeBits) (v k : ℕ) → IsWithout set less v → k ≢ v → is_in less k ≡ is_in set k
without-other set less v k is ne = is k ∙ ap (λ t. not t && is_in set k) (apart_test k v ne)

pub without-inside : (set less : NodeBits) (v k : ℕ) → IsWithout set less v → is_in less k ≡ true
    → (k ≢ v) × (is_in set k ≡ true)
without-inside set less v k is e =
    let both : (not (k == v) && is_in set k) ≡ true = sym (is k) ∙ e in
    let parts = and_parts (not (k == v)) (is_in set k) both in (
      λ same. true≢false (sym (eq-eqb k v same) ∙ not-true (k == v) parts.0),
      parts.1,
    )

-- a set is smaller without its least node
pub size-less : (set less : NodeBits) (v : ℕ) → IsFirstIn set v → IsWithout set less v → member_count less < member_count set
unfolding member_count
size-less set less v least is =
    count_below-less (is_in set) (is_in less) 256 v least.within least.member (without-same set less v is) (λ k ne. without-other set less v k is ne)

-- the numbers below a sum are those below its first part, and those from there on
count_below-add : (test : ℕ → Bool) (m n : ℕ) → count_below test (m + n) ≡ count_below test m + count_below (λ i. test (m + i)) n
unfolding count_below
count_below-add test m zero =
    let e : m + 0 ≡ m = omega arith in
    let same : count_below test (m + 0) ≡ count_below test m = ap (count_below test) e in
    let none : count_below (λ i. test (m + i)) 0 ≡ 0 = refl in
    omega (arith, same, none)
count_below-add test m (suc n) =
    let before = count_below-add test m n in
    let e : m + suc n ≡ suc (m + n) = omega arith in
    let last : count_below test (m + suc n) ≡ count_below test (m + n) + (if test (m + n) then 1 else 0) = ap (count_below test) e in
    let more : count_below (λ i. test (m + i)) (suc n) ≡ count_below (λ i. test (m + i)) n + (if test (m + n) then 1 else 0) = refl in
    omega (arith, before, last, more)

-- a bit is a number whose ones are itself
ones-bit : (b : ℕ) → b < 2 → ones b ≡ (if nat_eq b 1 then 1 else 0)
unfolding ones
ones-bit zero small = refl
ones-bit (suc zero) small = refl
ones-bit (suc (suc b)) small = absurd (omega arith)

-- the lowest n bits of a word of value 1 are counted as its ones
ones-below : (w n : ℕ) → count_below (λ i. nat_eq (bit_at w i) 1) n ≡ ones (w % 2 ^ n)
unfolding count_below ones
ones-below w zero = let e : w % 1 ≡ 0 = omega arith in rw e refl
ones-below w (suc n) =
    let low : w % 2 ^ n < 2 ^ n = mod_below w (2 ^ n) (pow_pos n) in
    let small : w / 2 ^ n % 2 < 2 = omega arith in
    let more : 1 + n ≡ suc n = omega arith in
    let split : w % 2 ^ (suc n) ≡ (w / 2 ^ n % 2) * 2 ^ n + w % 2 ^ n = subst (λ k. w % 2 ^ k ≡ (w / 2 ^ n % 2) * 2 ^ n + w % 2 ^ n) more (mod-pow-add w 1 n) in
    let bit : ones (w / 2 ^ n % 2) ≡ (if nat_eq (w / 2 ^ n % 2) 1 then 1 else 0) = ones-bit (w / 2 ^ n % 2) small in
    let parts : ones (w % 2 ^ (suc n)) ≡ ones (w / 2 ^ n % 2) + ones (w % 2 ^ n) = ap ones split ∙ ones_cat n (w / 2 ^ n % 2) (w % 2 ^ n) low in
    omega (arith, parts, bit, ones-below w n)

module _ (xs : List ℕ) (x : AreWords xs) where
  -- word k tells of 64 nodes
  word-counted : (k : ℕ) → count_below (λ i. tells xs (64 * k + i)) 64 ≡ ones (get_or xs k 0)
  word-counted k =
      let same : count_below (λ i. tells xs (64 * k + i)) 64 ≡ count_below (λ i. nat_eq (bit_at (get_or xs k 0) i) 1) 64 = count_below-same (λ i. nat_eq (bit_at (get_or xs k 0) i) 1) (λ i. tells xs (64 * k + i)) 64 (λ i lt.
      let at : (64 * k + i) / 64 ≡ k = omega (arith, lt) in
      let place : (64 * k + i) % 64 ≡ i = omega (arith, lt) in
      rw (at, place) refl) in
      let whole : get_or xs k 0 % 2 ^ 64 ≡ get_or xs k 0 = omega (arith, x.fits k) in
      same ∙ ones-below (get_or xs k 0) 64 ∙ ap ones whole

  -- and the words behind it of the others
  counted-from : (k n : ℕ) → count_below (λ i. tells xs (64 * k + i)) (64 + n) ≡ ones (get_or xs k 0) + count_below (λ i. tells xs (64 * (k + 1) + i)) n
  counted-from k n =
      let parts : count_below (λ i. tells xs (64 * k + i)) (64 + n) ≡ count_below (λ i. tells xs (64 * k + i)) 64 + count_below (λ i. tells xs (64 * k + (64 + i))) n = count_below-add (λ i. tells xs (64 * k + i)) 64 n in
      let next : count_below (λ i. tells xs (64 * k + (64 + i))) n ≡ count_below (λ i. tells xs (64 * (k + 1) + i)) n = count_below-same (λ i. tells xs (64 * (k + 1) + i)) (λ i. tells xs (64 * k + (64 + i))) n (λ i lt. ap (tells xs) (omega arith)) in
      omega (arith, parts, next, word-counted k)

  -- the nodes of the set are the ones of its words
  pub words-counted : count_below (tells xs) 256 ≡ ones (get_or xs 0 0) + ones (get_or xs 1 0) + ones (get_or xs 2 0) + ones (get_or xs 3 0)
  words-counted =
      let first : count_below (tells xs) 256 ≡ count_below (λ i. tells xs (64 * 0 + i)) 256 = count_below-same (λ i. tells xs (64 * 0 + i)) (tells xs) 256 (λ i lt. ap (tells xs) (omega arith)) in
      let a : count_below (λ i. tells xs (64 * 0 + i)) 256 ≡ ones (get_or xs 0 0) + count_below (λ i. tells xs (64 * 1 + i)) 192 = counted-from 0 192 in
      let b : count_below (λ i. tells xs (64 * 1 + i)) 192 ≡ ones (get_or xs 1 0) + count_below (λ i. tells xs (64 * 2 + i)) 128 = counted-from 1 128 in
      let c : count_below (λ i. tells xs (64 * 2 + i)) 128 ≡ ones (get_or xs 2 0) + count_below (λ i. tells xs (64 * 3 + i)) 64 = counted-from 2 64 in
      omega (arith, first, a, b, c, word-counted 3)
