-- Lists of numbers of four octets each.
use Rattle.std.proofs.Common.{◌≡◌, ℕ, ◌+◌, ◌*◌, ◌≤◌, List, [], ◌∷◌, ◌++◌, length, drop, refl, sym, ap, ◌∙◌, subst, arith, append_assoc, length-append, length-drop}
use Rattle.std.proofs.Math.ListN.{drop_of_length-le}
use Rattle.std.proofs.lemmas.List.{append-nil, drop-drop}
use Rattle.std.specs.List.{AllByRecursion}
use Rattle.byteorder.specs.Endian.{big_bytes}
use Rattle.byteorder.specs.Numbers.{big_number-reads_back}
use Rattle.sr_wire.specs.Numbers.{AreNumbers, FitsFourOctets, numbers_text}
use Rattle.sr_wire.specs.Octets.{number}

-- the numbers before a place: with what is left they are the whole
pub record NumbersSoFar (octets : List ℕ) (from at : ℕ) (numbers : List ℕ) : Type 0 where
  pub grows : (tail : List ℕ) → AreNumbers (drop at octets) tail → AreNumbers (drop from octets) (numbers ++ tail)

-- before the first place there are no numbers
pub no_numbers : (octets : List ℕ) (from : ℕ) → NumbersSoFar octets from from []
no_numbers octets from = record { grows = λ tail h. h }

-- one number more
pub one_number : (octets numbers : List ℕ) (from at one : ℕ) → NumbersSoFar octets from at numbers → at + 4 ≤ length octets → one ≡ number octets at 4 → NumbersSoFar octets from (at + 4) (numbers ++ one ∷ [])
one_number octets numbers from at one s room is = record {
  grows = λ tail h.
      let P : List ℕ → Type 0 = λ ns. AreNumbers (drop from octets) ns in
      let Q : List ℕ → Type 0 = λ xs. AreNumbers xs tail in
      let fits : 4 ≤ length (drop at octets) = omega (arith, length-drop at octets) in
      subst P (sym (append_assoc numbers (one ∷ []) tail)) (s.grows (one ∷ tail) (fits, is, subst Q (sym (drop-drop 4 at octets)) h));
}

-- at the end the octets are the numbers
pub all_numbers : (octets numbers : List ℕ) (from at : ℕ) → NumbersSoFar octets from at numbers → length octets ≤ at → AreNumbers (drop from octets) numbers
all_numbers octets numbers from at s end =
    let P : List ℕ → Type 0 = λ ns. AreNumbers (drop from octets) ns in
    subst P (append-nil numbers) (s.grows [] (drop_of_length-le octets end))

-- four octets each
pub are_long : (octets numbers : List ℕ) → AreNumbers octets numbers → length octets ≡ 4 * length numbers
are_long octets [] are = ap length are
are_long octets (n ∷ ns) are =
    let room : 4 ≤ length octets = are.0 in
    let rest : length (drop 4 octets) ≡ 4 * length ns = are_long (drop 4 octets) ns are.2 in
    omega (arith, length-drop 4 octets)

-- so it is with what is written
pub length_numbers : (numbers : List ℕ) → length (numbers_text numbers) ≡ 4 * length numbers
length_numbers [] = refl
length_numbers (n ∷ ns) = let rest : length (numbers_text ns) ≡ 4 * length ns = length_numbers ns in omega arith

-- octets are one list of numbers
pub same_numbers : (octets xs ys : List ℕ) → AreNumbers octets xs → AreNumbers octets ys → xs ≡ ys
same_numbers octets [] [] a b = refl
same_numbers octets [] (y ∷ ys) a b = absurd (let none : length octets ≡ 0 = ap length a in omega (arith, b.0))
same_numbers octets (x ∷ xs) [] a b = absurd (let none : length octets ≡ 0 = ap length b in omega (arith, a.0))
same_numbers octets (x ∷ xs) (y ∷ ys) a b =
    ap (λ (n : ℕ). n ∷ xs) (a.1 ∙ sym b.1) ∙ ap (λ (ns : List ℕ). y ∷ ns) (same_numbers (drop 4 octets) xs ys a.2 b.2)

-- numbers that are written are read again
pub numbers_again : (numbers : List ℕ) → AllByRecursion FitsFourOctets numbers → AreNumbers (numbers_text numbers) numbers
numbers_again [] fits = refl
numbers_again (n ∷ ns) fits =
    let rest = numbers_text ns in
    (omega (arith, length-append (big_bytes 4 n) rest), sym (big_number-reads_back 4 n rest fits.0), numbers_again ns fits.1)
