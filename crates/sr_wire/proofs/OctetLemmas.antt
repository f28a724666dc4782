-- Lists whose items are octets.
use Rattle.std.proofs.Common.{◌≡◌, ℕ, zero, suc, ◌+◌, ◌-◌, ◌<◌, List, [], ◌∷◌, ◌++◌, take, drop, slice_index, sym, subst, arith}
use Rattle.std.proofs.lemmas.List.{get_or-drop, take-append-drop}
use Rattle.std.specs.List.{slice_range}

-- each item is below 256
abbrev pub AreOctets : List ℕ → Type 0
AreOctets xs = (k : ℕ) → slice_index xs k < 256

-- the empty list is one of octets
pub no_octets : AreOctets []
no_octets k = omega arith

-- one octet more in front
pub octets_one : (x : ℕ) (xs : List ℕ) → x < 256 → AreOctets xs → AreOctets (x ∷ xs)
octets_one x xs one small zero = one
octets_one x xs one small (suc k) = small k

-- the first of octets are octets
pub octets_front : (xs ys : List ℕ) → AreOctets (xs ++ ys) → AreOctets xs
octets_front [] ys small k = omega arith
octets_front (x ∷ xs) ys small zero = small zero
octets_front (x ∷ xs) ys small (suc k) = octets_front xs ys (λ j. small (suc j)) k

-- the last of octets are octets
pub octets_back : (xs ys : List ℕ) → AreOctets (xs ++ ys) → AreOctets ys
octets_back [] ys small = small
octets_back (x ∷ xs) ys small = octets_back xs ys (λ j. small (suc j))

-- octets behind octets are octets
pub octets_join : (xs ys : List ℕ) → AreOctets xs → AreOctets ys → AreOctets (xs ++ ys)
octets_join [] ys small more k = more k
octets_join (x ∷ xs) ys small more zero = small zero
octets_join (x ∷ xs) ys small more (suc k) = octets_join xs ys (λ j. small (suc j)) more k

-- what equals octets is octets
pub octets_same : (xs ys : List ℕ) → xs ≡ ys → AreOctets xs → AreOctets ys
octets_same xs ys e small = let P : List ℕ → Type 0 = λ zs. AreOctets zs in subst P e small

-- octets without the first are octets
pub octets_drop : (n : ℕ) (xs : List ℕ) → AreOctets xs → AreOctets (drop n xs)
octets_drop n xs small k = rw (get_or-drop n xs k 0) (small (n + k))

-- the first m octets are octets
pub octets_take : (n : ℕ) (xs : List ℕ) → AreOctets xs → AreOctets (take n xs)
octets_take n xs small = octets_front (take n xs) (drop n xs) (octets_same xs (take n xs ++ drop n xs) (sym (take-append-drop n xs)) small)

-- a range of octets is octets
pub octets_range : (xs : List ℕ) (from to : ℕ) → AreOctets xs → AreOctets (slice_range xs from to)
octets_range xs from to small = octets_take (to - from) (drop from xs) (octets_drop from xs small)
