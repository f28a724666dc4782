-- Two lists related place by place.
use Rattle.std.proofs.Common.{◌≡◌, ℕ, zero, suc, ◌<◌, List, [], ◌∷◌, ◌++◌, length, get_or, refl, arith, ap}
use Rattle.std.specs.List.{AllZip}

module _ {A B : Type 0} (R : A → B → Type 0) where
  pub zip-push : (xs : List A) (ys : List B) (x : A) (y : B) → AllZip R xs ys → R x y → AllZip R (xs ++ x ∷ []) (ys ++ y ∷ [])
  zip-push [] [] x y all here = (here, tt)
  zip-push [] (b ∷ ys) x y all here = absurd all
  zip-push (a ∷ xs) [] x y all here = absurd all
  zip-push (a ∷ xs) (b ∷ ys) x y all here = (all.0, zip-push xs ys x y all.1 here)

  pub zip-length : (xs : List A) (ys : List B) → AllZip R xs ys → length ys ≡ length xs
  zip-length [] [] all = refl
  zip-length [] (b ∷ ys) all = absurd all
  zip-length (a ∷ xs) [] all = absurd all
  zip-length (a ∷ xs) (b ∷ ys) all = ap suc (zip-length xs ys all.1)

  pub zip-at : (xs : List A) (ys : List B) (i : ℕ) (d : A) (e : B) → AllZip R xs ys → i < length xs → R (get_or xs i d) (get_or ys i e)
  zip-at [] [] i d e all within = absurd (omega arith)
  zip-at [] (b ∷ ys) i d e all within = absurd all
  zip-at (a ∷ xs) [] i d e all within = absurd all
  zip-at (a ∷ xs) (b ∷ ys) zero d e all within = all.0
  zip-at (a ∷ xs) (b ∷ ys) (suc i) d e all within = zip-at xs ys i d e all.1 (omega arith)
