-- What comes from the numbers below a count, one by one.
use Rattle.std.proofs.Common.{◌≡◌, ℕ, ◌<◌, List, length, get_or, arith, ◌∙◌, subst}
use Rattle.std.specs.List.{AllZip, range_with_len}
use Rattle.std.proofs.lemmas.List.FromFn.{get_or-range_with_len, length-range_with_len}
use Rattle.sr_graph.proofs.ZipLemmas.{zip-length, zip-at}

-- it stands in the places of the numbers
pub in_order : {Y : Type 0} (P : ℕ → Y → Type 0) (m : ℕ) (ys : List Y) (d : Y) → AllZip P (range_with_len 0 m) ys → (length ys ≡ m) × ((i : ℕ) → i < m → P i (get_or ys i d))
in_order P m ys d zip = (
  zip-length P (range_with_len 0 m) ys zip ∙ length-range_with_len 0 m,
  λ i lt.
      let some : i < length (range_with_len 0 m) = omega (arith, length-range_with_len 0 m) in
      let from : get_or (range_with_len 0 m) i 0 ≡ i = omega (arith, get_or-range_with_len 0 m i 0 lt) in
      subst (λ k. P k (get_or ys i d)) from (zip-at P (range_with_len 0 m) ys i 0 d zip some),
)
