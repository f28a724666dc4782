-- The places of nodes in an ascending list.
use Rattle.std.proofs.Common.{◌≡◌, ◌≢◌, ℕ, zero, suc, ◌+◌, ◌<◌, cond, List, [], ◌∷◌, length, get_or, arith, ap, ◌∙◌, add-one}
use Rattle.std.specs.Prelude.{◌==◌}
use Rattle.std.proofs.lemmas.Bool.Decides.{nat_tests}
use Rattle.std.specs.List.Sorted.{IsStrictlyIncreasing}
use Rattle.std.proofs.lemmas.Map.Keys.{sorted_from_strictly_increasing, below_from_sorted}
use Rattle.sr_domain.specs.Links.{place_in}

place-here : (x node : ℕ) (rest : ℕ) → x ≡ node → cond (x == node) 0 rest ≡ 0
place-here x node rest e = grind (arith, nat_tests)

place-later : (x node : ℕ) (rest : ℕ) → x ≢ node → cond (x == node) 0 rest ≡ rest
place-later x node rest ne = grind (arith, nat_tests)

place-first : (nodes : List ℕ) (i node : ℕ) → i < length nodes → get_or nodes i 0 ≡ node → ((j : ℕ) → j < i → get_or nodes j 0 ≢ node) → place_in nodes node ≡ i
place-first [] i node within at before = absurd (omega arith)
place-first (x ∷ nodes) zero node within at before = place-here x node (place_in nodes node + 1) at
place-first (x ∷ nodes) (suc i) node within at before =
    place-later x node (place_in nodes node + 1) (before 0 (omega arith))
    ∙ ap (λ n. n + 1) (place-first nodes i node (omega arith) at (λ j lt. before (suc j) (omega arith)))
    ∙ add-one i

-- the place of the node that stands there
pub place-at : (nodes : List ℕ) (i node : ℕ) → IsStrictlyIncreasing nodes → i < length nodes → get_or nodes i 0 ≡ node → place_in nodes node ≡ i
place-at nodes i node up within at = place-first nodes i node within at (λ j lt same.
    let below : get_or nodes j 0 < get_or nodes i 0 = below_from_sorted nodes j i 0 (sorted_from_strictly_increasing nodes up) lt within in
    omega arith)
