-- Lists with one value more.
use Rattle.std.proofs.Common.{◌≡◌, ℕ, ◌+◌, ◌<◌, ◌≤◌, ⊎_elim, List, [], ◌∷◌, ◌++◌, length, arith, sym, subst, get_or}
use Rattle.std.proofs.lemmas.Bool.{cases_lt}
use Rattle.std.proofs.lemmas.List.{get_or_append_left, get_or_push, length_push}
use Rattle.sr_model.specs.Label.{Labels, nameless}
use Rattle.sr_why.specs.Whole.{whole_labels, AreWholeNodes}

-- what holds of each value, after one value more
pub each-more : {X : Type 0} (P : ℕ → X → Type 0) (xs : List X) (y d : X) (m : ℕ) → length xs ≡ m → ((v : ℕ) → v < m → P v (get_or xs v d)) → P m y → (v : ℕ) → v < m + 1 → P v (get_or (xs ++ y ∷ []) v d)
each-more {X} P xs y d m long each here v lt =
    ⊎_elim
    (λ (below : v < m). subst (λ (k : X). P v k) (sym (get_or_append_left xs (y ∷ []) d v (omega (arith, long)))) (each v below))
    (λ (ge : m ≤ v).
    let at : v ≡ m = omega arith in
    subst (λ j. P j (get_or (xs ++ y ∷ []) j d)) (sym at) (subst (λ (k : X). P m k) (sym (get_or_push xs y d m long)) here))
    (cases_lt v m)

-- one node more announces its number and the most labels
pub whole_nodes-more : (count m : ℕ) (nodes : List Labels) (y : Labels) (more : List Labels) → AreWholeNodes count m nodes → y ≡ whole_labels count m → more ≡ nodes ++ y ∷ [] → AreWholeNodes count (m + 1) more
whole_nodes-more count m nodes y more a e put =
    subst (λ (k : List Labels). AreWholeNodes count (m + 1) k) (sym put) (record {
      long = omega (arith, length_push nodes y, a.long);
      each = each-more (λ v k. k ≡ whole_labels count v) nodes y nameless m a.long a.each e;
    })
