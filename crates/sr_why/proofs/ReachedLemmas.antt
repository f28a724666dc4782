-- Counting the nodes that are reached.
use Rattle.std.proofs.Common.{◌≡◌, ◌≢◌, ℕ, ◌+◌, ◌<◌, ◌≤◌, ⊎_elim, Bool, true, false, cond, List, [], ◌∷◌, ◌++◌, length, refl, arith, ap, sym, ◌∙◌}
use Rattle.std.specs.Prelude.{◌↔◌, count_by, slice_index, slice_index_or}
use Rattle.std.proofs.lemmas.Bool.{cases_lt}
use Rattle.std.proofs.lemmas.List.{length_push}
use Rattle.std.proofs.lemmas.List.Sums.{sum_by_push, count_by-le-length}
use Rattle.sr_model.specs.declared.link.TheConstants.{FAR}
use Rattle.sr_model.specs.Graph.{Graph, node_count}
use Rattle.sr_model.specs.Walk.{IsRow}
use Rattle.sr_why.specs.Reasons.{IsReachedCount}
use Rattle.sr_why.proofs.PushLemmas.{each-more}

-- the node isn't the row's, and has a distance
abbrev pub IsFound : List ℕ → ℕ → ℕ → Type 0
IsFound cells s v = (v ≢ s) × (slice_index cells v < FAR)

-- that many of the nodes below m are found
pub record IsCountBelow (cells : List ℕ) (s m count : ℕ) : Type 0 where
  pub tests : List Bool
  pub long : length tests ≡ m
  pub each : (v : ℕ) → v < m → (slice_index_or tests v false ≡ true) ↔ IsFound cells s v
  pub is : count ≡ count_by (λ (test : Bool). test) tests

pub count-none : (cells : List ℕ) (s : ℕ) → IsCountBelow cells s 0 0
count-none cells s = record { tests = []; long = refl; each = λ v lt. absurd (omega arith); is = refl }

count_push : (cells : List ℕ) (s m count : ℕ) (test : Bool) → (test ≡ true) ↔ IsFound cells s m → (k : IsCountBelow cells s m count) → (more : ℕ) → more ≡ count + cond test 1 0 → IsCountBelow cells s (m + 1) more
count_push cells s m count test tells k more e = record {
  tests = k.tests ++ test ∷ [];
  long = omega (arith, k.long, length_push k.tests test);
  each = each-more (λ v (t : Bool). (t ≡ true) ↔ IsFound cells s v) k.tests test false m k.long k.each tells;
  is = e ∙ ap (λ j. j + cond test 1 0) k.is ∙ sym (sum_by_push (λ (t : Bool). cond t 1 0) k.tests test);
}

pub count-yes : (cells : List ℕ) (s m count : ℕ) → IsCountBelow cells s m count → IsFound cells s m → IsCountBelow cells s (m + 1) (count + 1)
count-yes cells s m count k found = count_push cells s m count true (λ _. found, λ _. refl) k (count + 1) refl

pub count-no : (cells : List ℕ) (s m count : ℕ) → IsCountBelow cells s m count → (IsFound cells s m → ⊥) → IsCountBelow cells s (m + 1) count
count-no cells s m count k none =
    count_push cells s m count false (λ e. absurd {0} (cc), λ f. absurd (none f)) k count (omega arith)

-- no more are found than there are
pub count-few : (cells : List ℕ) (s m count : ℕ) → IsCountBelow cells s m count → count ≤ m
count-few cells s m count k = omega (arith, k.is, k.long, count_by-le-length (λ (test : Bool). test) k.tests)

-- by a row, the nodes that are found are those that are reached
pub reached-from_count : (g : Graph) (x : List Bool) (s : ℕ) (cells : List ℕ) (count : ℕ) → IsRow g x s cells → IsCountBelow cells s (node_count g) count → IsReachedCount g x s count
reached-from_count g x s cells count row k = (
  k.tests,
  record {
    long = k.long;
    each = λ v within.
        let cell = row.each v within in (
          λ e.
              let found : IsFound cells s v = (k.each v within).0 e in
              let d = (cell.near found.1).reached in
              (found.0, (d.0, d.1)),
          λ r. (k.each v within).1
              (r.0, ⊎_elim (λ near. near) (λ far. absurd (cell.far far r.1.0 r.1.1)) (cases_lt (slice_index cells v) FAR)),
        );
  },
  k.is,
)
