-- Each step at the queue of batches keeps its rule, and what the pass with all parts knows of it.
use Rattle.std.proofs.Common.{◌≡◌, ◌≢◌, ℕ, zero, suc, ◌+◌, ◌-◌, ◌<◌, ◌≤◌, List, [], ◌∷◌, ◌++◌, length, set, sym, refl, ap, ◌∙◌, ⊎_elim, arith}
use Rattle.std.specs.List.{sum_by, range_with_len}
use Rattle.std.proofs.lemmas.List.Sums.{sum_by-cons, sum_by-append, sum_by_push}
use Rattle.sr_loads.proofs.ListLemmas.{range-push}
use mathlib.Core.Option.{some, some-injective, some-ne-none}
use lib.ListN.{get_elem?}
use Rattle.crossbeam_queue.specs.Fifo.{Pushes, Pops, Forks, Merges, Learns, Held}
use Rattle.crossbeam_queue.proofs.Lists.{at_set, at_snoc}
use Rattle.sr_loads.specs.declared.queue.Hand.{Hand}
use Rattle.sr_loads.specs.Queue.{holding, all_parts, both, IsBalanced, KnowsAll}

-- f of all hands, after a change of one
sum-set : (f : Hand → ℕ) (hands : List Hand) (port : ℕ) (v w : Hand) → get_elem? hands port ≡ some v → sum_by f (set hands port w) + f v ≡ sum_by f hands + f w
sum-set f [] port v w at = absurd (some-ne-none v (sym at))
sum-set f (x ∷ xs) zero v w at = let same = ap f (some-injective x v at) in omega (arith, sum_by-cons f x xs, sum_by-cons f w xs)
sum-set f (x ∷ xs) (suc port) v w at = omega (arith, sum-set f xs port v w at, sum_by-cons f x xs, sum_by-cons f x (set xs port w))

-- a hand with no part is empty
abbrev IsIdle : Hand → Type 0
IsIdle v = v.parts ≡ 0 → (v.pushed ≡ []) × (v.taken ≡ [])

-- each hand with no part is empty
abbrev AreIdle : List Hand → Type 0
AreIdle hands = (port : ℕ) (v : Hand) → get_elem? hands port ≡ some v → IsIdle v

idle-same : (w u : Hand) → w ≡ u → IsIdle w → IsIdle u
idle-same w u same mine none =
    let e = mine (ap (λ (y : Hand). y.parts) same ∙ none) in
    (sym (ap (λ (y : Hand). y.pushed) same) ∙ e.0, sym (ap (λ (y : Hand). y.taken) same) ∙ e.1)

idle-set : (hands : List Hand) (port : ℕ) (w : Hand) → IsIdle w → AreIdle hands → AreIdle (set hands port w)
idle-set hands port w mine all j u at =
    ⊎_elim (λ (t : (j ≡ port) × (w ≡ u)). idle-same w u t.1 mine)
    (λ (t : (j ≢ port) × (get_elem? hands j ≡ some u)). all j u t.1)
    (at_set hands port j w u at)

idle-snoc : (hands : List Hand) (w : Hand) → IsIdle w → AreIdle hands → AreIdle (hands ++ w ∷ [])
idle-snoc hands w mine all j u at =
    ⊎_elim (λ old. all j u old)
    (λ (same : w ≡ u). idle-same w u same mine)
    (at_snoc hands w u j at)

pub begins : IsBalanced [] (holding all_parts [] [] ∷ [])
begins = record { parts = refl; each_once = λ h. refl; idle = first }
  where
    first : AreIdle (holding all_parts [] [] ∷ [])
    first zero v at none = idle-same (holding all_parts [] []) v (some-injective (holding all_parts [] []) v at) (λ idle. (refl, refl)) none
    first (suc port) v at none = absurd (some-ne-none v (sym at))

pub pushes : (n port : ℕ) (v : Hand) (b : ℕ) → 0 < v.parts → Pushes IsBalanced n port v b (λ w. w ≡ holding v.parts (v.pushed ++ b ∷ []) v.taken)
pushes n port v b some_part items hands room kept at =
    let w = holding v.parts (v.pushed ++ b ∷ []) v.taken in (
      w,
      record {
        parts = let s = sum-set (λ u. u.parts) hands port v w at in let p = kept.parts in omega arith;
        each_once = λ h.
            let s = sum-set (λ u. sum_by h u.pushed) hands port v w at in
            let t = sum-set (λ u. sum_by h u.taken) hands port v w at in
            let p = kept.each_once h in
            omega (arith, sum_by_push h v.pushed b, sum_by_push h items b);
        idle = idle-set hands port w (λ none. absurd (omega arith)) kept.idle;
      },
      refl,
    )

pub takes : (port : ℕ) (v : Hand) → 0 < v.parts → Pops IsBalanced port v (λ b w. w ≡ holding v.parts v.pushed (v.taken ++ b ∷ []))
takes port v some_part b items hands kept at =
    let w = holding v.parts v.pushed (v.taken ++ b ∷ []) in (
      w,
      record {
        parts = let s = sum-set (λ u. u.parts) hands port v w at in let p = kept.parts in omega arith;
        each_once = λ h.
            let s = sum-set (λ u. sum_by h u.pushed) hands port v w at in
            let t = sum-set (λ u. sum_by h u.taken) hands port v w at in
            let p = kept.each_once h in
            omega (arith, sum_by_push h v.taken b, sum_by-cons h b items);
        idle = idle-set hands port w (λ none. absurd (omega arith)) kept.idle;
      },
      refl,
    )

pub forks : (port : ℕ) (v : Hand) → 1 < v.parts → Forks IsBalanced port v (holding (v.parts - 1) v.pushed v.taken) (holding 1 [] [])
forks port v more items hands kept at =
    let l = holding (v.parts - 1) v.pushed v.taken in
    let r = holding 1 [] [] in
    let hs = set hands port l in record {
      parts = let s = sum-set (λ u. u.parts) hands port v l at in let p = kept.parts in omega (arith, sum_by_push (λ (u : Hand). u.parts) hs r);
      each_once = λ h.
          let s = sum-set (λ u. sum_by h u.pushed) hands port v l at in
          let t = sum-set (λ u. sum_by h u.taken) hands port v l at in
          let p = kept.each_once h in
          omega (arith, sum_by_push (λ (u : Hand). sum_by h u.pushed) hs r, sum_by_push (λ (u : Hand). sum_by h u.taken) hs r);
      idle = idle-snoc hs r (λ none. absurd (omega arith)) (idle-set hands port l (λ none. absurd (omega arith)) kept.idle);
    }

pub merges : (port : ℕ) (v : Hand) (other : ℕ) (w : Hand) → 0 < v.parts → Merges IsBalanced port v other w (both v w) (holding 0 [] [])
merges port v other w some_part items hands kept at apart there =
    let sum = both v w in
    let spent = holding 0 [] [] in
    let hs = set hands port sum in record {
      parts =
          let s = sum-set (λ u. u.parts) hands port v sum at in
          let t = sum-set (λ u. u.parts) hs other w spent there in
          let p = kept.parts in
          omega arith;
      each_once = λ h.
          let s = sum-set (λ u. sum_by h u.pushed) hands port v sum at in
          let t = sum-set (λ u. sum_by h u.taken) hands port v sum at in
          let s' = sum-set (λ u. sum_by h u.pushed) hs other w spent there in
          let t' = sum-set (λ u. sum_by h u.taken) hs other w spent there in
          let p = kept.each_once h in
          omega (arith, sum_by-append h v.pushed w.pushed, sum_by-append h v.taken w.taken);
      idle = idle-set hs other spent (λ none. (refl, refl)) (idle-set hands port sum (λ none. absurd (omega arith)) kept.idle);
    }

-- where no hand has a part, f of them is nothing
none-left : (f : Hand → ℕ) → ((u : Hand) → u.pushed ≡ [] → u.taken ≡ [] → f u ≡ 0) → (hands : List Hand) → sum_by (λ (u : Hand). u.parts) hands ≡ 0 → AreIdle hands → sum_by f hands ≡ 0
none-left f empty [] none idle = refl
none-left f empty (x ∷ xs) none idle =
    let parts = sum_by-cons (λ (u : Hand). u.parts) x xs in
    let e = idle 0 x refl (omega arith) in
    let fx = empty x e.0 e.1 in
    omega (arith, sum_by-cons f x xs, none-left f empty xs (omega arith) (λ j u at. idle (suc j) u at))

at-least : (hands : List Hand) (port : ℕ) (v : Hand) → get_elem? hands port ≡ some v → v.parts ≤ sum_by (λ (u : Hand). u.parts) hands
at-least [] port v at = absurd (some-ne-none v (sym at))
at-least (x ∷ xs) zero v at = let same = ap (λ (y : Hand). y.parts) (some-injective x v at) in omega (arith, sum_by-cons (λ (u : Hand). u.parts) x xs)
at-least (x ∷ xs) (suc port) v at = omega (arith, at-least xs port v at, sum_by-cons (λ (u : Hand). u.parts) x xs)

-- where one hand has every part, f of all is f of it
alone : (f : Hand → ℕ) → ((u : Hand) → u.pushed ≡ [] → u.taken ≡ [] → f u ≡ 0) → (hands : List Hand) (port : ℕ) (v : Hand) → get_elem? hands port ≡ some v → sum_by (λ (u : Hand). u.parts) hands ≡ v.parts → AreIdle hands → sum_by f hands ≡ f v
alone f empty [] port v at all idle = absurd (some-ne-none v (sym at))
alone f empty (x ∷ xs) zero v at all idle =
    let same = some-injective x v at in
    let parts = ap (λ (y : Hand). y.parts) same in
    let fs = ap f same in
    let sum = sum_by-cons (λ (u : Hand). u.parts) x xs in
    let rest = none-left f empty xs (omega arith) (λ j u a. idle (suc j) u a) in
    omega (arith, sum_by-cons f x xs)
alone f empty (x ∷ xs) (suc port) v at all idle =
    let sum = sum_by-cons (λ (u : Hand). u.parts) x xs in
    let least = at-least xs port v at in
    let e = idle 0 x refl (omega arith) in
    let fx = empty x e.0 e.1 in
    let rest = alone f empty xs port v at (omega arith) (λ j u a. idle (suc j) u a) in
    omega (arith, sum_by-cons f x xs)

pub learns : (port : ℕ) (v : Hand) → Learns IsBalanced port v (KnowsAll v)
learns port v items hands kept at whole h =
    let all : sum_by (λ (u : Hand). u.parts) hands ≡ v.parts = kept.parts ∙ sym whole in
    let p = alone (λ u. sum_by h u.pushed) (λ u pushed taken. ap (sum_by h) pushed) hands port v at all kept.idle in
    let t = alone (λ u. sum_by h u.taken) (λ u pushed taken. ap (sum_by h) taken) hands port v at all kept.idle in
    let both = kept.each_once h in
    omega arith

sum-ones : (xs : List ℕ) → sum_by (λ x. 1) xs ≡ length xs
sum-ones [] = refl
sum-ones (x ∷ xs) = omega (arith, sum-ones xs, sum_by-cons (λ (y : ℕ). 1) x xs)

-- before all batches are pushed, and none is taken, the queue isn't full
pub not-full : (v : Hand) (n : ℕ) (pushed : List ℕ) → length pushed < n → v ≡ holding all_parts pushed [] → Held n (KnowsAll v) → ⊥
not-full v n pushed few is held =
    let parts = ap (λ (y : Hand). y.parts) is in
    let taken : v.taken ≡ [] = ap (λ (y : Hand). y.taken) is in
    let mine : v.pushed ≡ pushed = ap (λ (y : Hand). y.pushed) is in
    let sum = held.2 parts (λ x. 1) in
    let none : sum_by (λ (x : ℕ). 1) v.taken ≡ 0 = ap (sum_by (λ (x : ℕ). 1)) taken in
    let some : sum_by (λ (x : ℕ). 1) v.pushed ≡ length pushed = ap (sum_by (λ (x : ℕ). 1)) mine ∙ sum-ones pushed in
    let items = sum-ones held.0 in
    let full = held.1 in
    omega arith

-- one batch more is pushed
pub pushed-more : (n : ℕ) (v w : Hand) → v ≡ holding all_parts (range_with_len 0 n) [] → w ≡ holding v.parts (v.pushed ++ n ∷ []) v.taken → w ≡ holding all_parts (range_with_len 0 (n + 1)) []
pushed-more n v w was is =
    let parts = ap (λ (u : Hand). u.parts) was in
    let taken = ap (λ (u : Hand). u.taken) was in
    let next : suc n ≡ n + 1 = omega arith in
    let pushed : v.pushed ++ n ∷ [] ≡ range_with_len 0 (n + 1) = ap (λ (xs : List ℕ). xs ++ n ∷ []) (ap (λ (u : Hand). u.pushed) was) ∙ (sym (range-push 0 n n (omega arith)) ∙ ap (range_with_len 0) next) in
    is ∙ (λ i. holding (parts i) (pushed i) (taken i))

-- of an empty queue the pass with all parts knows that it took each batch as often as it was pushed
pub emptied : (v : Hand) → Held 0 (KnowsAll v) → KnowsAll v []
emptied v held = by held.0 held.1 held.2
  where
    by : (items : List ℕ) → length items ≡ 0 → KnowsAll v items → KnowsAll v []
    by [] none knows = knows
    by (x ∷ xs) none knows = absurd (omega arith)
