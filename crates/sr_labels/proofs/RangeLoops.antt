-- Steps of the loops over the ranges of an SRGB.
use Rattle.std.proofs.Common.{◌≡◌, ◌≢◌, ℕ, ◌+◌, ◌-◌, ◌<◌, ◌≤◌, ◌⊎◌, ⊎_elim, List, [], ◌∷◌, length, refl, arith, ap, sym, ◌∙◌, Some, None, drop}
use Rattle.std.proofs.lemmas.Bool.{cases_lt}
use Rattle.std.proofs.lemmas.Option.{same_Some}
use Rattle.std.proofs.lemmas.List.{drop_more, drop_all}
use Rattle.sr_model.specs.declared.label.Range.{Range}
use Rattle.sr_model.specs.Label.{label_of, range_at, no_range, IsWithin, IsSrgb, sizes}
use Rattle.sr_laws.proofs.Ranges.{label-here, label-later, label-none}

pub split : (rs : List Range) (k : ℕ) → k < length rs → drop k rs ≡ range_at rs k ∷ drop (k + 1) rs
split rs k h = drop_more rs k no_range h

pub within-at : (rs : List Range) (k : ℕ) → IsSrgb rs → k < length rs → IsWithin (range_at rs k)
within-at rs k s h = (s.each k h).within

pub sizes-split : (rs : List Range) (k : ℕ) → k < length rs → sizes (drop k rs) ≡ (range_at rs k).size + sizes (drop (k + 1) rs)
sizes-split rs k h = rw (split rs k h) refl

-- the loop that looks for the label of index i reached range k with `left` of the index left
pub record IsLeft (rs : List Range) (i k left : ℕ) : Type 0 where
  pub same : label_of (drop k rs) left ≡ label_of rs i
  pub sum : left + sizes rs ≡ i + sizes (drop k rs)

pub left-begins : (rs : List Range) (i : ℕ) → IsLeft rs i 0 i
left-begins rs i = record { same = refl; sum = refl }

pub left-goes_on : (rs : List Range) (i k left : ℕ) → k < length rs → IsLeft rs i k left → (range_at rs k).size ≤ left → IsLeft rs i (k + 1) (left - (range_at rs k).size)
left-goes_on rs i k left h a ge = record {
  same =
      let e : label_of (range_at rs k ∷ drop (k + 1) rs) left ≡ label_of rs i = rw (split rs k h) at a.same in
      sym (label-later (range_at rs k) (drop (k + 1) rs) left ge) ∙ e;
  sum = omega (arith, sizes-split rs k h, a.sum);
}

pub left-found : (rs : List Range) (i k left : ℕ) → k < length rs → IsLeft rs i k left → left < (range_at rs k).size → (Some ((range_at rs k).first + left) ≡ label_of rs i) × (i < sizes rs)
left-found rs i k left h a lt =
    let e : label_of (range_at rs k ∷ drop (k + 1) rs) left ≡ label_of rs i = rw (split rs k h) at a.same in
    (sym (label-here (range_at rs k) (drop (k + 1) rs) left lt) ∙ e, omega (arith, sizes-split rs k h, a.sum))

pub left-none : (rs : List Range) (i k left : ℕ) → length rs ≤ k → IsLeft rs i k left → (None ≡ label_of rs i) × (sizes rs ≤ i)
left-none rs i k left h a =
    let e : drop k rs ≡ [] = drop_all k rs h in
    let s : left + sizes rs ≡ i + 0 = rw e at a.sum in
    (rw e at a.same, omega arith)

-- the loop that looks for the index of label t reached range k, and `below` indices are below
pub record IsBelow (rs : List Range) (t k below : ℕ) : Type 0 where
  pub sum : below + sizes (drop k rs) ≡ sizes rs
  pub later : (j : ℕ) → label_of rs (below + j) ≡ label_of (drop k rs) j
  pub none : (i : ℕ) → i < below → label_of rs i ≢ Some t

pub below-begins : (rs : List Range) (t : ℕ) → IsBelow rs t 0 0
below-begins rs t = record {
  sum = omega arith;
  later = λ j. let z : 0 + j ≡ j = omega arith in ap (label_of rs) z;
  none = λ i h. absurd (omega arith);
}

pub below-goes_on : (rs : List Range) (t k below : ℕ) → k < length rs → IsBelow rs t k below → (t < (range_at rs k).first) ⊎ ((range_at rs k).first + (range_at rs k).size ≤ t) → IsBelow rs t (k + 1) (below + (range_at rs k).size)
below-goes_on rs t k below h a out =
    let r : Range = range_at rs k in
    let rest : List Range = drop (k + 1) rs in
    let here : (j : ℕ) → label_of rs (below + j) ≡ label_of (range_at rs k ∷ drop (k + 1) rs) j = λ j. rw (split rs k h) at (a.later j) in
    record {
      sum = omega (arith, sizes-split rs k h, a.sum);
      later = λ j.
          let e : below + (range_at rs k).size + j ≡ below + ((range_at rs k).size + j) = omega arith in
          let f : (range_at rs k).size + j - (range_at rs k).size ≡ j = omega arith in
          ap (label_of rs) e ∙ here ((range_at rs k).size + j) ∙ label-later (range_at rs k) (drop (k + 1) rs) ((range_at rs k).size + j) (omega arith) ∙ ap (label_of (drop (k + 1) rs)) f;
      none = λ i lt is. ⊎_elim
          (λ low. a.none i low is)
          (λ ge.
          let e : below + (i - below) ≡ i = omega arith in
          let short : i - below < (range_at rs k).size = omega arith in
          let was : label_of (range_at rs k ∷ drop (k + 1) rs) (i - below) ≡ Some t = sym (here (i - below)) ∙ ap (label_of rs) e ∙ is in
          let at : (range_at rs k).first + (i - below) ≡ t = same_Some _ _ (sym (label-here (range_at rs k) (drop (k + 1) rs) (i - below) short) ∙ was) in
          ⊎_elim (λ (before : t < (range_at rs k).first). omega arith) (λ (after : (range_at rs k).first + (range_at rs k).size ≤ t). omega arith) out)
          (cases_lt i below);
    }

pub below-found : (rs : List Range) (t k below : ℕ) → k < length rs → IsBelow rs t k below → (range_at rs k).first ≤ t → t - (range_at rs k).first < (range_at rs k).size → label_of rs (below + (t - (range_at rs k).first)) ≡ Some t
below-found rs t k below h a ge lt =
    let here : label_of rs (below + (t - (range_at rs k).first)) ≡ label_of (range_at rs k ∷ drop (k + 1) rs) (t - (range_at rs k).first) = rw (split rs k h) at (a.later (t - (range_at rs k).first)) in
    let e : (range_at rs k).first + (t - (range_at rs k).first) ≡ t = omega arith in
    here ∙ label-here (range_at rs k) (drop (k + 1) rs) (t - (range_at rs k).first) lt ∙ ap (λ n. Some n) e

pub below-none : (rs : List Range) (t k below : ℕ) → length rs ≤ k → IsBelow rs t k below → (i : ℕ) → label_of rs i ≢ Some t
below-none rs t k below h a i is =
    let e : drop k rs ≡ [] = drop_all k rs h in
    let s : below + 0 ≡ sizes rs = rw e at a.sum in
    ⊎_elim
    (λ low. a.none i low is)
    (λ (ge : below ≤ i). let n : label_of rs i ≡ None = label-none rs i (omega arith) in absurd {0} (cc))
    (cases_lt i below)
