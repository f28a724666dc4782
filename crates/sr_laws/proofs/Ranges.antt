-- Labels and indices of good ranges.
use Rattle.std.proofs.Common.{◌≡◌, ℕ, zero, suc, ◌+◌, ◌-◌, ◌<◌, ◌≤◌, ◌⊎◌, ⊎_elim, inl, inr, List, [], ◌∷◌, length, refl, arith, ap, sym, ◌∙◌, Option, Some, None, if◌then◌else◌}
use Rattle.std.proofs.lemmas.Option.{same_Some}
use Rattle.std.specs.Prelude.{nat_lt, min}
use Rattle.std.proofs.lemmas.Bool.{cases_lt, cond-true, cond-false, lt-ltb, le-ltb}
use Rattle.std.proofs.lemmas.Bool.Decides.{nat_tests}
use Rattle.sr_model.specs.Label.{IsIndexOf, AreApart, IsGoodAt, IsSrgb, IsWithin, label_of, range_at, sizes}
use Rattle.sr_model.specs.declared.label.Range.{Range}
use Rattle.sr_laws.specs.Labels.{IsInRanges}

-- range r is apart from each range of the list
abbrev pub AllApart : Range → List Range → Type 0
AllApart r [] = Unit {0}
AllApart r (s ∷ rs) = AreApart r s × AllApart r rs

-- each range is within the labels, and apart from all later ones
abbrev pub IsGood : List Range → Type 0
IsGood [] = Unit {0}
IsGood (r ∷ rs) = IsWithin r × AllApart r rs × IsGood rs

all_apart : (r : Range) (rs : List Range) → ((k : ℕ) → k < length rs → AreApart r (range_at rs k)) → AllApart r rs
all_apart r [] h = tt
all_apart r (s ∷ rs) h = (h 0 (omega arith), all_apart r rs (λ k lt. h (suc k) (omega arith)))

good-from_each : (rs : List Range) → ((k : ℕ) → k < length rs → IsGoodAt rs k) → IsGood rs
good-from_each [] h = tt
good-from_each (r ∷ rs) h = (
  (h 0 (omega arith)).within,
  all_apart r rs (λ k lt. (h (suc k) (omega arith)).apart 0 (omega arith)),
  good-from_each rs (λ k lt. let g : IsGoodAt (r ∷ rs) (suc k) = h (suc k) (omega arith) in record { within = g.within; apart = λ j jk. g.apart (suc j) (omega arith) }),
)

pub good : (rs : List Range) → IsSrgb rs → IsGood rs
good rs s = good-from_each rs s.each

-- ---- the label of an index
pub label-here : (r : Range) (rs : List Range) (i : ℕ) → i < r.size → label_of (r ∷ rs) i ≡ Some (r.first + i)
label-here r rs i h = cond-true (nat_lt i r.size) (Some (r.first + i)) (label_of rs (i - r.size)) (lt-ltb i r.size h)

pub label-later : (r : Range) (rs : List Range) (i : ℕ) → r.size ≤ i → label_of (r ∷ rs) i ≡ label_of rs (i - r.size)
label-later r rs i h = cond-false (nat_lt i r.size) (Some (r.first + i)) (label_of rs (i - r.size)) (le-ltb i r.size h)

pub label-cases : (r : Range) (rs : List Range) (i t : ℕ) → label_of (r ∷ rs) i ≡ Some t → ((i < r.size) × (r.first + i ≡ t)) ⊎ ((r.size ≤ i) × (label_of rs (i - r.size) ≡ Some t))
label-cases r rs i t e =
    ⊎_elim
    (λ lt. inl (lt, same_Some _ _ (sym (label-here r rs i lt) ∙ e)))
    (λ ge. inr (ge, sym (label-later r rs i ge) ∙ e))
    (cases_lt i r.size)

-- the labels of ranges apart from r aren't in r
label-apart : (r : Range) (rs : List Range) (i t : ℕ) → AllApart r rs → label_of rs i ≡ Some t → (t < r.first) ⊎ (r.first + r.size ≤ t)
label-apart r [] i t a e = absurd {0} (cc)
label-apart r (s ∷ rs) i t a e =
    ⊎_elim
    (λ here. ⊎_elim (λ (before : r.first + r.size ≤ s.first). inr (omega arith)) (λ (after : s.first + s.size ≤ r.first). inl (omega arith)) a.0)
    (λ later. label-apart r rs (i - s.size) t a.1 later.1)
    (label-cases s rs i t e)

-- one index a label
pub label-one : (rs : List Range) (i j t : ℕ) → IsGood rs → label_of rs i ≡ Some t → label_of rs j ≡ Some t → i ≡ j
label-one [] i j t g a b = absurd {0} (cc)
label-one (r ∷ rs) i j t g a b =
    ⊎_elim
    (λ (here : (i < r.size) × (r.first + i ≡ t)). ⊎_elim
    (λ (too : (j < r.size) × (r.first + j ≡ t)). omega arith)
    (λ (later : (r.size ≤ j) × (label_of rs (j - r.size) ≡ Some t)). ⊎_elim (λ (lt : t < r.first). absurd (omega arith)) (λ (ge : r.first + r.size ≤ t). absurd (omega arith)) (label-apart r rs (j - r.size) t g.1 later.1))
    (label-cases r rs j t b))
    (λ (later : (r.size ≤ i) × (label_of rs (i - r.size) ≡ Some t)). ⊎_elim
    (λ (here : (j < r.size) × (r.first + j ≡ t)). ⊎_elim (λ (lt : t < r.first). absurd (omega arith)) (λ (ge : r.first + r.size ≤ t). absurd (omega arith)) (label-apart r rs (i - r.size) t g.1 later.1))
    (λ (too : (r.size ≤ j) × (label_of rs (j - r.size) ≡ Some t)).
    let e : i - r.size ≡ j - r.size = label-one rs (i - r.size) (j - r.size) t g.2 later.1 too.1 in
    let f : r.size ≤ i = later.0 in
    let h : r.size ≤ j = too.0 in
    omega arith)
    (label-cases r rs j t b))
    (label-cases r rs i t a)

-- labels lie within the free ones
pub label-within : (rs : List Range) (i t : ℕ) → IsGood rs → label_of rs i ≡ Some t → (16 ≤ t) × (t < 1048576)
label-within [] i t g a = absurd {0} (cc)
label-within (r ∷ rs) i t g a =
    ⊎_elim
    (λ (here : (i < r.size) × (r.first + i ≡ t)). let w : IsWithin r = g.0 in (omega arith, omega arith))
    (λ later. label-within rs (i - r.size) t g.2 later.1)
    (label-cases r rs i t a)

-- an index has a label just where it is below the sum of the sizes
pub label-none : (rs : List Range) (i : ℕ) → sizes rs ≤ i → label_of rs i ≡ None
label-none [] i h = refl
label-none (r ∷ rs) i h = label-later r rs i (omega arith) ∙ label-none rs (i - r.size) (omega arith)

pub label-some : (rs : List Range) (i : ℕ) → i < sizes rs → (t : ℕ) × (label_of rs i ≡ Some t)
label-some [] i h = absurd (omega arith)
label-some (r ∷ rs) i h =
    ⊎_elim
    (λ lt. (r.first + i, label-here r rs i lt))
    (λ (ge : r.size ≤ i). let s : (t : ℕ) × (label_of rs (i - r.size) ≡ Some t) = label-some rs (i - r.size) (omega arith) in (s.0, label-later r rs i ge ∙ s.1))
    (cases_lt i r.size)

-- ---- the sizes of good ranges don't add up to more than there are labels
inside : Range → ℕ → ℕ
inside r t = if nat_lt t r.first then 0 else (if nat_lt t (r.first + r.size) then 1 else 0)

hits : List Range → ℕ → ℕ
hits [] t = 0
hits (r ∷ rs) t = inside r t + hits rs t

count : (ℕ → ℕ) → ℕ → ℕ
count f zero = 0
count f (suc n) = f n + count f n

inside-no : (r : Range) (t : ℕ) → (t < r.first) ⊎ (r.first + r.size ≤ t) → inside r t ≡ 0
unfolding inside
inside-no r t h = ⊎_elim (λ (lt : t < r.first). grind (arith, nat_tests)) (λ (ge : r.first + r.size ≤ t). grind (arith, nat_tests)) h

inside-yes : (r : Range) (t : ℕ) → r.first ≤ t → t < r.first + r.size → inside r t ≡ 1
unfolding inside
inside-yes r t h k = grind (arith, nat_tests)

hits-none : (r : Range) (rs : List Range) (t : ℕ) → AllApart r rs → r.first ≤ t → t < r.first + r.size → hits rs t ≡ 0
unfolding hits
hits-none r [] t a h k = refl
hits-none r (s ∷ rs) t a h k =
    let e : inside s t ≡ 0 = ⊎_elim (λ (before : r.first + r.size ≤ s.first). inside-no s t (inl (omega arith))) (λ (after : s.first + s.size ≤ r.first). inside-no s t (inr (omega arith))) a.0 in
    let f : hits rs t ≡ 0 = hits-none r rs t a.1 h k in
    omega arith

hits-one : (rs : List Range) (t : ℕ) → IsGood rs → hits rs t ≤ 1
unfolding hits
hits-one [] t g = omega arith
hits-one (r ∷ rs) t g =
    let more : hits rs t ≤ 1 = hits-one rs t g.2 in
    ⊎_elim
    (λ lt. let e : inside r t ≡ 0 = inside-no r t (inl lt) in omega arith)
    (λ ge. ⊎_elim
    (λ lt. let e : inside r t ≡ 1 = inside-yes r t ge lt in let f : hits rs t ≡ 0 = hits-none r rs t g.1 ge lt in omega arith)
    (λ past. let e : inside r t ≡ 0 = inside-no r t (inr past) in omega arith)
    (cases_lt t (r.first + r.size)))
    (cases_lt t r.first)

count-le : (rs : List Range) (n : ℕ) → IsGood rs → count (hits rs) n ≤ n
unfolding count
count-le rs zero g = omega arith
count-le rs (suc n) g = let a : hits rs n ≤ 1 = hits-one rs n g in let b : count (hits rs) n ≤ n = count-le rs n g in omega arith

count-inside : (r : Range) (n : ℕ) → count (inside r) n ≡ min (n - r.first) r.size
unfolding count
count-inside r zero = omega arith
count-inside r (suc n) =
    let b : count (inside r) n ≡ min (n - r.first) r.size = count-inside r n in
    ⊎_elim
    (λ (lt : n < r.first). let e : inside r n ≡ 0 = inside-no r n (inl lt) in omega arith)
    (λ (ge : r.first ≤ n). ⊎_elim
    (λ (lt : n < r.first + r.size). let e : inside r n ≡ 1 = inside-yes r n ge lt in omega arith)
    (λ (past : r.first + r.size ≤ n). let e : inside r n ≡ 0 = inside-no r n (inr past) in omega arith)
    (cases_lt n (r.first + r.size)))
    (cases_lt n r.first)

count-cons : (r : Range) (rs : List Range) (n : ℕ) → count (hits (r ∷ rs)) n ≡ count (inside r) n + count (hits rs) n
unfolding count hits
count-cons r rs zero = refl
count-cons r rs (suc n) = omega (arith, count-cons r rs n)

count-nil : (n : ℕ) → count (hits []) n ≡ 0
unfolding count hits
count-nil zero = refl
count-nil (suc n) = omega (arith, count-nil n)

count-sizes : (rs : List Range) (n : ℕ) → 1048576 ≤ n → IsGood rs → count (hits rs) n ≡ sizes rs
count-sizes [] n h g = count-nil n
count-sizes (r ∷ rs) n h g = let w : IsWithin r = g.0 in omega (arith, count-cons r rs n, count-inside r n, count-sizes rs n h g.2)

pub sizes-few : (rs : List Range) (n : ℕ) → 1048576 ≤ n → IsGood rs → sizes rs ≤ n
sizes-few rs n h g = omega (arith, count-sizes rs n h g, count-le rs n g)

pub index-in_ranges : (rs : List Range) (t : ℕ) → IsInRanges rs t → (i : ℕ) × (label_of rs i ≡ Some t)
index-in_ranges rs t h = at rs h.0 h.1 h.2 h.3 where
  at : (rs : List Range) (k : ℕ) → k < length rs → (range_at rs k).first ≤ t → t < (range_at rs k).first + (range_at rs k).size → (i : ℕ) × (label_of rs i ≡ Some t)
  at [] k lt low high = absurd (omega arith)
  at (r ∷ rs) zero lt low high =
      let i : t - r.first < r.size = omega arith in
      let e : r.first + (t - r.first) ≡ t = omega arith in
      (t - r.first, label-here r rs (t - r.first) i ∙ ap (λ k. Some k) e)
  at (r ∷ rs) (suc k) lt low high =
      let p : (i : ℕ) × (label_of rs i ≡ Some t) = at rs k (omega arith) low high in
      let e : r.size + p.0 - r.size ≡ p.0 = omega arith in
      (r.size + p.0, label-later r rs (r.size + p.0) (omega arith) ∙ ap (label_of rs) e ∙ p.1)

pub in_ranges-from_label : (rs : List Range) (i t : ℕ) → label_of rs i ≡ Some t → IsInRanges rs t
in_ranges-from_label [] i t e = absurd {0} (cc)
in_ranges-from_label (r ∷ rs) i t e =
    ⊎_elim
    (λ (here : (i < r.size) × (r.first + i ≡ t)). (0, omega arith, omega arith, omega arith))
    (λ later. let p : IsInRanges rs t = in_ranges-from_label rs (i - r.size) t later.1 in (suc p.0, omega (arith, p.1), p.2, p.3))
    (label-cases r rs i t e)

pub index-unique : (rs : List Range) → IsSrgb rs → (t : ℕ) (a b : Option ℕ) → IsIndexOf rs t a → IsIndexOf rs t b → a ≡ b
index-unique rs s t None None p q = refl
index-unique rs s t None (Some j) p q = absurd (p j q)
index-unique rs s t (Some i) None p q = absurd (q i p)
index-unique rs s t (Some i) (Some j) p q = ap Some (label-one rs i j t (good rs s) p q)

pub below-label : (rs : List Range) (i t : ℕ) → label_of rs i ≡ Some t → i < sizes rs
below-label rs i t e = ⊎_elim (λ lt. lt) (λ ge. let n : label_of rs i ≡ None = label-none rs i ge in absurd {0} (cc)) (cases_lt i (sizes rs))
