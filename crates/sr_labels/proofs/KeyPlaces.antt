-- Keys of one pair of nodes stand next to each other in ascending keys.
use Rattle.std.proofs.Common.{◌≡◌, ◌≢◌, ℕ, zero, suc, ◌+◌, ◌-◌, ◌<◌, ◌≤◌, ◌⊎◌, ⊎_elim, inl, inr, Bool, true, false, cond, List, [], ◌∷◌, ◌++◌, length, get_or, take, drop, refl, arith, ap, sym, ◌∙◌, subst, Option, Some, None, zero-add, suc-add}
use Rattle.std.specs.Prelude.{filter, slice_get, nat_lt}
use Rattle.std.specs.declared.cmp.Ordering.{Ordering}
use Rattle.std.specs.declared.cmp.Ordering.TheVariants.{Less, Equal, Greater}
use Rattle.std.specs.Ordering.{is_lt, ordering_reverse, ordering_index}
use Rattle.std.specs.List.Sorted.{IsSortedBy, IsPartitionedBy, IsNonDecreasingBy, IsPartitionPoint}
use Rattle.std.proofs.lemmas.List.Sorted.{searchable_from_sorted}
use Rattle.std.proofs.lemmas.Cmp.{tied_itself}
use Rattle.std.proofs.lemmas.Bool.{cases_eq, cases_lt, lt-ltb}
use Rattle.std.proofs.lemmas.Bool.Decides.{nat_tests}
use Rattle.std.proofs.lemmas.List.{take-append-drop, get_or-take, get_or-drop, length-drop, length-take-le}
use Rattle.std.proofs.lemmas.List.Elements.{filter-append}
use Rattle.std.proofs.lemmas.Option.{slice_get-get_or}
use Rattle.sr_model.specs.declared.name.LinkKey.{LinkKey}
use Rattle.sr_model.specs.Key.{KeyLt}
use Rattle.sr_model.specs.KeyOrder.{key_cmp}
use Rattle.sr_model.specs.Label.{keys_between, key_named, IsPlace}
use Rattle.sr_model.proofs.KeyOrderLemmas.{key_total, key_cmp-lt}
use Rattle.sr_labels.specs.Keys.{Ascend, Hold, is_before, joins}

-- ---- those that pass a test, where all that fail come last
module _ {X : Type 0} (e : X → Bool) where
  abbrev pub keep : Option X → Option X
  keep None = None
  keep (Some x) = cond (e x) (Some x) None

  filter-none : (xs : List X) → ((i : ℕ) (d : X) → i < length xs → e (get_or xs i d) ≡ false) → filter e xs ≡ []
  filter-none [] h = refl
  filter-none (x ∷ xs) h = rw (h 0 x (omega arith)) (filter-none xs (λ i d lt. h (suc i) d (omega arith)))

  keep-none : (xs : List X) (n : ℕ) → ((i : ℕ) (d : X) → i < length xs → e (get_or xs i d) ≡ false) → None ≡ keep (slice_get xs n)
  keep-none [] n h = refl
  keep-none (x ∷ xs) zero h = rw (h 0 x (omega arith)) refl
  keep-none (x ∷ xs) (suc n) h = keep-none xs n (λ i d lt. h (suc i) d (omega arith))

  -- after an item for which e doesn't hold, it holds for no later one
  abbrev Falls : List X → Type 0
  Falls xs = (i j : ℕ) (d : X) → i < j → j < length xs → e (get_or xs i d) ≡ false → e (get_or xs j d) ≡ false

  get-first_by : (y : X) (ys : List X) (n : ℕ) (b : Bool) → e y ≡ b → Falls (y ∷ ys) → ((m : ℕ) → slice_get (filter e ys) m ≡ keep (slice_get ys m)) → slice_get (cond b (y ∷ filter e ys) (filter e ys)) n ≡ keep (slice_get (y ∷ ys) n)
  get-first_by y ys zero true f falls rest = rw f refl
  get-first_by y ys (suc n) true f falls rest = rest n
  get-first_by y ys n false f falls rest =
      let none : (i : ℕ) (d : X) → i < length (y ∷ ys) → e (get_or (y ∷ ys) i d) ≡ false = λ i d lt. ⊎_elim
      (λ (z : i ≡ 0). let P : ℕ → Type 0 = λ k. e (get_or (y ∷ ys) k d) ≡ false in subst P (sym z) f)
      (λ (more : i ≢ 0). falls 0 i d (omega arith) lt f)
      (cases_eq i 0) in
      rw (filter-none ys (λ i d lt. none (suc i) d (omega arith))) (keep-none (y ∷ ys) n none)

  get-first : (ys : List X) (n : ℕ) → Falls ys → slice_get (filter e ys) n ≡ keep (slice_get ys n)
  get-first [] n falls = refl
  get-first (y ∷ ys) n falls = get-first_by y ys n (e y) refl falls (λ m. get-first ys m (λ i j d lt le f. falls (suc i) (suc j) d (omega arith) (omega arith) f))

  slice_get-drop : (p : ℕ) (xs : List X) (n : ℕ) → slice_get (drop p xs) n ≡ slice_get xs (p + n)
  slice_get-drop zero xs n = rw (zero-add n) refl
  slice_get-drop (suc p) [] n = refl
  slice_get-drop (suc p) (x ∷ xs) n = rw (suc-add p n) (slice_get-drop p xs n)

  -- those that pass stand next to each other from place p on
  pub get-from : (xs : List X) (p n : ℕ) → p ≤ length xs → ((i : ℕ) (d : X) → i < p → e (get_or xs i d) ≡ false) → ((i j : ℕ) (d : X) → p ≤ i → i < j → j < length xs → e (get_or xs i d) ≡ false → e (get_or xs j d) ≡ false) → slice_get (filter e xs) n ≡ keep (slice_get xs (p + n))
  get-from xs p n le before falls =
      let none : filter e (take p xs) ≡ [] = filter-none (take p xs) (λ i d lt. let low : i < p = omega (arith, length-take-le p xs le) in rw (get_or-take p xs i d low) (before i d low)) in
      let all : filter e xs ≡ filter e (drop p xs) = ap (filter e) (sym (take-append-drop p xs)) ∙ filter-append e (take p xs) (drop p xs) ∙ ap (λ l. l ++ filter e (drop p xs)) none in
      let later : Falls (drop p xs) = λ i j d lt within f. rw (get_or-drop p xs j d) (falls (p + i) (p + j) d (omega arith) (omega arith) (omega (arith, length-drop p xs)) (rw (get_or-drop p xs i d) at f)) in
      ap (λ l. slice_get l n) all ∙ get-first (drop p xs) n later ∙ ap keep (slice_get-drop p xs n)

-- ---- ascending keys
pub ascend-at : (keys : List LinkKey) → Ascend keys → (i j : ℕ) (d : LinkKey) → i < j → j < length keys → KeyLt (get_or keys i d) (get_or keys j d)
ascend-at keys up i j d lt within = up i j (get_or keys i d) (get_or keys j d) lt (slice_get-get_or keys i d (omega arith)) (slice_get-get_or keys j d within)

-- by the beginning, then by the end
abbrev EndsLe : LinkKey → LinkKey → Type 0
EndsLe a b = (a.from < b.from) ⊎ ((a.from ≡ b.from) × (a.to ≤ b.to))

ends-below : (a b : LinkKey) → KeyLt a b → EndsLe a b
ends-below a b lt = ⊎_elim (λ low. inl low) (λ rest. inr (rest.0, ⊎_elim (λ (low : a.to < b.to). omega arith) (λ last. let same : a.to ≡ b.to = last.0 in omega arith) rest.1)) lt

before_le : (a b : ℕ) (x y : LinkKey) → EndsLe x y → is_before a b y ≡ true → is_before a b x ≡ true
before_le a b x y le e = grind (arith, nat_tests)

joins_later : (a b : ℕ) (x y : LinkKey) → EndsLe x y → is_before a b x ≡ false → joins a b x ≡ false → joins a b y ≡ false
joins_later a b x y le e f = grind (arith, nat_tests)

before_apart : (a b : ℕ) (x : LinkKey) → is_before a b x ≡ true → joins a b x ≡ false
before_apart a b x e = grind (arith, nat_tests)

pub partitioned : (keys : List LinkKey) (a b : ℕ) → Ascend keys → IsPartitionedBy (is_before a b) keys
partitioned keys a b up i j d le lt e = ⊎_elim
    (λ (same : i ≡ j). let P : ℕ → Type 0 = λ k. is_before a b (get_or keys k d) ≡ true in subst P (sym same) e)
    (λ (differ : i ≢ j). before_le a b (get_or keys i d) (get_or keys j d) (ends-below (get_or keys i d) (get_or keys j d) (ascend-at keys up i j d (omega arith) lt)) e)
    (cases_eq i j)

-- p is the place of the first key whose ends don't come before a and b
pub record IsStart (keys : List LinkKey) (a b p : ℕ) : Type 0 where
  pub ascending : Ascend keys
  pub within : p ≤ length keys
  pub before : (k : ℕ) (d : LinkKey) → k < p → is_before a b (get_or keys k d) ≡ true
  pub after : (k : ℕ) (d : LinkKey) → p ≤ k → k < length keys → is_before a b (get_or keys k d) ≡ false

get-between : (keys : List LinkKey) (a b p n : ℕ) → IsStart keys a b p → slice_get (keys_between keys a b) n ≡ keep (joins a b) (slice_get keys (p + n))
get-between keys a b p n s = get-from (joins a b) keys p n s.within
    (λ i d lt. before_apart a b (get_or keys i d) (s.before i d lt))
    (λ i j d le lt within e. joins_later a b (get_or keys i d) (get_or keys j d) (ends-below (get_or keys i d) (get_or keys j d) (ascend-at keys s.ascending i j d lt within)) (s.after i d le (omega arith)) e)

slice_get-none : {X : Type 0} (xs : List X) (i : ℕ) → length xs ≤ i → slice_get xs i ≡ None
slice_get-none [] i le = refl
slice_get-none (x ∷ xs) zero le = absurd (omega arith)
slice_get-none (x ∷ xs) (suc i) le = slice_get-none xs i (omega arith)

module _ (keys : List LinkKey) (a b p : ℕ) (s : IsStart keys a b p) (n : ℕ) (some : 0 < n) where
  named-get : key_named keys a b n ≡ keep (joins a b) (slice_get keys (p + (n - 1)))
  named-get =
      let e : nat_lt 0 n ≡ true = lt-ltb 0 n some in
      ap (λ t. cond t (slice_get (keys_between keys a b) (n - 1)) None) e ∙ get-between keys a b p (n - 1) s

  named-at : (key : LinkKey) → p + (n - 1) < length keys → key ≡ get_or keys (p + (n - 1)) key → key_named keys a b n ≡ cond (joins a b key) (Some key) None
  named-at key lt is =
      let got : slice_get keys (p + (n - 1)) ≡ Some key = slice_get-get_or keys (p + (n - 1)) key lt ∙ ap Some (sym is) in
      named-get ∙ ap (keep (joins a b)) got

  pub named-found : (key : LinkKey) → p + (n - 1) < length keys → key ≡ get_or keys (p + (n - 1)) key → joins a b key ≡ true → Some key ≡ key_named keys a b n
  named-found key lt is e = sym (named-at key lt is ∙ ap (λ t. cond t (Some key) None) e)

  pub named-other : (key : LinkKey) → p + (n - 1) < length keys → key ≡ get_or keys (p + (n - 1)) key → joins a b key ≡ false → None ≡ key_named keys a b n
  named-other key lt is e = sym (named-at key lt is ∙ ap (λ t. cond t (Some key) None) e)

  pub named-past : length keys ≤ p + (n - 1) → None ≡ key_named keys a b n
  named-past le = sym (named-get ∙ ap (keep (joins a b)) (slice_get-none keys (p + (n - 1)) le))

-- ---- the number of a key
greater_not_lt : (r s : Ordering) → r ≡ Less → r ≡ ordering_reverse s → is_lt s ≡ false
greater_not_lt r Less e f = absurd (cc)
greater_not_lt r Equal e f = refl
greater_not_lt r Greater e f = refl

sorted-from : (keys : List LinkKey) → Ascend keys → IsSortedBy (λ x y. is_lt (key_cmp x y)) keys
sorted-from keys up k d le lt = greater_not_lt (key_cmp (get_or keys k d) (get_or keys (k + 1) d)) (key_cmp (get_or keys (k + 1) d) (get_or keys k d)) (key_cmp-lt _ _ (ascend-at keys up k (k + 1) d (omega arith) lt)) (key_total.antisymm (get_or keys k d) (get_or keys (k + 1) d))

joins-itself : (k : LinkKey) → joins k.from k.to k ≡ true
joins-itself k = grind (arith, nat_tests)

module _ (keys : List LinkKey) (key : LinkKey) (p at : ℕ) (s : IsStart keys key.from key.to p) (within : at < length keys) (is : get_or keys at key ≡ key) where
  pub start-le : p ≤ at
  start-le = ⊎_elim
      (λ (low : at < p).
      let before : is_before key.from key.to key ≡ true = subst (λ k. is_before key.from key.to k ≡ true) is (s.before at key low) in
      let bad : true ≡ false = sym (joins-itself key) ∙ before_apart key.from key.to key before in absurd (cc))
      (λ (le : p ≤ at). le)
      (cases_lt at p)

  pub place-named : IsPlace keys key (at - p + 1)
  place-named =
      let le : p ≤ at = start-le in
      let i : p + (at - p + 1 - 1) ≡ at = omega arith in
      let there : get_or keys (p + (at - p + 1 - 1)) key ≡ key = ap (λ k. get_or keys k key) i ∙ is in
      sym (named-found keys key.from key.to p s (at - p + 1) (omega arith) key (omega arith) (sym there) (joins-itself key))

-- a binary search finds a key that is there
held-at : (keys : List LinkKey) (key : LinkKey) (i : ℕ) → slice_get keys i ≡ Some key → (i < length keys) × (get_or keys i key ≡ key)
held-at keys key i e =
    ⊎_elim
    (λ (lt : i < length keys). (lt, (let f : Some (get_or keys i key) ≡ Some key = sym (slice_get-get_or keys i key lt) ∙ e in cc)))
    (λ (ge : length keys ≤ i). absurd (let f : None ≡ Some key = sym (slice_get-none keys i ge) ∙ e in cc))
    (cases_lt i (length keys))

pub not_missed : (keys : List LinkKey) (key : LinkKey) (i : ℕ) → Ascend keys → Hold keys key → (IsNonDecreasingBy (λ y. ordering_index (key_cmp y key)) keys → IsPartitionPoint (λ y. key_cmp y key ≡ Less) (λ y. key_cmp y key ≡ Greater) keys i) → ⊥
not_missed keys key i up there missed =
    let parts : IsPartitionPoint (λ y. key_cmp y key ≡ Less) (λ y. key_cmp y key ≡ Greater) keys i = missed (searchable_from_sorted key_total (λ (k : LinkKey). k) keys key (sorted-from keys up)) in
    let at = held-at keys key there.0 there.1 in
    let same : key_cmp (get_or keys there.0 key) key ≡ Equal = ap (λ k. key_cmp k key) at.1 ∙ tied_itself key_total key in
    ⊎_elim
    (λ (low : there.0 < i). let bad : Less ≡ Equal = sym (parts.0 there.0 key (omega arith) low) ∙ same in cc)
    (λ (high : i ≤ there.0). let bad : Greater ≡ Equal = sym (parts.1 there.0 key high at.0) ∙ same in cc)
    (cases_lt there.0 i)
