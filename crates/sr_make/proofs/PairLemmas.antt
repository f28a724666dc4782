-- The spans and the pairs of a made net: one node more, how many there are, and what they join.
use Rattle.std.proofs.Common.{◌≡◌, ℕ, zero, suc, ◌+◌, ◌<◌, ◌≤◌, ◌≢◌, ◌⊎◌, ◌/◌, ◌%◌, nat_le, not, Bool, true, false, List, [], ◌∷◌, ◌++◌, if◌then◌else◌, filter, map, length, refl, sym, ap, ◌∙◌, arith, append_assoc, append-nil, inl, inr}
use Rattle.std.specs.List.{All, range_with_len}
use Rattle.sr_make.specs.declared.pairs.TheConstants.{CHORD_NODES}
use Rattle.sr_make.specs.declared.making.TheConstants.{FEWEST_NODES}
use Rattle.sr_make.specs.declared.pairs.Span.{Span}
use Rattle.sr_make.specs.Draws.{drawn_from, next_state}
use Rattle.sr_make.specs.Joined.{EachMadePairJoins, IsPairOf, IsSpanOf}
use Rattle.sr_make.specs.Pairs.{begins_chord, chord_span, chord_spans, drawn_pair, drawn_pairs, made_spans, ring_span, ring_spans}
use Rattle.std.proofs.lemmas.List.FromFn.{length-map-range_with_len, length-range_with_len, map-range_with_len_more}
use Rattle.std.proofs.lemmas.List.{map-append, length-append, length-map}
use Rattle.std.proofs.lemmas.List.Elements.{All-append, All-cons, All-filter, All-head, All-map, All-nil, All-tail, filter-append}
use Rattle.std.proofs.lemmas.Bool.{cases_lt}
use Rattle.std.proofs.lemmas.Nat.{mod_below}
use Rattle.std.proofs.Math.Nat.{mod-eq_of_lt, mod_self}
use Rattle.std.proofs.lemmas.List.Filters.{length-filter_both}

-- the numbers of a range, and one more
pub range-more : (a n : ℕ) → range_with_len a (n + 1) ≡ range_with_len a n ++ (a + n) ∷ []
range-more a zero = ap (λ m. m ∷ []) (omega arith)
range-more a (suc n) =
    let h = range-more (a + 1) n in
    let at : a + 1 + n ≡ a + suc n = omega arith in
    let next : suc n + 1 ≡ suc (n + 1) = omega arith in
    ap (range_with_len a) next ∙ ap (λ l. a ∷ l) (h ∙ ap (λ m. range_with_len (a + 1) n ++ m ∷ []) at)

-- what each number from 1 gives, and what the next one gives
pub map-next : {X : Type 0} (f : ℕ → X) (n : ℕ) (before : List X)
    → (before ++ map f (range_with_len 1 n)) ++ f (n + 1) ∷ [] ≡ before ++ map f (range_with_len 1 (n + 1))
map-next f n before =
    append_assoc before (map f (range_with_len 1 n)) (f (n + 1) ∷ [])
    ∙ ap (λ l. before ++ l) (sym (map-range_with_len_more f 1 n (n + 1) (omega arith)))

-- whether the item passes or not, what those that pass give, and what it gives
pub kept-one : {X Y : Type 0} (f : X → Y) (p : X → Bool) (x : X) → p x ≡ true → map f (filter p (x ∷ [])) ≡ f x ∷ []
kept-one f p x e = rw e refl

pub kept-none : {X Y : Type 0} (f : X → Y) (p : X → Bool) (x : X) → p x ≡ false → map f (filter p (x ∷ [])) ≡ []
kept-none f p x e = rw e refl

-- what those numbers from 1 give that pass, and what the next one gives, which passes
pub kept-next : {X : Type 0} (f : ℕ → X) (p : ℕ → Bool) (n : ℕ) (before : List X) → p (n + 1) ≡ true
    → (before ++ map f (filter p (range_with_len 1 n))) ++ f (n + 1) ∷ [] ≡ before ++ map f (filter p (range_with_len 1 (n + 1)))
kept-next f p n before e =
    let at : 1 + n ≡ n + 1 = omega arith in
    append_assoc before (map f (filter p (range_with_len 1 n))) (f (n + 1) ∷ [])
    ∙ ap (λ l. before ++ l) (
    sym (ap (λ l. map f (filter p (range_with_len 1 n)) ++ l) (kept-one f p (n + 1) e))
    ∙ sym (map-append f (filter p (range_with_len 1 n)) (filter p ((n + 1) ∷ [])))
    ∙ ap (map f) (sym (filter-append p (range_with_len 1 n) ((n + 1) ∷ [])) ∙ ap (filter p) (ap (λ m. range_with_len 1 n ++ m ∷ []) (sym at) ∙ sym (range-more 1 n)))
    )

-- what those give that pass, where the next one doesn't
pub kept-same : {X : Type 0} (f : ℕ → X) (p : ℕ → Bool) (n : ℕ) (before : List X) → p (n + 1) ≡ false
    → before ++ map f (filter p (range_with_len 1 n)) ≡ before ++ map f (filter p (range_with_len 1 (n + 1)))
kept-same f p n before e =
    let at : 1 + n ≡ n + 1 = omega arith in
    ap (λ l. before ++ l) (
    sym (append-nil (map f (filter p (range_with_len 1 n))))
    ∙ sym (ap (λ l. map f (filter p (range_with_len 1 n)) ++ l) (kept-none f p (n + 1) e))
    ∙ sym (map-append f (filter p (range_with_len 1 n)) (filter p ((n + 1) ∷ [])))
    ∙ ap (map f) (sym (filter-append p (range_with_len 1 n) ((n + 1) ∷ [])) ∙ ap (filter p) (ap (λ m. range_with_len 1 n ++ m ∷ []) (sym at) ∙ sym (range-more 1 n)))
    )

-- no more items pass than there are
pub length-kept : {X : Type 0} (p : X → Bool) (xs : List X) → length (filter p xs) ≤ length xs
length-kept p xs = omega (arith, length-filter_both p (λ x. not (p x)) (λ x. refl) xs)

-- as many spans as the ring has nodes
length-ring : (nodes : ℕ) → length (ring_spans nodes) ≡ nodes
length-ring nodes = length-map-range_with_len (ring_span nodes) 1 nodes

-- and at most half as many chords
length-chords : (nodes : ℕ) → length (chord_spans nodes) ≤ nodes / 2
length-chords nodes =
    omega (arith, length-map (filter begins_chord (range_with_len 1 (nodes / 2))) (chord_span nodes), length-kept begins_chord (range_with_len 1 (nodes / 2)), length-range_with_len 1 (nodes / 2))

length-more : (nodes : ℕ) (b : Bool) → length (if b then chord_spans nodes else []) ≤ nodes / 2
length-more nodes true = length-chords nodes
length-more nodes false = omega arith

pub length-spans : (nodes : ℕ) → length (made_spans nodes) ≤ nodes + nodes / 2
length-spans nodes =
    omega (arith, length-append (ring_spans nodes) (if nat_le CHORD_NODES nodes then chord_spans nodes else []), length-ring nodes, length-more nodes (nat_le CHORD_NODES nodes))

-- ---- what the pairs join

-- what holds of each number of a range holds of each item of it
range-all : (P : ℕ → Type 0) (a n : ℕ) → ((i : ℕ) → a ≤ i → i < a + n → P i) → All P (range_with_len a n)
range-all P a zero h = All-nil P
range-all P a (suc n) h =
    All-cons P a (range_with_len (a + 1) n) (h a (omega arith) (omega arith))
    (range-all P (a + 1) n (λ i low high. h i (omega (arith, low)) (omega (arith, high))))

-- a node of a ring isn't the next one
ring-apart : (nodes i : ℕ) → FEWEST_NODES ≤ nodes → 1 ≤ i → i ≤ nodes → i ≢ i % nodes + 1
ring-apart nodes i fewest low high e = by_cases (cases_lt i nodes)
  where
    by_cases : (i < nodes) ⊎ (nodes ≤ i) → ⊥
    by_cases (inl less) = omega (arith, e, mod-eq_of_lt {n = i} {m = nodes} less)
    by_cases (inr more) = (let last : i ≡ nodes = omega (arith, high, more) in omega (arith, e, fewest, last, ap (λ m. m % nodes) last, mod_self nodes))

ring-joins : (nodes i : ℕ) → FEWEST_NODES ≤ nodes → 1 ≤ i → i ≤ nodes → IsSpanOf nodes (ring_span nodes i)
ring-joins nodes i fewest low high = record {
  first = (low, high);
  second = (omega arith, omega (arith, mod_below i nodes (omega (arith, fewest))));
  apart = ring-apart nodes i fewest low high;
}

chord-joins : (nodes i : ℕ) → 1 ≤ i → i ≤ nodes / 2 → IsSpanOf nodes (chord_span nodes i)
chord-joins nodes i low high = record { first = (low, omega (arith, high)); second = (omega (arith, low), omega (arith, high)); apart = λ e. omega (arith, low, high, e) }

more-join : (nodes : ℕ) (b : Bool) → All (IsSpanOf nodes) (if b then chord_spans nodes else [])
more-join nodes true =
    All-map (IsSpanOf nodes) (chord_span nodes) (filter begins_chord (range_with_len 1 (nodes / 2)))
    (All-filter begins_chord (λ i. IsSpanOf nodes (chord_span nodes i)) (range_with_len 1 (nodes / 2))
    (range-all (λ i. IsSpanOf nodes (chord_span nodes i)) 1 (nodes / 2) (λ i low high. chord-joins nodes i low (omega (arith, high)))))
more-join nodes false = All-nil (IsSpanOf nodes)

spans-join : (nodes : ℕ) → FEWEST_NODES ≤ nodes → All (IsSpanOf nodes) (made_spans nodes)
spans-join nodes fewest =
    All-append (IsSpanOf nodes) (ring_spans nodes) (if nat_le CHORD_NODES nodes then chord_spans nodes else [])
    (All-map (IsSpanOf nodes) (ring_span nodes) (range_with_len 1 nodes)
    (range-all (λ i. IsSpanOf nodes (ring_span nodes i)) 1 nodes (λ i low high. ring-joins nodes i fewest low (omega (arith, high)))))
    (more-join nodes (nat_le CHORD_NODES nodes))

drawn-join : (nodes x number : ℕ) (spans : List Span) → All (IsSpanOf nodes) spans → All (IsPairOf nodes) (drawn_pairs x number spans)
drawn-join nodes x number [] join = All-nil (IsPairOf nodes)
drawn-join nodes x number (span ∷ spans) join =
    All-cons (IsPairOf nodes) (drawn_pair x number span) (drawn_pairs (next_state (next_state x)) (number + 1) spans)
    (record {
      span = All-head (IsSpanOf nodes) span spans join;
      metric = (omega arith, omega (arith, mod_below (drawn_from x) 20 (omega arith)));
      group = (omega arith, omega (arith, mod_below (drawn_from (next_state x)) 8 (omega arith)));
    })
    (drawn-join nodes (next_state (next_state x)) (number + 1) spans (All-tail (IsSpanOf nodes) span spans join))

pub each-joins : EachMadePairJoins
each-joins nodes start fewest = drawn-join nodes start 1 (made_spans nodes) (spans-join nodes fewest)
