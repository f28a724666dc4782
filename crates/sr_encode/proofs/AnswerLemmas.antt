-- How what is listed in a case is collected, and what a search by destination finds in them.
use Rattle.std.proofs.Common.{◌≡◌, ◌≢◌, ℕ, zero, suc, ◌+◌, ◌<◌, ◌≤◌, ⊎_elim, ◌-◌, Bool, true, false, List, [], ◌∷◌, ◌++◌, length, take, drop, slice_range, get_or, refl, arith, ap, sym, ◌∙◌, subst, Ok, Err}
use Rattle.std.specs.Prelude.{All}
use Rattle.std.specs.List.Sorted.{IsBinarySearchResult, IsNonDecreasingBy}
use Rattle.std.specs.Ordering.{nat_cmp, ordering_index}
use Rattle.std.proofs.lemmas.Cmp.{ranked}
use Rattle.std.proofs.lemmas.List.Sorted.{IsNonDecreasingBy-from_default}
use Rattle.std.proofs.lemmas.Bool.{cases_Bool, cases_eq, cases_lt, true≢false}
use Rattle.std.proofs.lemmas.Bool.Decides.{nat_tests}
use Rattle.std.proofs.lemmas.List.{length-append, length-drop, length-map, get_or-map, get_or_push, get_or_append_left, get_or_past, map-append, drop-append-le, drop_all, take-append-le, take_all}
use Rattle.std.proofs.lemmas.List.Elements.{All-get_or, All-head, All-tail, All-push, All-weaker}
use Rattle.sr_lanes.specs.declared.limits.TheConstants.{NODES_AT_MOST}
use Rattle.sr_lanes.specs.declared.words.NodeBits.{NodeBits}
use Rattle.sr_lanes.specs.Bits.{is_in, count_below, member_count, IsFirstIn, IsWithout}
use Rattle.sr_lanes.proofs.SizeLemmas.{without-other, without-inside, size-less}
use Rattle.sr_model.specs.declared.case.Case.{Case}
use Rattle.sr_model.specs.declared.repair.Answer.{Answer}
use Rattle.sr_model.specs.declared.repair.Answer.TheVariants.{Least, NoPath}
use Rattle.sr_model.specs.declared.repair.Segment.{Segment}
use Rattle.sr_model.specs.Graph.{node_count}
use Rattle.sr_model.specs.Label.{Net, Labels, labels_at, nameless}
use Rattle.sr_model.specs.Case.{IsFailedSet, IsAffected, source_of}
use Rattle.sr_laws.specs.Listed.{IsListed}
use Rattle.sr_encode.specs.declared.answers.NodeAnswer.{NodeAnswer}
use Rattle.sr_encode.specs.declared.kept.Outcome.{Outcome}
use Rattle.sr_encode.specs.declared.kept.Outcome.TheVariants.{Least as ListOutcome, NoPath as NoPathOutcome, NoList as NoListOutcome}
use Rattle.sr_encode.specs.declared.kept.Kept.{Kept}
use Rattle.sr_encode.specs.Kept.{outcome_at, answer_from, entry_from, entries, no_kept, HasSegments, AreKeptWithin, IsListOutcome, IsOfSome}
use Rattle.sr_encode.specs.Answered.{node_answer_at, destination_at, AscendByNode, AreAffected, AreLists, AreListed}
use Rattle.sr_seq.proofs.ListLemmas.{none-not_some}

-- what stands for an entry past the end of a list
abbrev pub no_entry : NodeAnswer
no_entry = record { destination = record { 0 = 0 }; answer = NoPath }

pub affected-within : (n : Net) (case : Case) (d : ℕ) → length n.labels ≡ node_count n.graph → IsAffected n case d → d < node_count n.graph
affected-within n case d long a =
    ⊎_elim
    (λ (lt : d < node_count n.graph). lt)
    (λ (ge : node_count n.graph ≤ d).
    let past : labels_at n d ≡ nameless = get_or_past n.labels d nameless (omega arith) in
    absurd (none-not_some (labels_at n d).index (ap (λ (k : Labels). k.index) past) a.index))
    (cases_lt d (node_count n.graph))

-- the destinations of the set that aren't left have what is listed for them, ascending, and those that are left come behind them
pub record AreListedBut (n : Net) (x : List Bool) (s : ℕ) (wanted left : NodeBits) (list : List NodeAnswer) : Type 0 where
  pub ascending : AscendByNode list
  pub inside : (v : ℕ) → is_in left v ≡ true → is_in wanted v ≡ true
  pub each : All (λ (e : NodeAnswer). (is_in wanted e.destination.0 ≡ true) × IsListed n x s e.destination.0 e.answer) list
  pub before : All (λ (e : NodeAnswer). (v : ℕ) → is_in left v ≡ true → e.destination.0 < v) list
  pub all : (d : ℕ) → is_in wanted d ≡ true → is_in left d ≡ false → (i : ℕ) × (i < length list) × (destination_at list i ≡ d)
  pub few : length list + member_count left ≤ NODES_AT_MOST

-- a test says yes to no more numbers below n than there are
count_below-most : (test : ℕ → Bool) (n : ℕ) → count_below test n ≤ n
unfolding count_below
count_below-most test zero = omega arith
count_below-most test (suc n) =
    let before : count_below test n ≤ n = count_below-most test n in
    ⊎_elim
    (λ (yes : test n ≡ true). rw yes (omega (arith, before)))
    (λ (no : test n ≡ false). rw no (omega (arith, before)))
    (cases_Bool (test n))

pub listed-start : (n : Net) (x : List Bool) (s : ℕ) (wanted : NodeBits) → AreListedBut n x s wanted wanted []
unfolding member_count
listed-start n x s wanted = record {
  ascending = λ i j up lt. absurd (omega arith);
  inside = λ v is. is;
  each = λ i e lt. absurd (omega arith);
  before = λ i e lt. absurd (omega arith);
  all = λ d is out. absurd (true≢false (sym is ∙ out));
  few = omega (arith, count_below-most (is_in wanted) 256);
}

-- no node that is left comes before the first
first-up : (left : NodeBits) (v w : ℕ) → IsFirstIn left v → is_in left w ≡ true → v ≤ w
first-up left v w first is =
    ⊎_elim
    (λ (lt : w < v). absurd (true≢false (sym is ∙ first.least w lt)))
    (λ (le : v ≤ w). le)
    (cases_lt w v)

-- an entry behind the others is that of the first node that is left
module _ (n : Net) (x : List Bool) (s : ℕ) (wanted left less : NodeBits) (list : List NodeAnswer) (entry : NodeAnswer) (r : AreListedBut n x s wanted left list) (first : IsFirstIn left entry.destination.0) (taken : IsWithout left less entry.destination.0) where
  old : (i : ℕ) → i < length list → node_answer_at (list ++ entry ∷ []) i ≡ node_answer_at list i
  old i lt = get_or_append_left list (entry ∷ []) no_entry i lt

  last : destination_at (list ++ entry ∷ []) (length list) ≡ entry.destination.0
  last = ap (λ (e : NodeAnswer). e.destination.0) (get_or_push list entry no_entry (length list) refl)

  longer : length (list ++ entry ∷ []) ≡ length list + 1
  longer = length-append list (entry ∷ [])

  ascends : AscendByNode (list ++ entry ∷ [])
  ascends i j up lt =
      ⊎_elim
      (λ (early : j < length list).
      let low : destination_at list i < destination_at list j = r.ascending i j up early in
      omega (arith, ap (λ (e : NodeAnswer). e.destination.0) (old i (omega arith)), ap (λ (e : NodeAnswer). e.destination.0) (old j early)))
      (λ (late : length list ≤ j).
      let at : j ≡ length list = omega (arith, longer) in
      let low : destination_at list i < entry.destination.0 = r.before i no_entry (omega arith) entry.destination.0 first.member in
      let here : destination_at (list ++ entry ∷ []) j ≡ entry.destination.0 = ap (λ k. destination_at (list ++ entry ∷ []) k) at ∙ last in
      omega (arith, ap (λ (e : NodeAnswer). e.destination.0) (old i (omega arith))))
      (cases_lt j (length list))

  found : (d : ℕ) → is_in wanted d ≡ true → is_in less d ≡ false → (i : ℕ) × (i < length (list ++ entry ∷ [])) × (destination_at (list ++ entry ∷ []) i ≡ d)
  found d is out =
      ⊎_elim
      (λ (here : d ≡ entry.destination.0). (length list, omega (arith, longer), last ∙ sym here))
      (λ (ne : d ≢ entry.destination.0).
      let q = r.all d is (sym (without-other left less entry.destination.0 d taken ne) ∙ out) in
      let lt : q.0 < length list = q.1 in
      (q.0, omega (arith, longer, lt), ap (λ (e : NodeAnswer). e.destination.0) (old q.0 lt) ∙ q.2))
      (cases_eq d entry.destination.0)

  behind : (w : ℕ) → is_in less w ≡ true → entry.destination.0 < w
  behind w is =
      let told = without-inside left less entry.destination.0 w taken is in
      let ne : w ≢ entry.destination.0 = told.0 in
      let up : entry.destination.0 ≤ w = first-up left entry.destination.0 w first told.1 in
      omega arith

  -- so the others but it are left
  pub listed-next : IsListed n x s entry.destination.0 entry.answer → AreListedBut n x s wanted less (list ++ entry ∷ [])
  listed-next answer = record {
    ascending = ascends;
    inside = λ v is. r.inside v (without-inside left less entry.destination.0 v taken is).1;
    each = All-push (λ (e : NodeAnswer). (is_in wanted e.destination.0 ≡ true) × IsListed n x s e.destination.0 e.answer) list entry r.each (r.inside entry.destination.0 first.member, answer);
    before = All-push (λ (e : NodeAnswer). (w : ℕ) → is_in less w ≡ true → e.destination.0 < w) list entry
        (All-weaker (λ (e : NodeAnswer). (w : ℕ) → is_in left w ≡ true → e.destination.0 < w) (λ (e : NodeAnswer). (w : ℕ) → is_in less w ≡ true → e.destination.0 < w) (λ e low w is. low w (without-inside left less entry.destination.0 w taken is).1) list r.before)
        behind;
    all = found;
    few = (let shrinks : member_count less < member_count left = size-less left less entry.destination.0 first taken in omega (arith, longer, r.few));
  }

-- none is left
pub listed-over : (n : Net) (x : List Bool) (s : ℕ) (wanted left : NodeBits) (list : List NodeAnswer) → AreListedBut n x s wanted left list → ((v : ℕ) → is_in left v ≡ false) → AreListed n x s wanted list
listed-over n x s wanted left list r none = record {
  ascending = r.ascending;
  within = λ i lt. (r.each i no_entry lt).0;
  lists = λ i lt. (r.each i no_entry lt).1;
  all = λ d is. r.all d is (none d);
}

-- all that is listed in the case
pub lists-over : (n : Net) (case : Case) (x : List Bool) (wanted : NodeBits) (list : List NodeAnswer) → IsFailedSet n.graph case x → AreAffected n case wanted → AreListed n x (source_of n.graph case) wanted list → AreLists n case list
lists-over n case x wanted list set r a = record {
  ascending = a.ascending;
  affected = λ i lt. (r (destination_at list i)).0 (a.within i lt);
  answers = λ i lt. record { failed = x; set = set; listed = a.lists i lt };
  all = λ d is. a.all d ((r d).1 is);
}

-- the answers that are kept, read by place
pub kept-at : (start : ℕ) (segments : List Segment) (outcomes : List Outcome) (kept : List Kept) (i : ℕ) → i < length kept → node_answer_at (entries segments outcomes kept start) i ≡ entry_from start segments outcomes (get_or kept i no_kept)
kept-at start segments outcomes kept i lt = get_or-map (entry_from start segments outcomes) kept i no_kept no_entry lt

-- what a search by destination finds
module _ (start : ℕ) (segments : List Segment) (outcomes : List Outcome) (kept : List Kept) (up : AscendByNode (entries segments outcomes kept start)) (d : ℕ) where
  abbrev node : ℕ → ℕ
  node i = (get_or kept i no_kept).destination.0

  is-node : (i : ℕ) → i < length kept → destination_at (entries segments outcomes kept start) i ≡ node i
  is-node i lt = ap (λ (e : NodeAnswer). e.destination.0) (kept-at start segments outcomes kept i lt)

  rises : (i j : ℕ) → i ≤ j → j < length kept → node i ≤ node j
  rises i j le within =
      ⊎_elim
      (λ (same : i ≡ j). let P : ℕ → Type 0 = λ m. node m ≤ node j in subst P (sym same) (omega arith))
      (λ (ne : i ≢ j).
      let lt : destination_at (entries segments outcomes kept start) i < destination_at (entries segments outcomes kept start) j = up i j (omega arith) (omega (arith, within, length-map kept (entry_from start segments outcomes))) in
      omega (arith, lt, is-node i (omega arith), is-node j within))
      (cases_eq i j)

  comparisons_rise : IsNonDecreasingBy (λ (x : Kept). ordering_index (nat_cmp x.destination.0 d)) kept
  comparisons_rise = IsNonDecreasingBy-from_default (λ (x : Kept). ordering_index (nat_cmp x.destination.0 d)) kept no_kept (λ i j le within.
      let le' : node i ≤ node j = rises i j le within in
      grind (arith, nat_tests))

  pub found-at : (at : ℕ) → at < length kept → IsBinarySearchResult (λ (x : Kept). nat_cmp x.destination.0 d) kept (Ok at) → destination_at (entries segments outcomes kept start) at ≡ d
  found-at at within is = is-node at within ∙ ranked _ d _ (sym (is no_kept))

  pub missed-at : (at : ℕ) → IsBinarySearchResult (λ (x : Kept). nat_cmp x.destination.0 d) kept (Err at) → (i : ℕ) → i < length (entries segments outcomes kept start) → destination_at (entries segments outcomes kept start) i ≢ d
  missed-at at is i inside same =
      let within : i < length kept = omega (arith, inside, length-map kept (entry_from start segments outcomes)) in
      let here : node i ≡ d = sym (is-node i within) ∙ same in
      let parted = is comparisons_rise in
      ⊎_elim
      (λ (lt : i < at). let low : node i < d = ranked _ d _ (sym (parted.0 i no_kept (omega arith) lt)) in omega arith)
      (λ (ge : at ≤ i). let high : d < node i = ranked _ d _ (sym (parted.1 i no_kept ge within)) in omega arith)
      (cases_lt i at)

-- the segments of a list stay where others come behind
pub range-kept : (xs ys : List Segment) (a b : ℕ) → a ≤ b → b ≤ length xs → slice_range (xs ++ ys) a b ≡ slice_range xs a b
range-kept xs ys a b le within =
    ap (λ l. take (b - a) l) (drop-append-le a xs ys (omega arith))
    ∙ take-append-le (b - a) (drop a xs) ys (omega (arith, length-drop a xs))

-- what is put behind is read there
pub range-behind : (xs ys : List Segment) (a b : ℕ) → a ≡ length xs → b ≡ length (xs ++ ys) → slice_range (xs ++ ys) a b ≡ ys
range-behind xs ys a b begin end =
    let rest : drop a (xs ++ ys) ≡ ys = drop-append-le a xs ys (omega (arith, begin)) ∙ ap (λ l. l ++ ys) (drop_all a xs (omega (arith, begin))) in
    ap (λ l. take (b - a) l) rest ∙ take_all (b - a) ys (omega (arith, begin, end, length-append xs ys))

answer-kept : (start : ℕ) (segments more : List Segment) (outcome : Outcome) (cost : ℕ) → HasSegments segments outcome → answer_from start (segments ++ more) outcome cost ≡ answer_from start segments outcome cost
answer-kept start segments more NoPathOutcome cost within = refl
answer-kept start segments more NoListOutcome cost within = refl
answer-kept start segments more (ListOutcome place begin end) cost within = ap (λ (l : List Segment). Least (record { first = record { 0 = start + place }; segments = l; cost = cost })) (range-kept segments more begin end within.0 within.1)

pub within-more : (segments more : List Segment) (outcome : Outcome) → HasSegments segments outcome → HasSegments (segments ++ more) outcome
within-more segments more NoPathOutcome within = within
within-more segments more NoListOutcome within = within
within-more segments more (ListOutcome place begin end) within = (within.0, omega (arith, within.1, length-append segments more))

-- an answer stays where segments and outcomes come behind the others
entry-kept : (start : ℕ) (segments more : List Segment) (outcomes added : List Outcome) (kept : Kept) → All (HasSegments segments) outcomes → kept.outcome < length outcomes → entry_from start (segments ++ more) (outcomes ++ added) kept ≡ entry_from start segments outcomes kept
entry-kept start segments more outcomes added kept lists lt =
    let same : outcome_at (outcomes ++ added) kept.outcome ≡ outcome_at outcomes kept.outcome = get_or_append_left outcomes added NoPathOutcome kept.outcome lt in
    let answer : answer_from start (segments ++ more) (outcome_at (outcomes ++ added) kept.outcome) kept.cost ≡ answer_from start segments (outcome_at outcomes kept.outcome) kept.cost =
    ap (λ (o : Outcome). answer_from start (segments ++ more) o kept.cost) same ∙ answer-kept start segments more (outcome_at outcomes kept.outcome) kept.cost (All-get_or (HasSegments segments) outcomes kept.outcome NoPathOutcome lt lists) in
    ap (λ (a : Answer). record { destination = kept.destination; answer = a }) answer

-- and so do all answers
entries-kept : (start : ℕ) (segments more : List Segment) (outcomes added : List Outcome) (kept : List Kept) → All (HasSegments segments) outcomes → All (λ (k : Kept). k.outcome < length outcomes) kept → entries (segments ++ more) (outcomes ++ added) kept start ≡ entries segments outcomes kept start
entries-kept start segments more outcomes added [] lists each = refl
entries-kept start segments more outcomes added (k ∷ ks) lists each =
    let first : entry_from start (segments ++ more) (outcomes ++ added) k ≡ entry_from start segments outcomes k = entry-kept start segments more outcomes added k lists (All-head (λ (o : Kept). o.outcome < length outcomes) k ks each) in
    let rest : entries (segments ++ more) (outcomes ++ added) ks start ≡ entries segments outcomes ks start = entries-kept start segments more outcomes added ks lists (All-tail (λ (o : Kept). o.outcome < length outcomes) k ks each) in
    ap (λ (e : NodeAnswer). e ∷ entries (segments ++ more) (outcomes ++ added) ks start) first ∙ ap (λ (l : List NodeAnswer). entry_from start segments outcomes k ∷ l) rest

-- each list is still that of some destination
used-push : (outcomes added : List Outcome) (list : List Kept) (kept : Kept) → ((r : ℕ) → r < length outcomes → IsListOutcome (outcome_at outcomes r) → IsOfSome list r) → length added ≤ 1 → (0 < length added → kept.outcome ≡ length outcomes)
    → (r : ℕ) → r < length (outcomes ++ added) → IsListOutcome (outcome_at (outcomes ++ added) r) → IsOfSome (list ++ kept ∷ []) r
used-push outcomes added list kept used few last r lt is =
    let long : length (list ++ kept ∷ []) ≡ length list + 1 = length-append list (kept ∷ []) in
    ⊎_elim
    (λ (old : r < length outcomes).
    let of = used r old (subst (λ (o : Outcome). IsListOutcome o) (get_or_append_left outcomes added NoPathOutcome r old) is) in
    let within : of.0 < length list = of.1 in
    (of.0, omega (arith, within, long), ap (λ (k : Kept). k.outcome) (get_or_append_left list (kept ∷ []) no_kept of.0 within) ∙ of.2))
    (λ (new : length outcomes ≤ r).
    let more : length (outcomes ++ added) ≡ length outcomes + length added = length-append outcomes added in
    let here : kept.outcome ≡ length outcomes = last (omega (arith, lt, more)) in
    let at : length outcomes ≡ r = omega (arith, lt, more, few) in
    (length list, omega (arith, long), ap (λ (k : Kept). k.outcome) (get_or_push list kept no_kept (length list) refl) ∙ here ∙ at))
    (cases_lt r (length outcomes))

-- one more is kept, with what it adds behind what the others have
pub kept-push : (start : ℕ) (n : Net) (x : List Bool) (s : ℕ) (wanted left less : NodeBits) (segments more : List Segment) (outcomes added : List Outcome) (list : List Kept) (kept : Kept) → AreListedBut n x s wanted left (entries segments outcomes list start) → AreKeptWithin segments outcomes list → All (HasSegments (segments ++ more)) (outcomes ++ added) → length added ≤ 1 → (0 < length added → kept.outcome ≡ length outcomes) → kept.outcome < length (outcomes ++ added) → IsFirstIn left kept.destination.0 → IsWithout left less kept.destination.0 → IsListed n x s kept.destination.0 (answer_from start (segments ++ more) (outcome_at (outcomes ++ added) kept.outcome) kept.cost) → AreListedBut n x s wanted less (entries (segments ++ more) (outcomes ++ added) (list ++ kept ∷ []) start) × AreKeptWithin (segments ++ more) (outcomes ++ added) (list ++ kept ∷ [])
kept-push start n x s wanted left less segments more outcomes added list kept listed within lists few last below first taken answer =
    let same : entries (segments ++ more) (outcomes ++ added) list start ≡ entries segments outcomes list start = entries-kept start segments more outcomes added list within.lists within.each in
    let entry : NodeAnswer = entry_from start (segments ++ more) (outcomes ++ added) kept in
    let joined : entries (segments ++ more) (outcomes ++ added) (list ++ kept ∷ []) start ≡ entries segments outcomes list start ++ entry ∷ [] = map-append (entry_from start (segments ++ more) (outcomes ++ added)) list (kept ∷ []) ∙ ap (λ l. l ++ entry ∷ []) same in
    let others : All (λ (o : Kept). o.outcome < length (outcomes ++ added)) list = All-weaker (λ (o : Kept). o.outcome < length outcomes) (λ (o : Kept). o.outcome < length (outcomes ++ added)) (λ (o : Kept) lt. omega (arith, length-append outcomes added)) list within.each in (
      subst (λ l. AreListedBut n x s wanted less l) (sym joined) (listed-next n x s wanted left less (entries segments outcomes list start) entry listed first taken answer),
      record {
        lists = lists;
        each = All-push (λ (o : Kept). o.outcome < length (outcomes ++ added)) list kept others below;
        used = used-push outcomes added list kept within.used few last;
        few = omega (arith, within.few, length-append outcomes added, length-append list (kept ∷ []));
      },
    )
