-- Which answers a source's limit makes of what is listed.
use Rattle.std.proofs.Common.{◌≡◌, ℕ, ◌+◌, ◌-◌, ◌<◌, ◌≤◌, ⊎_elim, Bool, false, List, [], ◌∷◌, length, drop, slice_range, get_or, refl, arith, ap, sym, ◌∙◌, subst, cond, Option, Some, None}
use Rattle.std.specs.Prelude.{All, count_by}
use Rattle.std.proofs.lemmas.Bool.{cases_lt, le-ltb, lt-ltb}
use Rattle.std.proofs.lemmas.List.{get_or-map, length-drop, length-map, length-take}
use Rattle.std.proofs.lemmas.List.Elements.{All-head, All-tail}
use Rattle.std.proofs.lemmas.List.Sums.{sum_by-cons}
use Rattle.sr_model.specs.declared.case.Case.{Case}
use Rattle.sr_model.specs.declared.repair.Segment.{Segment}
use Rattle.sr_model.specs.declared.repair.RepairList.{RepairList}
use Rattle.sr_model.specs.declared.repair.Answer.{Answer}
use Rattle.sr_model.specs.declared.repair.Answer.TheVariants.{Least, NoPath, NoList, TooDeep}
use Rattle.sr_model.specs.Audit.{is_least, is_no_path, is_no_list, is_too_deep}
use Rattle.sr_model.specs.Case.{source_of}
use Rattle.sr_model.specs.Label.{Net, labels_at}
use Rattle.sr_model.specs.Repair.{Fits, FitsDepth, IsAnswer, IsCaseAnswer, path_of}
use Rattle.sr_laws.specs.Listed.{IsListed}
use Rattle.sr_encode.specs.declared.answers.NodeAnswer.{NodeAnswer}
use Rattle.sr_encode.specs.declared.kept.Kept.{Kept}
use Rattle.sr_encode.specs.declared.kept.Outcome.{Outcome}
use Rattle.sr_encode.specs.declared.kept.Outcome.TheVariants.{Least as ListOutcome, NoPath as NoPathOutcome, NoList as NoListOutcome}
use Rattle.sr_encode.specs.Answered.{AreAnswers, AreLists, NoAnswer, answer_at, destination_at, node_answer_at}
use Rattle.sr_encode.specs.Codes.{AreCodes, without_cost}
use Rattle.sr_encode.specs.Kept.{AreKeptWithin, HasSegments, answer_from, entries, entry_from, outcome_at}
use Rattle.sr_encode.specs.Limited.{AreLetThrough, IsLetThrough, limit_at, limit_of, limited, limited_entries, limited_entry}
use Rattle.sr_encode.proofs.AnswerLemmas.{no_entry}
use Rattle.sr_encode.proofs.PlacedLemmas.{outcomes-as}

-- a list that has fewer segments than the limit is let through, and no other
fits-below : (most : Option ℕ) (depth k : ℕ) → k < limit_of most depth → FitsDepth most depth k
fits-below None depth k lt = omega (arith, lt)
fits-below (Some m) depth k lt = omega (arith, lt)

not-above : (most : Option ℕ) (depth k : ℕ) → limit_of most depth ≤ k → FitsDepth most depth k → ⊥
not-above None depth k le fits = absurd (omega (arith, le, fits))
not-above (Some m) depth k le fits = absurd (omega (arith, le, fits))

-- a list below the limit is the answer, and any other is too deep
pub limited-below : (limit : ℕ) (list : RepairList) → length list.segments < limit → limited limit (Least list) ≡ Least list
limited-below limit list lt = rw (lt-ltb (length list.segments) limit lt) refl

pub limited-above : (limit : ℕ) (list : RepairList) → limit ≤ length list.segments → limited limit (Least list) ≡ TooDeep (length list.segments)
limited-above limit list le = rw (le-ltb (length list.segments) limit le) refl

-- what is listed gives the answer
answer-limited : (n : Net) (x : List Bool) (s d : ℕ) (a : Answer) → IsListed n x s d a → IsAnswer n x s d (limited (limit_at n s) a)
answer-limited n x s d NoPath l = l
answer-limited n x s d NoList l = l
answer-limited n x s d (TooDeep k) l = absurd l
answer-limited n x s d (Least list) l =
    ⊎_elim
    (λ (lt : length list.segments < limit_at n s).
    let fits : Fits n s (length list.segments) = fits-below (labels_at n s).imposes n.depth (length list.segments) lt in
    subst (λ (a : Answer). IsAnswer n x s d a) (sym (limited-below (limit_at n s) list lt)) (l.0, fits, l.1))
    (λ (le : limit_at n s ≤ length list.segments).
    subst (λ (a : Answer). IsAnswer n x s d a) (sym (limited-above (limit_at n s) list le)) (path_of list, l.0, refl, not-above (labels_at n s).imposes n.depth (length list.segments) le))
    (cases_lt (length list.segments) (limit_at n s))

module _ (limit : ℕ) (list : List NodeAnswer) where
  pub limited-long : length (limited_entries limit list) ≡ length list
  limited-long = length-map list (limited_entry limit)

  pub limited-at : (i : ℕ) → i < length list → node_answer_at (limited_entries limit list) i ≡ limited_entry limit (node_answer_at list i)
  limited-at i lt = get_or-map (limited_entry limit) list i no_entry no_entry lt

  pub limited-destination : (i : ℕ) → i < length list → destination_at (limited_entries limit list) i ≡ destination_at list i
  limited-destination i lt = ap (λ (e : NodeAnswer). e.destination.0) (limited-at i lt)

  -- the same destinations are found
  pub limited-none : (d : ℕ) → NoAnswer list d → NoAnswer (limited_entries limit list) d
  limited-none d none i lt same = none i (omega (arith, lt, limited-long)) (sym (limited-destination i (omega (arith, lt, limited-long))) ∙ same)

-- what is listed in a case gives its answers
pub answers-limited : (n : Net) (case : Case) (list : List NodeAnswer) → AreLists n case list → AreAnswers n case (limited_entries (limit_at n (source_of n.graph case)) list)
answers-limited n case list r =
    let limit : ℕ = limit_at n (source_of n.graph case) in
    let long : length (limited_entries limit list) ≡ length list = limited-long limit list in
    record {
      ascending = λ i j up lt.
          let low : destination_at list i < destination_at list j = r.ascending i j up (omega (arith, lt, long)) in
          omega (arith, low, limited-destination limit list i (omega (arith, up, lt, long)), limited-destination limit list j (omega (arith, lt, long)));
      affected = λ i lt.
          let within : i < length list = omega (arith, lt, long) in
          rw (limited-destination limit list i within) (r.affected i within);
      answers = λ i lt.
          let within : i < length list = omega (arith, lt, long) in
          let l = r.answers i within in
          subst (λ (e : NodeAnswer). IsCaseAnswer n case e.destination.0 e.answer) (sym (limited-at limit list i within)) (record {
            failed = l.failed;
            set = l.set;
            answers = answer-limited n l.failed (source_of n.graph case) (destination_at list i) (answer_at list i) l.listed;
          });
      all = λ d a.
          let at = r.all d a in
          (at.0, omega (arith, at.1, long), limited-destination limit list at.0 at.1 ∙ at.2);
    }

-- an answer without its cost is what is made of it without its cost
cost-limited : (limit : ℕ) (a : Answer) → without_cost (limited limit a) ≡ limited limit (without_cost a)
cost-limited limit NoPath = refl
cost-limited limit NoList = refl
cost-limited limit (TooDeep k) = refl
cost-limited limit (Least list) =
    let bare : RepairList = record { first = list.first; segments = list.segments; cost = 0 } in
    ⊎_elim
    (λ (lt : length list.segments < limit). ap without_cost (limited-below limit list lt) ∙ sym (limited-below limit bare lt))
    (λ (le : limit ≤ length list.segments). ap without_cost (limited-above limit list le) ∙ sym (limited-above limit bare le))
    (cases_lt (length list.segments) limit)

-- so answers have the codes of what is listed
pub codes-limited : (limit : ℕ) (list : List NodeAnswer) (codes : List ℕ) → AreCodes list codes → AreCodes (limited_entries limit list) codes
codes-limited limit list codes r =
    let long : length (limited_entries limit list) ≡ length list = limited-long limit list in
    let answer : (i : ℕ) → i < length list → without_cost (answer_at (limited_entries limit list) i) ≡ limited limit (without_cost (answer_at list i)) = λ i lt.
    ap (λ (e : NodeAnswer). without_cost e.answer) (limited-at limit list i lt) ∙ cost-limited limit (answer_at list i) in
    record {
      long = r.long ∙ sym long;
      few = λ i lt. omega (arith, long, r.few i (omega (arith, lt, long)));
      same = λ i j li lj eq.
          answer i (omega (arith, li, long))
          ∙ ap (limited limit) (r.same i j (omega (arith, li, long)) (omega (arith, lj, long)) eq)
          ∙ sym (answer j (omega (arith, lj, long)));
    }

-- how many segments a list has that is kept so
range-long : (segments : List Segment) (begin end : ℕ) → begin ≤ end → end ≤ length segments → length (slice_range segments begin end) ≡ end - begin
range-long segments begin end up within = omega (arith, up, within, length-take (end - begin) (drop begin segments), length-drop begin segments)

-- where all lists are let through, the answers are what is listed
module _ (start limit : ℕ) (segments : List Segment) (outcomes : List Outcome) where
  answer-let_through : (o : Outcome) (cost : ℕ) → HasSegments segments o → IsLetThrough limit o → limited limit (answer_from start segments o cost) ≡ answer_from start segments o cost
  answer-let_through NoPathOutcome cost has through = refl
  answer-let_through NoListOutcome cost has through = refl
  answer-let_through (ListOutcome place begin end) cost has through =
      limited-below limit (record { first = record { 0 = start + place }; segments = slice_range segments begin end; cost = cost }) (omega (arith, has.0, has.1, through, range-long segments begin end has.0 has.1))

  entry-let_through : (k : Kept) → All (HasSegments segments) outcomes → AreLetThrough limit outcomes → k.outcome < length outcomes → limited_entry limit (entry_from start segments outcomes k) ≡ entry_from start segments outcomes k
  entry-let_through k has through lt =
      ap (λ (a : Answer). record { destination = k.destination; answer = a })
      (answer-let_through (outcome_at outcomes k.outcome) k.cost (has k.outcome NoPathOutcome lt) (through k.outcome lt))

  pub entries-let_through : (kept : List Kept) → All (HasSegments segments) outcomes → AreLetThrough limit outcomes → All (λ (k : Kept). k.outcome < length outcomes) kept → limited_entries limit (entries segments outcomes kept start) ≡ entries segments outcomes kept start
  entries-let_through [] has through each = refl
  entries-let_through (k ∷ ks) has through each =
      rw (entry-let_through k has through (All-head (λ (k : Kept). k.outcome < length outcomes) k ks each), entries-let_through ks has through (All-tail (λ (k : Kept). k.outcome < length outcomes) k ks each)) refl

-- and where the answers are what is listed, all lists are let through
pub answer-below : (limit : ℕ) (list : RepairList) → limited limit (Least list) ≡ Least list → length list.segments < limit
answer-below limit list same =
    ⊎_elim
    (λ (lt : length list.segments < limit). lt)
    (λ (le : limit ≤ length list.segments). absurd (let bad : TooDeep (length list.segments) ≡ Least list = sym (limited-above limit list le) ∙ same in cc bad))
    (cases_lt (length list.segments) limit)

module _ (start limit : ℕ) (segments : List Segment) (outcomes : List Outcome) (kept : List Kept) (within : AreKeptWithin segments outcomes kept) where
  each-same : limited_entries limit (entries segments outcomes kept start) ≡ entries segments outcomes kept start → All (λ (e : NodeAnswer). limited limit e.answer ≡ e.answer) (entries segments outcomes kept start)
  each-same same i d lt =
      ap (λ (e : NodeAnswer). e.answer)
      (sym (get_or-map (limited_entry limit) (entries segments outcomes kept start) i d d lt) ∙ ap (λ list. get_or list i d) same)

  pub let_through-back : limited_entries limit (entries segments outcomes kept start) ≡ entries segments outcomes kept start → AreLetThrough limit outcomes
  let_through-back same =
      let all = outcomes-as start segments outcomes kept within (IsLetThrough limit) (λ (a : Answer). limited limit a ≡ a) tt tt (λ place begin end cost has q.
      let below : length (slice_range segments begin end) < limit = answer-below limit (record { first = record { 0 = start + place }; segments = slice_range segments begin end; cost = cost }) q in
      omega (arith, below, has.0, has.1, range-long segments begin end has.0 has.1)) (each-same same) in
      λ r lt. all r NoPathOutcome lt

-- nothing that is listed is too deep
pub none-deep : (start : ℕ) (segments : List Segment) (outcomes : List Outcome) (kept : List Kept) → count_by (λ (e : NodeAnswer). is_too_deep e.answer) (entries segments outcomes kept start) ≡ 0
none-deep start segments outcomes [] = refl
none-deep start segments outcomes (k ∷ ks) =
    sum_by-cons (λ (e : NodeAnswer). cond (is_too_deep e.answer) 1 0) (entry_from start segments outcomes k) (entries segments outcomes ks start)
    ∙ omega (arith, ap {B = ℕ} (λ (b : Bool). cond b 1 0) (flat (outcome_at outcomes k.outcome)), none-deep start segments outcomes ks)
  where
    flat : (o : Outcome) → is_too_deep (answer_from start segments o k.cost) ≡ false
    flat NoPathOutcome = refl
    flat NoListOutcome = refl
    flat (ListOutcome place begin end) = refl

-- how many answers are of a sort, where an answer and what is listed for it are of it alike
count-same : (limit : ℕ) (test : Answer → Bool) → ((a : Answer) → test (limited limit a) ≡ test a) → (list : List NodeAnswer) → count_by (λ (e : NodeAnswer). test e.answer) (limited_entries limit list) ≡ count_by (λ (e : NodeAnswer). test e.answer) list
count-same limit test same [] = refl
count-same limit test same (e ∷ list) =
    sum_by-cons (λ (x : NodeAnswer). cond (test x.answer) 1 0) (limited_entry limit e) (limited_entries limit list)
    ∙ omega (arith, ap {B = ℕ} (λ (b : Bool). cond b 1 0) (same e.answer), count-same limit test same list)
    ∙ sym (sum_by-cons (λ (x : NodeAnswer). cond (test x.answer) 1 0) e list)

by-depth : (limit : ℕ) (test : Answer → Bool) (list : RepairList) → test (Least list) ≡ test (TooDeep (length list.segments)) → test (limited limit (Least list)) ≡ test (Least list)
by-depth limit test list same =
    ⊎_elim
    (λ (lt : length list.segments < limit). ap test (limited-below limit list lt))
    (λ (le : limit ≤ length list.segments). ap test (limited-above limit list le) ∙ sym same)
    (cases_lt (length list.segments) limit)

path-same : (limit : ℕ) (a : Answer) → is_no_path (limited limit a) ≡ is_no_path a
path-same limit NoPath = refl
path-same limit NoList = refl
path-same limit (TooDeep k) = refl
path-same limit (Least list) = by-depth limit is_no_path list refl

list-same : (limit : ℕ) (a : Answer) → is_no_list (limited limit a) ≡ is_no_list a
list-same limit NoPath = refl
list-same limit NoList = refl
list-same limit (TooDeep k) = refl
list-same limit (Least list) = by-depth limit is_no_list list refl

-- a list becomes a list or one that is too deep, and nothing else does
one-of_both : (limit : ℕ) (a : Answer) → cond (is_least (limited limit a)) 1 0 + cond (is_too_deep (limited limit a)) 1 0 ≡ cond (is_least a) 1 0 + cond (is_too_deep a) 1 0
one-of_both limit NoPath = refl
one-of_both limit NoList = refl
one-of_both limit (TooDeep k) = refl
one-of_both limit (Least list) =
    ⊎_elim
    (λ (lt : length list.segments < limit). ap (λ (a : Answer). cond (is_least a) 1 0 + cond (is_too_deep a) 1 0) (limited-below limit list lt))
    (λ (le : limit ≤ length list.segments). ap (λ (a : Answer). cond (is_least a) 1 0 + cond (is_too_deep a) 1 0) (limited-above limit list le))
    (cases_lt (length list.segments) limit)

pub counts-split : (limit : ℕ) (list : List NodeAnswer) → count_by (λ (e : NodeAnswer). is_least e.answer) (limited_entries limit list) + count_by (λ (e : NodeAnswer). is_too_deep e.answer) (limited_entries limit list) ≡ count_by (λ (e : NodeAnswer). is_least e.answer) list + count_by (λ (e : NodeAnswer). is_too_deep e.answer) list
counts-split limit [] = refl
counts-split limit (e ∷ list) =
    omega (
      arith,
      sum_by-cons (λ (x : NodeAnswer). cond (is_least x.answer) 1 0) (limited_entry limit e) (limited_entries limit list),
      sum_by-cons (λ (x : NodeAnswer). cond (is_too_deep x.answer) 1 0) (limited_entry limit e) (limited_entries limit list),
      sum_by-cons (λ (x : NodeAnswer). cond (is_least x.answer) 1 0) e list,
      sum_by-cons (λ (x : NodeAnswer). cond (is_too_deep x.answer) 1 0) e list,
      one-of_both limit e.answer,
      counts-split limit list,
    )

pub paths-same : (limit : ℕ) (list : List NodeAnswer) → count_by (λ (e : NodeAnswer). is_no_path e.answer) (limited_entries limit list) ≡ count_by (λ (e : NodeAnswer). is_no_path e.answer) list
paths-same limit list = count-same limit is_no_path (path-same limit) list

pub lists-same : (limit : ℕ) (list : List NodeAnswer) → count_by (λ (e : NodeAnswer). is_no_list e.answer) (limited_entries limit list) ≡ count_by (λ (e : NodeAnswer). is_no_list e.answer) list
lists-same limit list = count-same limit is_no_list (list-same limit) list
