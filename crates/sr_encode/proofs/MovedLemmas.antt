-- Answers that are kept with renumbered links are the renumbered answers.
use Rattle.std.proofs.Common.{◌≡◌, ℕ, ◌+◌, ◌<◌, ◌≤◌, ◌-◌, List, [], ◌∷◌, map, length, take, drop, slice_range, refl, arith, ap, sym, ◌∙◌, subst, cond, Option}
use Rattle.std.specs.Prelude.{All, Bool, count_by}
use Rattle.std.proofs.lemmas.List.{get_or-map, length-map, drop-map, take-map}
use Rattle.std.proofs.lemmas.List.Elements.{All-map, All-weaker, All-head, All-tail}
use Rattle.std.proofs.lemmas.List.Sums.{sum_by-cons}
use Rattle.sr_model.specs.declared.link.LinkNo.{LinkNo}
use Rattle.sr_model.specs.declared.repair.RepairList.{RepairList}
use Rattle.sr_model.specs.declared.repair.Segment.{Segment}
use Rattle.sr_model.specs.declared.repair.Answer.{Answer}
use Rattle.sr_model.specs.declared.repair.Answer.TheVariants.{Least}
use Rattle.sr_model.specs.declared.audit.Counts.{Counts}
use Rattle.sr_model.specs.Audit.{is_least, is_no_path, is_no_list, is_too_deep}
use Rattle.sr_encode.specs.declared.answers.NodeAnswer.{NodeAnswer}
use Rattle.sr_encode.specs.declared.kept.Kept.{Kept}
use Rattle.sr_encode.specs.declared.kept.Outcome.{Outcome}
use Rattle.sr_encode.specs.declared.kept.Outcome.TheVariants.{Least as ListOutcome, NoPath as NoPathOutcome, NoList as NoListOutcome}
use Rattle.sr_spf.specs.Renewed.{moved_link}
use Rattle.sr_encode.specs.declared.renumbered.Renumbering.{Renumbering}
use Rattle.sr_encode.specs.Answered.{AscendByNode, counts_in}
use Rattle.sr_encode.specs.Kept.{AreKeptWithin, HasSegments, IsListOutcome, answer_from, entries, entry_from, outcome_at}
use Rattle.sr_encode.specs.Placed.{HasLinkNumber, HaveLinkNumbers, AreNotBefore, IsNotBefore}
use Rattle.sr_encode.specs.Renumbered.{moved_segment, moved_answer, moved_entry, moved_entries, moved_first, moved_outcome, CanMove, HasLinkPlace, KeepsPlace}
use Rattle.sr_encode.proofs.PlacedLemmas.{ascend-kept, outcomes-as}

module _ (r : Renumbering) (segments : List Segment) (outcomes : List Outcome) where
  abbrev links : List (Option LinkNo)
  links = r.links.now

  range-moved : (a b : ℕ) → slice_range (map (moved_segment links) segments) a b ≡ map (moved_segment links) (slice_range segments a b)
  range-moved a b = ap (λ l. take (b - a) l) (drop-map (moved_segment links) a segments) ∙ take-map (moved_segment links) (b - a) (drop a segments)

  answer-moved : (o : Outcome) (cost : ℕ) → CanMove r o → answer_from r.after.0 (map (moved_segment links) segments) (moved_outcome r o) cost ≡ moved_answer links (answer_from r.before.0 segments o cost)
  answer-moved NoPathOutcome cost can = refl
  answer-moved NoListOutcome cost can = refl
  answer-moved (ListOutcome place begin end) cost can =
      let first : r.after.0 + (moved_first r place - r.after.0) ≡ moved_first r place = omega (arith, can.1) in
      ap (λ (k : ℕ). Least (record { first = record { 0 = k }; segments = slice_range (map (moved_segment links) segments) begin end; cost = cost })) first
      ∙ ap (λ (l : List Segment). Least (record { first = moved_link links (record { 0 = r.before.0 + place }); segments = l; cost = cost })) (range-moved begin end)

  outcome-moved : (k : ℕ) → k < length outcomes → outcome_at (map (moved_outcome r) outcomes) k ≡ moved_outcome r (outcome_at outcomes k)
  outcome-moved k lt = get_or-map (moved_outcome r) outcomes k NoPathOutcome NoPathOutcome lt

  entry-moved : (k : Kept) → All (CanMove r) outcomes → k.outcome < length outcomes → entry_from r.after.0 (map (moved_segment links) segments) (map (moved_outcome r) outcomes) k ≡ moved_entry links (entry_from r.before.0 segments outcomes k)
  entry-moved k can lt =
      ap (λ (a : Answer). record { destination = k.destination; answer = a })
      (ap (λ o. answer_from r.after.0 (map (moved_segment links) segments) o k.cost) (outcome-moved k.outcome lt) ∙ answer-moved (outcome_at outcomes k.outcome) k.cost (can k.outcome NoPathOutcome lt))

  pub entries-moved : (kept : List Kept) → All (CanMove r) outcomes → All (λ (k : Kept). k.outcome < length outcomes) kept → entries (map (moved_segment links) segments) (map (moved_outcome r) outcomes) kept r.after.0 ≡ moved_entries links (entries segments outcomes kept r.before.0)
  entries-moved [] can each = refl
  entries-moved (k ∷ kept) can each = rw (entry-moved k can (All-head (λ (k : Kept). k.outcome < length outcomes) k kept each), entries-moved kept can (All-tail (λ (k : Kept). k.outcome < length outcomes) k kept each)) refl

  segments-within : (o : Outcome) → HasSegments segments o → HasSegments (map (moved_segment links) segments) (moved_outcome r o)
  segments-within NoPathOutcome within = within
  segments-within NoListOutcome within = within
  segments-within (ListOutcome place begin end) within = (within.0, omega (arith, within.1, length-map segments (moved_segment links)))

  list-before : (o : Outcome) → IsListOutcome (moved_outcome r o) → IsListOutcome o
  list-before NoPathOutcome is = is
  list-before NoListOutcome is = is
  list-before (ListOutcome place begin end) is = is

  pub moved-within : (kept : List Kept) → AreKeptWithin segments outcomes kept → AreKeptWithin (map (moved_segment links) segments) (map (moved_outcome r) outcomes) kept
  moved-within kept w =
      let long : length (map (moved_outcome r) outcomes) ≡ length outcomes = length-map outcomes (moved_outcome r) in
      record {
        lists = All-map (HasSegments (map (moved_segment links) segments)) (moved_outcome r) outcomes (All-weaker (HasSegments segments) (λ o. HasSegments (map (moved_segment links) segments) (moved_outcome r o)) segments-within outcomes w.lists);
        each = All-weaker (λ (k : Kept). k.outcome < length outcomes) (λ (k : Kept). k.outcome < length (map (moved_outcome r) outcomes)) (λ k lt. omega (arith, lt, long)) kept w.each;
        used = λ k lt is. w.used k (omega (arith, lt, long)) (list-before (outcome_at outcomes k) (subst (λ (o : Outcome). IsListOutcome o) (outcome-moved k (omega (arith, lt, long))) is));
        few = omega (arith, w.few, long);
      }

  -- where first links keep their places and segments their links, all is as it was
  answer-keeps : (o : Outcome) (cost : ℕ) → map (moved_segment links) segments ≡ segments → KeepsPlace r o → answer_from r.after.0 segments o cost ≡ moved_answer links (answer_from r.before.0 segments o cost)
  answer-keeps NoPathOutcome cost same keeps = refl
  answer-keeps NoListOutcome cost same keeps = refl
  answer-keeps (ListOutcome place begin end) cost same keeps =
      ap (λ (k : ℕ). Least (record { first = record { 0 = k }; segments = slice_range segments begin end; cost = cost })) (sym keeps)
      ∙ ap (λ (l : List Segment). Least (record { first = moved_link links (record { 0 = r.before.0 + place }); segments = l; cost = cost })) (ap (λ (l : List Segment). slice_range l begin end) (sym same) ∙ range-moved begin end)

  entry-keeps : (k : Kept) → map (moved_segment links) segments ≡ segments → All (KeepsPlace r) outcomes → k.outcome < length outcomes → entry_from r.after.0 segments outcomes k ≡ moved_entry links (entry_from r.before.0 segments outcomes k)
  entry-keeps k same keep lt =
      ap (λ (a : Answer). record { destination = k.destination; answer = a })
      (answer-keeps (outcome_at outcomes k.outcome) k.cost same (keep k.outcome NoPathOutcome lt))

  pub entries-keep : (kept : List Kept) → map (moved_segment links) segments ≡ segments → All (KeepsPlace r) outcomes → All (λ (k : Kept). k.outcome < length outcomes) kept → entries segments outcomes kept r.after.0 ≡ moved_entries links (entries segments outcomes kept r.before.0)
  entries-keep [] same keep each = refl
  entries-keep (k ∷ kept) same keep each = rw (entry-keeps k same keep (All-head (λ (k : Kept). k.outcome < length outcomes) k kept each), entries-keep kept same keep (All-tail (λ (k : Kept). k.outcome < length outcomes) k kept each)) refl

-- segments that each stay are the same
pub segments-same : (links : List (Option LinkNo)) (segments : List Segment) → All (λ (s : Segment). moved_segment links s ≡ s) segments → map (moved_segment links) segments ≡ segments
segments-same links [] all = refl
segments-same links (s ∷ segments) all = rw (All-head (λ (s : Segment). moved_segment links s ≡ s) s segments all, segments-same links segments (All-tail (λ (s : Segment). moved_segment links s ≡ s) s segments all)) refl

-- how many answers are of a sort that doesn't depend on links
count-moved : (r : Renumbering) (a b : ℕ) (s s' : List Segment) (outcomes : List Outcome) (test : Answer → Bool) → ((o : Outcome) (cost : ℕ) → test (answer_from b s' (moved_outcome r o) cost) ≡ test (answer_from a s o cost)) → (kept : List Kept) → All (λ (k : Kept). k.outcome < length outcomes) kept → count_by (λ (e : NodeAnswer). test e.answer) (entries s' (map (moved_outcome r) outcomes) kept b) ≡ count_by (λ (e : NodeAnswer). test e.answer) (entries s outcomes kept a)
count-moved r a b s s' outcomes test same [] each = refl
count-moved r a b s s' outcomes test same (k ∷ kept) each =
    let here : outcome_at (map (moved_outcome r) outcomes) k.outcome ≡ moved_outcome r (outcome_at outcomes k.outcome) = get_or-map (moved_outcome r) outcomes k.outcome NoPathOutcome NoPathOutcome (All-head (λ (k : Kept). k.outcome < length outcomes) k kept each) in
    let test_same : test (answer_from b s' (outcome_at (map (moved_outcome r) outcomes) k.outcome) k.cost) ≡ test (answer_from a s (outcome_at outcomes k.outcome) k.cost) = ap (λ o. test (answer_from b s' o k.cost)) here ∙ same (outcome_at outcomes k.outcome) k.cost in
    sum_by-cons (λ (x : NodeAnswer). cond (test x.answer) 1 0) (entry_from b s' (map (moved_outcome r) outcomes) k) (entries s' (map (moved_outcome r) outcomes) kept b)
    ∙ omega (arith, ap {B = ℕ} (λ (t : Bool). cond t 1 0) test_same, count-moved r a b s s' outcomes test same kept (All-tail (λ (k : Kept). k.outcome < length outcomes) k kept each))
    ∙ sym (sum_by-cons (λ (x : NodeAnswer). cond (test x.answer) 1 0) (entry_from a s outcomes k) (entries s outcomes kept a))

module _ (r : Renumbering) (a b : ℕ) (s s' : List Segment) where
  -- a test that doesn't look into a list tells the same
  test-moved : (test : Answer → Bool) → ((x y : RepairList) → test (Least x) ≡ test (Least y)) → (o : Outcome) (cost : ℕ) → test (answer_from b s' (moved_outcome r o) cost) ≡ test (answer_from a s o cost)
  test-moved test same NoPathOutcome cost = refl
  test-moved test same NoListOutcome cost = refl
  test-moved test same (ListOutcome place begin end) cost =
      same (record { first = record { 0 = b + (moved_first r place - r.after.0) }; segments = slice_range s' begin end; cost = cost })
      (record { first = record { 0 = a + place }; segments = slice_range s begin end; cost = cost })

  counts-moved : (outcomes : List Outcome) (kept : List Kept) → All (λ (k : Kept). k.outcome < length outcomes) kept → counts_in (entries s' (map (moved_outcome r) outcomes) kept b) ≡ counts_in (entries s outcomes kept a)
  counts-moved outcomes kept each =
      let same : (test : Answer → Bool) → ((x y : RepairList) → test (Least x) ≡ test (Least y)) → count_by (λ (e : NodeAnswer). test e.answer) (entries s' (map (moved_outcome r) outcomes) kept b) ≡ count_by (λ (e : NodeAnswer). test e.answer) (entries s outcomes kept a) =
      λ test alike. count-moved r a b s s' outcomes test (test-moved test alike) kept each in
      rw (same is_least (λ x y. refl), same is_no_path (λ x y. refl), same is_no_list (λ x y. refl), same is_too_deep (λ x y. refl)) refl

-- what can be moved: what is told of the answers is told of the outcomes
stand-moved : (links : List (Option LinkNo)) (after : ℕ) (list : List NodeAnswer) → HaveLinkNumbers list → AreNotBefore after (moved_entries links list) → All (λ (e : NodeAnswer). HasLinkNumber e.answer × IsNotBefore after (moved_answer links e.answer)) list
stand-moved links after list numbers stand i d lt = (
  numbers i d lt,
  subst (λ (e : NodeAnswer). IsNotBefore after e.answer) (get_or-map (moved_entry links) list i d (moved_entry links d) lt) (stand i (moved_entry links d) (omega (arith, lt, length-map list (moved_entry links)))),
)

module _ (r : Renumbering) (segments : List Segment) (outcomes : List Outcome) (kept : List Kept) (within : AreKeptWithin segments outcomes kept) (numbers : HaveLinkNumbers (entries segments outcomes kept r.before.0)) where
  pub can-move : AreNotBefore r.after.0 (moved_entries r.links.now (entries segments outcomes kept r.before.0)) → All (CanMove r) outcomes
  can-move stand = outcomes-as r.before.0 segments outcomes kept within (CanMove r) (λ (a : Answer). HasLinkNumber a × IsNotBefore r.after.0 (moved_answer r.links.now a)) tt tt (λ place begin end cost has q. q) (stand-moved r.links.now r.after.0 (entries segments outcomes kept r.before.0) numbers stand)

  pub have-places : All (HasLinkPlace r.before.0) outcomes
  have-places = outcomes-as r.before.0 segments outcomes kept within (HasLinkPlace r.before.0) HasLinkNumber tt tt (λ place begin end cost has q. q) numbers

-- kept answers whose links are renumbered are the renumbered answers
pub entries-as : (r : Renumbering) (s s' : List Segment) (o o' : List Outcome) (k k' : List Kept) → AreKeptWithin s o k → All (CanMove r) o → s' ≡ map (moved_segment r.links.now) s → o' ≡ map (moved_outcome r) o → k' ≡ k → entries s' o' k' r.after.0 ≡ moved_entries r.links.now (entries s o k r.before.0)
entries-as r s s' o o' k k' within can segments outcomes kept =
    ap (λ x. entries x o' k' r.after.0) segments
    ∙ ap (λ x. entries (map (moved_segment r.links.now) s) x k' r.after.0) outcomes
    ∙ ap (λ x. entries (map (moved_segment r.links.now) s) (map (moved_outcome r) o) x r.after.0) kept
    ∙ entries-moved r s o k can within.each

-- and what is true of kept answers stays so
pub kept-as : (r : Renumbering) (s s' : List Segment) (o o' : List Outcome) (k k' : List Kept) (counts : Counts) → AreKeptWithin s o k → ((start : ℕ) → AscendByNode (entries s o k start)) → ((start : ℕ) → counts ≡ counts_in (entries s o k start)) → length k ≤ 256 → s' ≡ map (moved_segment r.links.now) s → o' ≡ map (moved_outcome r) o → k' ≡ k
    → AreKeptWithin s' o' k' × ((start : ℕ) → AscendByNode (entries s' o' k' start)) × ((start : ℕ) → counts ≡ counts_in (entries s' o' k' start)) × (length k' ≤ 256)
kept-as r s s' o o' k k' counts within up are few segments outcomes kept = (
  subst (λ x. AreKeptWithin x o' k') (sym segments)
      (subst (λ x. AreKeptWithin (map (moved_segment r.links.now) s) x k') (sym outcomes)
      (subst (λ x. AreKeptWithin (map (moved_segment r.links.now) s) (map (moved_outcome r) o) x) (sym kept) (moved-within r s o k within))),
  λ start. subst (λ x. AscendByNode (entries s' o' x start)) (sym kept) (ascend-kept start start s s' o o' k (up start)),
  λ start.
      are start
      ∙ sym (counts-moved r start start s s' o k within.each)
      ∙ ap (λ x. counts_in (entries s' x k start)) (sym outcomes)
      ∙ ap (λ x. counts_in (entries s' o' x start)) (sym kept),
  omega (arith, few, ap length kept),
)
