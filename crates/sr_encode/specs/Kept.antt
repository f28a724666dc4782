-- How what is listed in a case is kept.
use Rattle.std.specs.Prelude.{◌≡◌, ℕ, ◌+◌, ◌<◌, ◌≤◌, List, length, map, slice_index_or, slice_range, All}
use Rattle.sr_model.specs.declared.repair.Answer.{Answer}
use Rattle.sr_model.specs.declared.repair.Answer.TheVariants.{Least, NoPath, NoList}
use Rattle.sr_model.specs.declared.repair.Segment.{Segment}
use Rattle.sr_encode.specs.declared.answers.NodeAnswer.{NodeAnswer}
use Rattle.sr_encode.specs.declared.kept.Outcome.{Outcome}
use Rattle.sr_encode.specs.declared.kept.Outcome.TheVariants.{Least as ListOutcome, NoPath as NoPathOutcome, NoList as NoListOutcome}
use Rattle.sr_encode.specs.declared.kept.Kept.{Kept}

-- the outcome at place r
abbrev pub outcome_at : List Outcome → ℕ → Outcome
outcome_at outcomes r = slice_index_or outcomes r NoPathOutcome

-- what is listed by an outcome at this cost, where these are the segments of all lists, and the links of the source
-- stand from link number `start` on
abbrev pub answer_from : ℕ → List Segment → Outcome → ℕ → Answer
answer_from start segments NoPathOutcome cost = NoPath
answer_from start segments NoListOutcome cost = NoList
answer_from start segments (ListOutcome place begin end) cost =
    Least (record { first = record { 0 = start + place }; segments = slice_range segments begin end; cost = cost })

-- what is listed so, with its destination
abbrev pub entry_from : ℕ → List Segment → List Outcome → Kept → NodeAnswer
entry_from start segments outcomes kept =
    record {
      destination = kept.destination;
      answer = answer_from start segments (outcome_at outcomes kept.outcome) kept.cost;
    }

-- all that is listed so
abbrev pub entries : List Segment → List Outcome → List Kept → ℕ → List NodeAnswer
entries segments outcomes kept start = map (entry_from start segments outcomes) kept

-- the segments of the outcome's list stand among these
abbrev pub HasSegments : List Segment → Outcome → Type 0
HasSegments segments NoPathOutcome = Unit {0}
HasSegments segments NoListOutcome = Unit {0}
HasSegments segments (ListOutcome place begin end) = (begin ≤ end) × (end ≤ length segments)

-- what stands for a destination past the end of those that are kept
abbrev pub no_kept : Kept
no_kept = record { destination = record { 0 = 0 }; outcome = 0; cost = 0 }

-- the outcome is a list
abbrev pub IsListOutcome : Outcome → Type 0
IsListOutcome NoPathOutcome = ⊥
IsListOutcome NoListOutcome = ⊥
IsListOutcome (ListOutcome place begin end) = Unit {0}

-- some destination has the outcome at place r
abbrev pub IsOfSome : List Kept → ℕ → Type 0
IsOfSome kept r = (i : ℕ) × (i < length kept) × ((slice_index_or kept i no_kept).outcome ≡ r)

-- each outcome has its segments, each destination has an outcome, each list is that of some destination, and there are
-- at most two outcomes more than destinations
pub record AreKeptWithin (segments : List Segment) (outcomes : List Outcome) (kept : List Kept) : Type 0 where
  pub lists : All (HasSegments segments) outcomes
  pub each : All (λ (k : Kept). k.outcome < length outcomes) kept
  pub used : (r : ℕ) → r < length outcomes → IsListOutcome (outcome_at outcomes r) → IsOfSome kept r
  pub few : length outcomes ≤ length kept + 2
