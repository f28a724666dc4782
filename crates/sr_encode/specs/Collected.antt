-- How the outcomes of a search are collected, each once.
use Rattle.std.specs.Prelude.{◌≡◌, ℕ, ◌+◌, ◌*◌, ◌^◌, ◌<◌, ◌≤◌, List, ◌++◌, length, Option, Some, None, slice_index_or, slice_range, All}
use Rattle.sr_model.specs.declared.link.TheConstants.{FAR}
use Rattle.sr_model.specs.declared.repair.Segment.{Segment}
use Rattle.sr_encode.specs.declared.collected.Collected.{Collected}
use Rattle.sr_encode.specs.declared.kept.Outcome.{Outcome}
use Rattle.sr_encode.specs.declared.kept.Outcome.TheVariants.{Least, NoPath, NoList}
use Rattle.sr_encode.specs.declared.kept.TheConstants.{NO_PATH, NO_LIST}
use Rattle.sr_encode.specs.declared.waypoint.Waypoint.{Waypoint}
use Rattle.sr_encode.specs.Kept.{outcome_at, HasSegments}
use Rattle.sr_encode.specs.Waypoints.{path_to, waypoint_at, AreParents}

-- a search has at most this many outcomes, since it has at most two more than there are nodes (this project's rule)
abbrev pub most_outcomes : ℕ
most_outcomes = 300

-- a list has at most this many segments, since the depth of a waypoint is a number of 16 bits (this project's rule)
abbrev pub most_segments : ℕ
most_segments = 2 ^ 16

-- the outcome is the list to the waypoint at place k, its first link told by its place behind link number `start`
abbrev pub IsOutcomeOf : Collected → ℕ → Outcome → Type 0
IsOutcomeOf g k NoPath = ⊥
IsOutcomeOf g k NoList = ⊥
IsOutcomeOf g k (Least place begin end) =
    path_to g.queue.now k ≡ record { first = g.start.0 + place; segments = slice_range g.segments.items begin end }

-- the outcome at place r is that of the waypoint at this place, and else no path where the cost is FAR, or no list
abbrev pub IsOutcomeFor : Collected → ℕ → Option ℕ → ℕ → Type 0
IsOutcomeFor g cost None r =
    (FAR ≤ cost → outcome_at g.outcomes.items r ≡ NoPath) × (cost < FAR → outcome_at g.outcomes.items r ≡ NoList)
IsOutcomeFor g cost (Some k) r = IsOutcomeOf g k (outcome_at g.outcomes.items r)

-- first stand no path and no list, and where a waypoint has an outcome, it stands at the place that is known
pub record IsCollected (g : Collected) : Type 0 where
  pub parents : AreParents g.queue.now
  pub lists : All (HasSegments g.segments.items) g.outcomes.items
  pub two : 2 ≤ length g.outcomes.items
  pub nopath : outcome_at g.outcomes.items NO_PATH ≡ NoPath
  pub nolist : outcome_at g.outcomes.items NO_LIST ≡ NoList
  pub few : length g.segments.items ≤ most_segments * length g.outcomes.items
  pub long : length g.known.items ≡ length g.queue.now
  pub each : (k r : ℕ) → slice_index_or g.known.items k None ≡ Some r
      → (r < length g.outcomes.items) × IsOutcomeOf g k (outcome_at g.outcomes.items r)

-- the segments of at most one list were put behind the others
pub record HasMoreSegments (before after : Collected) : Type 0 where
  pub queue : after.queue.now ≡ before.queue.now
  pub start : after.start ≡ before.start
  pub outcomes : after.outcomes.items ≡ before.outcomes.items
  pub known : after.known.items ≡ before.known.items
  pub more : List Segment
  pub segments : after.segments.items ≡ before.segments.items ++ more
  pub few : length more ≤ most_segments

-- an outcome stands at place r afterwards, and at most that one came behind the others
pub record Gains (before after : Collected) (r : ℕ) : Type 0 where
  pub collected : IsCollected after
  pub queue : after.queue.now ≡ before.queue.now
  pub start : after.start ≡ before.start
  pub more : List Segment
  pub segments : after.segments.items ≡ before.segments.items ++ more
  pub added : List Outcome
  pub outcomes : after.outcomes.items ≡ before.outcomes.items ++ added
  pub few : length added ≤ 1
  pub last : 0 < length added → r ≡ length before.outcomes.items
  pub within : r < length after.outcomes.items

-- a waypoint stands at place k of the queue, and its first link isn't before those of the source
abbrev pub StandsIn : Collected → ℕ → Type 0
StandsIn g k = (k < length g.queue.now) × (g.start.0 ≤ (waypoint_at g.queue.now k).first.0)

-- no waypoint of the search has an outcome yet
pub record IsStarted (waypoints : List Waypoint) (first : ℕ) (g : Collected) : Type 0 where
  pub collected : IsCollected g
  pub queue : g.queue.now ≡ waypoints
  pub start : g.start.0 ≡ first
  pub few : length g.outcomes.items ≡ 2
