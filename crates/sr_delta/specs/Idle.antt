-- Changed links that are idle for a row of distances.
use Rattle.std.specs.Prelude.{ℕ, ◌+◌, ◌<◌, ◌≤◌, ◌⊎◌, List, length, Option, Some, None, slice_index}
use Rattle.sr_model.specs.declared.link.TheConstants.{FAR}
use Rattle.sr_model.specs.declared.case.Case.{Case}
use Rattle.sr_model.specs.Graph.{Graph}
use Rattle.sr_delta.specs.declared.change.Change.{Change}
use Rattle.sr_delta.specs.Changed.{change_at}
use Rattle.sr_delta.specs.Pairs.{IsOfFailingPair}

-- a link of this metric, if it has one, from a node at the first distance, leads to no distance up to the second
abbrev pub IsDearerBy : ℕ → ℕ → Option ℕ → Type 0
IsDearerBy from to None = Unit {0}
IsDearerBy from to (Some c) = to < from + c

-- there is no walk to the beginning of the changed link, or there is one to its end that is cheaper than by the link,
-- with its metric in each of the nets that has it
abbrev pub IsIdleChange : List ℕ → Change → Type 0
IsIdleChange cells c =
    (FAR ≤ slice_index cells c.from.0)
    ⊎ ((slice_index cells c.to.0 < FAR)
    × IsDearerBy (slice_index cells c.from.0) (slice_index cells c.to.0) c.before
    × IsDearerBy (slice_index cells c.from.0) (slice_index cells c.to.0) c.after)

-- each changed link is idle for the row
abbrev pub AreAllIdle : List ℕ → List Change → Type 0
AreAllIdle cells links = (n : ℕ) → n < length links → IsIdleChange cells (change_at links n)

-- the changed link is idle for the row, unless it is of the pair of a link that fails in the case
abbrev pub IsIdleOrFailed : Graph → Case → List ℕ → Change → Type 0
IsIdleOrFailed g case cells c = (IsOfFailingPair g case c.key → ⊥) → IsIdleChange cells c

-- each changed link that isn't of the pair of a link that fails in the case is idle for the row
abbrev pub AreIdleOrFailed : Graph → Case → List ℕ → List Change → Type 0
AreIdleOrFailed g case cells links = (n : ℕ) → n < length links → IsIdleOrFailed g case cells (change_at links n)
