-- Which lists a source lets through.
use Rattle.std.specs.Prelude.{ℕ, ◌+◌, ◌<◌, nat_lt, if◌then◌else◌, List, length, map, Option, Some, None}
use Rattle.sr_model.specs.declared.repair.Answer.{Answer}
use Rattle.sr_model.specs.declared.repair.Answer.TheVariants.{Least, NoPath, NoList, TooDeep}
use Rattle.sr_model.specs.Label.{Net, labels_at}
use Rattle.sr_encode.specs.declared.answers.NodeAnswer.{NodeAnswer}
use Rattle.sr_encode.specs.Kept.{outcome_at}
use Rattle.sr_encode.specs.declared.kept.Outcome.{Outcome}
use Rattle.sr_encode.specs.declared.kept.Outcome.TheVariants.{Least as ListOutcome, NoPath as NoPathOutcome, NoList as NoListOutcome}

-- a list is let through where it has fewer segments than the limit: the maximum SID depth (MSD) that the source
-- announces, since the label below the segments is pushed too (RFC 8491, 5), or else one more than the depth of the net
-- (this project's rule)
abbrev pub limit_of : Option ℕ → ℕ → ℕ
limit_of None depth = depth + 1
limit_of (Some most) depth = most

-- the limit at node s
abbrev pub limit_at : Net → ℕ → ℕ
limit_at n s = limit_of (labels_at n s).imposes n.depth

-- the answer where this is listed: a list that isn't let through is too deep, with the number of its segments
abbrev pub limited : ℕ → Answer → Answer
limited limit NoPath = NoPath
limited limit NoList = NoList
limited limit (TooDeep needed) = TooDeep needed
limited limit (Least list) =
    if nat_lt (length list.segments) limit then Least list else TooDeep (length list.segments)

-- the answer for a destination for which this is listed
abbrev pub limited_entry : ℕ → NodeAnswer → NodeAnswer
limited_entry limit entry = record { destination = entry.destination; answer = limited limit entry.answer }

-- the answers where these are listed
abbrev pub limited_entries : ℕ → List NodeAnswer → List NodeAnswer
limited_entries limit list = map (limited_entry limit) list

-- the outcome is no list, or one that is let through
abbrev pub IsLetThrough : ℕ → Outcome → Type 0
IsLetThrough limit NoPathOutcome = Unit {0}
IsLetThrough limit NoListOutcome = Unit {0}
IsLetThrough limit (ListOutcome first begin end) = end < begin + limit

-- so is each outcome
abbrev pub AreLetThrough : ℕ → List Outcome → Type 0
AreLetThrough limit outcomes = (r : ℕ) → r < length outcomes → IsLetThrough limit (outcome_at outcomes r)
