-- Answers whose links have other numbers.
use Rattle.std.specs.Prelude.{◌≡◌, ℕ, ◌+◌, ◌-◌, ◌<◌, ◌≤◌, List, Option, map}
use Rattle.sr_model.specs.declared.link.LinkNo.{LinkNo}
use Rattle.sr_model.specs.declared.link.TheConstants.{MOST_LINKS}
use Rattle.sr_model.specs.declared.repair.Segment.{Segment}
use Rattle.sr_model.specs.declared.repair.Segment.TheVariants.{Node, Adj}
use Rattle.sr_model.specs.declared.repair.Answer.{Answer}
use Rattle.sr_model.specs.declared.repair.Answer.TheVariants.{Least, NoPath, NoList, TooDeep}
use Rattle.sr_spf.specs.Renewed.{moved_link}
use Rattle.sr_encode.specs.declared.answers.NodeAnswer.{NodeAnswer}
use Rattle.sr_encode.specs.declared.kept.Outcome.{Outcome}
use Rattle.sr_encode.specs.declared.renumbered.Renumbering.{Renumbering}
use Rattle.sr_encode.specs.declared.kept.Outcome.TheVariants.{Least as ListOutcome, NoPath as NoPathOutcome, NoList as NoListOutcome}

-- the segment, its link renumbered
abbrev pub moved_segment : List (Option LinkNo) → Segment → Segment
moved_segment links (Node v) = Node v
moved_segment links (Adj l) = Adj (moved_link links l)

-- the answer, its links renumbered
abbrev pub moved_answer : List (Option LinkNo) → Answer → Answer
moved_answer links NoPath = NoPath
moved_answer links NoList = NoList
moved_answer links (TooDeep needed) = TooDeep needed
moved_answer links (Least list) =
    Least (record {
      first = moved_link links list.first;
      segments = map (moved_segment links) list.segments;
      cost = list.cost;
    })

-- the answer for a destination, its links renumbered
abbrev pub moved_entry : List (Option LinkNo) → NodeAnswer → NodeAnswer
moved_entry links entry = record { destination = entry.destination; answer = moved_answer links entry.answer }

-- all answers, their links renumbered
abbrev pub moved_entries : List (Option LinkNo) → List NodeAnswer → List NodeAnswer
moved_entries links list = map (moved_entry links) list

-- the new number of the link at this place among the old links of the source
abbrev pub moved_first : Renumbering → ℕ → ℕ
moved_first r place = (moved_link r.links.now (record { 0 = r.before.0 + place })).0

-- the outcome, its first link told by its place among the new links of the source
abbrev pub moved_outcome : Renumbering → Outcome → Outcome
moved_outcome r NoPathOutcome = NoPathOutcome
moved_outcome r NoListOutcome = NoListOutcome
moved_outcome r (ListOutcome place begin end) = ListOutcome (moved_first r place - r.after.0) begin end

-- the place of the outcome's first link, counted from link number `start`, is that of a link that a graph can have
abbrev pub HasLinkPlace : ℕ → Outcome → Type 0
HasLinkPlace start NoPathOutcome = Unit {0}
HasLinkPlace start NoListOutcome = Unit {0}
HasLinkPlace start (ListOutcome place begin end) = start + place < MOST_LINKS

-- so it is before, and the new number of the first link isn't below that at which the new links of the source begin
abbrev pub CanMove : Renumbering → Outcome → Type 0
CanMove r NoPathOutcome = Unit {0}
CanMove r NoListOutcome = Unit {0}
CanMove r (ListOutcome place begin end) = (r.before.0 + place < MOST_LINKS) × (r.after.0 ≤ moved_first r place)

-- the outcome's first link has the same place among the new links of the source
abbrev pub KeepsPlace : Renumbering → Outcome → Type 0
KeepsPlace r NoPathOutcome = Unit {0}
KeepsPlace r NoListOutcome = Unit {0}
KeepsPlace r (ListOutcome place begin end) = moved_first r place ≡ r.after.0 + place
