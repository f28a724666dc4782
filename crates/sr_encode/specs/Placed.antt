-- What is listed in a case, whose first links are told by their places among the links of the source.
use Rattle.std.specs.Prelude.{ℕ, ◌<◌, ◌≤◌, List, All}
use Rattle.sr_model.specs.declared.case.Case.{Case}
use Rattle.sr_model.specs.declared.link.TheConstants.{MOST_LINKS}
use Rattle.sr_model.specs.declared.repair.Answer.{Answer}
use Rattle.sr_model.specs.declared.repair.Answer.TheVariants.{Least, NoPath, NoList, TooDeep}
use Rattle.sr_model.specs.declared.repair.Segment.{Segment}
use Rattle.sr_model.specs.Case.{source_of}
use Rattle.sr_model.specs.Label.{Net}
use Rattle.sr_graph.specs.Ranges.{HoldsLinks}
use Rattle.sr_encode.specs.declared.answers.NodeAnswer.{NodeAnswer}
use Rattle.sr_encode.specs.declared.kept.Kept.{Kept}
use Rattle.sr_encode.specs.declared.kept.Outcome.{Outcome}
use Rattle.sr_encode.specs.Answered.{AreLists}
use Rattle.sr_encode.specs.Kept.{entries}

-- what is listed in a case, wherever the links of the source begin
pub record Listing : Type 0 where
  pub segments : List Segment
  pub outcomes : List Outcome
  pub kept : List Kept

-- what is listed so, with first links counted from link number `start`
abbrev pub listed_from : ℕ → Listing → List NodeAnswer
listed_from start listing = entries listing.segments listing.outcomes listing.kept start

-- with first links counted from the one at which the links of the source begin, this is what is listed in the case
pub record ArePlacedLists (n : Net) (case : Case) (listing : Listing) : Type 0 where
  pub from : (first end : ℕ) → HoldsLinks n.graph (source_of n.graph case) first end
      → AreLists n case (listed_from first listing)

-- where the answer is a list, its first link is one that a graph can have
abbrev pub HasLinkNumber : Answer → Type 0
HasLinkNumber (Least list) = list.first.0 < MOST_LINKS
HasLinkNumber NoPath = Unit {0}
HasLinkNumber NoList = Unit {0}
HasLinkNumber (TooDeep needed) = Unit {0}

-- so it is with each answer
abbrev pub HaveLinkNumbers : List NodeAnswer → Type 0
HaveLinkNumbers list = All (λ (e : NodeAnswer). HasLinkNumber e.answer) list

-- where the answer is a list, its first link doesn't stand before link number `start`
abbrev pub IsNotBefore : ℕ → Answer → Type 0
IsNotBefore start (Least list) = start ≤ list.first.0
IsNotBefore start NoPath = Unit {0}
IsNotBefore start NoList = Unit {0}
IsNotBefore start (TooDeep needed) = Unit {0}

-- so it is with each answer
abbrev pub AreNotBefore : ℕ → List NodeAnswer → Type 0
AreNotBefore start list = All (λ (e : NodeAnswer). IsNotBefore start e.answer) list
