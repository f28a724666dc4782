-- The answers of all cases.
use Rattle.std.specs.Prelude.{◌≡◌, ℕ, ◌+◌, ◌*◌, ◌<◌, List, [], ◌∷◌, length, Option, Some, None, slice_index_or}
use Rattle.std.specs.Arc.{arc_value}
use Rattle.sr_model.specs.declared.case.Case.{Case}
use Rattle.sr_model.specs.declared.case.Kind.TheVariants.{Link as LinkKind, Node as NodeKind, Risk as RiskKind}
use Rattle.sr_model.specs.Audit.{rank_of}
use Rattle.sr_model.specs.Case.{IsCase, IsAffected}
use Rattle.sr_model.specs.Graph.{Graph, link_count}
use Rattle.sr_model.specs.Label.{Net}
use Rattle.sr_graph.specs.Failed.{FailsAsLink}
use Rattle.sr_encode.specs.declared.answers.NodeAnswer.{NodeAnswer}
use Rattle.sr_encode.specs.Answered.{AreAnswers}
use Rattle.sr_repair.specs.declared.passes.LinkPasses.{LinkPasses}
use Rattle.sr_repair.specs.declared.passes.Passed.{Passed}
use Rattle.sr_repair.specs.declared.passes.Passed.TheVariants.{Nothing, AsLink, Stays, Told, Listed}
use Rattle.sr_repair.specs.declared.answers.Found.{Found}
use Rattle.sr_repair.specs.declared.answers.Found.TheVariants.{Nothing as NothingFound, AsLink as AsLinkFound, Own}
use Rattle.sr_repair.specs.KnownCase.{IsKnownCase}
use Rattle.sr_repair.specs.Solutions.{IsSolution}
use Rattle.sr_repair.specs.Spared.{Passage, IsSpared}

-- a case of each kind protects each link
abbrev pub case_count : Graph → ℕ
case_count g = 3 * link_count g

-- the place of a case: by kind, then by protected link
abbrev pub place_of : Graph → Case → ℕ
place_of g case = rank_of case.kind * link_count g + case.link.0

-- the slot of a case: by protected link, then by kind
abbrev pub slot_of : Case → ℕ
slot_of case = 3 * case.link.0 + rank_of case.kind

-- what belongs to the cases in the first m slots stands there
pub record StandInSlots {X : Type 0} (default : X) (g : Graph) (Belongs : Case → X → Type 0) (m : ℕ) (all : List X)
    : Type 0 where
  pub long : length all ≡ m
  pub each : (case : Case) → IsCase g case → slot_of case < m → Belongs case (slice_index_or all (slot_of case) default)

-- some destination is affected in the case
abbrev pub AffectsSome : Net → Case → Type 0
AffectsSome n case = (d : ℕ) × IsAffected n case d

-- the link case that protects the same link
abbrev pub link_case : Case → Case
link_case case = record { kind = LinkKind; link = case.link }

-- what the pass over the case gives: nothing where it affects no destination, that its lists are those of the link
-- case where it fails as that does, what stays, what is told of it without a search, or what a search found where the
-- case isn't spared
abbrev pub IsPassed : Option Passage → Net → Case → Passed → Type 0
IsPassed former n case Nothing = AffectsSome n case → ⊥
IsPassed former n case AsLink = FailsAsLink n.graph case
IsPassed former n case (Stays known) = IsKnownCase n case known
IsPassed former n case (Told solved) = IsSolution n case (arc_value solved)
IsPassed former n case (Listed solved search) = IsSolution n case (arc_value solved) × (IsSpared former case → ⊥)

-- what the passes over the cases of link l give
abbrev pub AreOfLink : Option Passage → Net → ℕ → LinkPasses → Type 0
AreOfLink former n l passed =
    IsPassed former n (record { kind = LinkKind; link = record { 0 = l } }) passed.link
    × IsPassed former n (record { kind = NodeKind; link = record { 0 = l } }) passed.node
    × IsPassed former n (record { kind = RiskKind; link = record { 0 = l } }) passed.risk

-- what was given for the cases of each link, in order of slot
abbrev pub in_slots : List LinkPasses → List Passed
in_slots [] = []
in_slots (one ∷ rest) = one.link ∷ one.node ∷ one.risk ∷ in_slots rest

-- the distances that the case leaves, if the pass over it tells them
abbrev pub cells_told : Passed → Option (List ℕ)
cells_told Nothing = None
cells_told AsLink = None
cells_told (Stays known) = Some (arc_value known.solved).cells
cells_told (Told solved) = Some (arc_value solved).cells
cells_told (Listed solved search) = Some (arc_value solved).cells

-- what the passes over the cases in the first m slots give
abbrev pub AreAllPassed : Option Passage → Net → ℕ → List Passed → Type 0
AreAllPassed former n = StandInSlots Nothing n.graph (IsPassed former n)

-- how many searches were counted in the pass: one where there are answers that don't stay, and aren't told without one
abbrev pub searches_of : Passed → ℕ
searches_of Nothing = 0
searches_of AsLink = 0
searches_of (Stays known) = 0
searches_of (Told solved) = 0
searches_of (Listed solved search) = 1

-- how many searches were counted in the passes
abbrev pub pass_searches : List Passed → ℕ
pass_searches [] = 0
pass_searches (one ∷ rest) = searches_of one + pass_searches rest

-- the record of the case after the pass
abbrev pub kept_of : Passed → Found
kept_of Nothing = NothingFound
kept_of AsLink = AsLinkFound
kept_of (Stays known) = Own known
kept_of (Told solved) = Own (record { solved = solved; walks = None })
kept_of (Listed solved search) = Own (record { solved = solved; walks = None })

-- that no destination is affected, that the case fails as the link case does, or what is known of it
abbrev pub IsFound : Net → Case → Found → Type 0
IsFound n case NothingFound = AffectsSome n case → ⊥
IsFound n case AsLinkFound = FailsAsLink n.graph case
IsFound n case (Own known) = IsKnownCase n case known

-- the records of the cases in the first m slots
abbrev pub AreAllFound : Net → ℕ → List Found → Type 0
AreAllFound n = StandInSlots AsLinkFound n.graph (IsFound n)

-- each case has its answers
abbrev pub IsAnswered : Net → Type 0
IsAnswered n = (case : Case) → IsCase n.graph case → (answers : List NodeAnswer) × AreAnswers n case answers
