-- Rows of distances, taken from what a version has.
use Rattle.std.specs.Prelude.{◌≡◌, ℕ, ◌<◌, Bool, List, [], ◌∷◌, ◌++◌, length, slice_index}
use Rattle.std.specs.List.{AllZip}
use Rattle.sr_model.specs.declared.case.Case.{Case}
use Rattle.sr_model.specs.declared.repair.Segment.{Segment}
use Rattle.sr_model.specs.declared.repair.Segment.TheVariants.{Node, Adj}
use Rattle.sr_model.specs.Graph.{Graph}
use Rattle.sr_model.specs.Walk.{IsRow}
use Rattle.sr_model.specs.Case.{IsFailedSet, source_of}
use Rattle.sr_spf.specs.Trees.{Forest, cell_at}
use Rattle.sr_cert.specs.Rows.{Heading, From, To, HoldsDistances}

-- the distances from the source of the case without the links that fail in it
abbrev pub IsRowWithout : Graph → Case → List ℕ → Type 0
IsRowWithout g case cells = (x : List Bool) → IsFailedSet g case x → IsRow g x (source_of g case) cells

-- the cells of node v in the rows of the first k nodes
pub record IsColumn (t : Forest) (v k : ℕ) (cells : List ℕ) : Type 0 where
  pub long : length cells ≡ k
  pub each : (u : ℕ) → u < k → slice_index cells u ≡ cell_at t u v

-- the rows that a segment asks for, which becomes active at waypoint u
abbrev pub headings_of : ℕ → Segment → List Heading
headings_of u (Node v) = From u ∷ To v.0 ∷ []
headings_of u (Adj l) = []

-- exact rows of these headings stand behind the rows that there were
pub record AddsRows (g : Graph) (asked : List Heading) (before after : List (List ℕ)) : Type 0 where
  pub added : List (List ℕ)
  pub joined : after ≡ before ++ added
  pub exact : AllZip (HoldsDistances g) asked added

-- exact rows stand behind the rows that there were; with those of the headings that are left they are those asked for
pub record AreBegun (g : Graph) (asked left : List Heading) (before after : List (List ℕ)) : Type 0 where
  pub added : List (List ℕ)
  pub joined : after ≡ before ++ added
  pub goes_on : (more : List (List ℕ)) → AllZip (HoldsDistances g) left more
      → AllZip (HoldsDistances g) asked (added ++ more)

-- the distances without the failed links, and behind them exact rows of these headings
pub record AreTaken (g : Graph) (case : Case) (asked : List Heading) (rows : List (List ℕ)) : Type 0 where
  pub first : List ℕ
  pub others : List (List ℕ)
  pub joined : rows ≡ first ∷ others
  pub begins : IsRowWithout g case first
  pub exact : AllZip (HoldsDistances g) asked others
