-- What a failure takes.
use Rattle.std.specs.Prelude.{◌≡◌, ◌↔◌, ℕ, ◌<◌, List, Contains}
use Rattle.sr_model.specs.declared.case.Case.{Case}
use Rattle.sr_model.specs.declared.case.Kind.TheVariants.{Link as LinkKind, Risk as RiskKind}
use Rattle.sr_model.specs.Key.{IsSamePair}
use Rattle.sr_model.specs.Graph.{Graph, link_count}
use Rattle.sr_model.specs.Case.{key_at, ShareGroup, FailsWith}

-- some number stands in both lists
abbrev pub HaveCommon : List ℕ → List ℕ → Type 0
HaveCommon one other = (r : ℕ) × Contains one r × Contains other r

-- link l is of link p's pair where it shares a group with it
abbrev pub AddsNothing : Graph → ℕ → ℕ → Type 0
AddsNothing g p l = ShareGroup g l p → IsSamePair (key_at g l) (key_at g p)

-- it is an SRLG case, in which the links fail that fail in the link case of the same protected link
pub record FailsAsLink (g : Graph) (case : Case) : Type 0 where
  pub risk : case.kind ≡ RiskKind
  pub same : (l : ℕ) → l < link_count g → FailsWith g case.kind case.link.0 l ↔ FailsWith g LinkKind case.link.0 l
