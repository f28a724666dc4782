-- One piece of a run at a time.
use Rattle.std.specs.Prelude.{◌≡◌, ℕ, ◌+◌, ◌<◌, ◌≤◌, ◌⊎◌, ◌++◌, ◌∷◌, [], List, length, drop, Option, Some, None}
use Rattle.sr_wire.specs.declared.fault.Check.{Check}
use Rattle.sr_wire.specs.declared.fault.Check.TheVariants.{FieldExtent}
use Rattle.sr_wire.specs.Run.{FaultyPiece, Layout}

-- a whole piece without a fault stands from place `at` to place `end`, and says `own`
pub record IsNextPiece {E X : Type 0} (layout : Layout E) (says : E → List X → Type 0) (octets : List ℕ) (at end : ℕ)
    (own : List X) : Type 0 where
  pub piece : E
  pub further : at < end
  pub within : end ≤ length octets
  pub is : layout.is piece
  pub text : drop at octets ≡ layout.text piece ++ drop end octets
  pub sound : (k : ℕ) (check : Check) → layout.fault piece k check → ⊥
  pub told : says piece own

-- no whole piece stands at place `at`, or one with a fault inside
abbrev pub StopsAt : {E : Type 0} → Layout E → List ℕ → ℕ → ℕ → Check → Type 0
StopsAt {E = E} layout octets at offset check =
    ((offset ≡ at) × (check ≡ FieldExtent)
    × ((piece : E) (rest : List ℕ) → layout.is piece → drop at octets ≡ layout.text piece ++ rest → ⊥))
    ⊎ ((inside : ℕ) × FaultyPiece layout (drop at octets) inside check × (offset ≡ at + inside))

-- a value that may be absent, as a list
abbrev pub if_some : {X : Type 0} → Option X → List X
if_some None = []
if_some (Some x) = x ∷ []
