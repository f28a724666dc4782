-- Texts that are pieces, one after another, and the first fault of such a text.
use Rattle.std.specs.Prelude.{◌≡◌, ◌≢◌, ℕ, ◌+◌, ◌⊎◌, List, [], ◌++◌, length}
use Rattle.std.specs.List.{flat_map, AllByRecursion}
use Rattle.sr_wire.specs.declared.fault.Check.{Check}

-- how a kind of pieces stands in octets: which pieces there are, the encoding of one, and the faults inside one, by
-- their places in its encoding
pub record Layout (X : Type 0) : Type 1 where
  pub is : X → Type 0
  pub text : X → List ℕ
  pub fault : X → ℕ → Check → Type 0

-- the octets are these pieces, each without a fault inside
pub record IsRun {X : Type 0} (layout : Layout X) (octets : List ℕ) (pieces : List X) : Type 0 where
  pub text : octets ≡ flat_map layout.text pieces
  pub each : AllByRecursion layout.is pieces
  pub sound : AllByRecursion (λ x. (at : ℕ) (check : Check) → layout.fault x at check → ⊥) pieces

-- octets stand there, but no whole piece
pub record NoPiece {X : Type 0} (layout : Layout X) (octets : List ℕ) : Type 0 where
  pub some : octets ≢ []
  pub none : (x : X) (rest : List ℕ) → layout.is x → octets ≡ layout.text x ++ rest → ⊥

-- a piece stands there that has this fault inside
pub record FaultyPiece {X : Type 0} (layout : Layout X) (octets : List ℕ) (at : ℕ) (check : Check) : Type 0 where
  pub piece : X
  pub rest : List ℕ
  pub is : layout.is piece
  pub text : octets ≡ layout.text piece ++ rest
  pub fault : layout.fault piece at check

-- the first fault of a run: pieces without fault, and then no whole piece, which fails the check `own`, or a piece
-- with a fault inside
pub record RunFault {X : Type 0} (layout : Layout X) (own : Check) (octets : List ℕ) (at : ℕ)
    (check : Check) : Type 0 where
  pub before : List X
  pub rest : List ℕ
  pub front : List ℕ
  pub text : octets ≡ front ++ rest
  pub sound : IsRun layout front before
  pub here : (NoPiece layout rest × (at ≡ length front) × (check ≡ own))
      ⊎ ((inside : ℕ) × FaultyPiece layout rest inside check × (at ≡ length front + inside))
