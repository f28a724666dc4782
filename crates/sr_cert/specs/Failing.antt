-- The first clause that a certificate fails.
use Rattle.std.specs.Prelude.{ℕ, ◌<◌, Bool, List}
use Rattle.sr_model.specs.Label.{Net}
use Rattle.sr_cert.specs.declared.certificate.Certificate.{Certificate}
use Rattle.sr_cert.specs.declared.clause.Clause.{Clause}
use Rattle.sr_cert.specs.Clauses.{Meets, clause_number}

-- all clauses are met
abbrev pub MeetsAll : Net → List Bool → Certificate → Type 0
MeetsAll n x c = (k : Clause) → Meets n x c k

-- the clauses whose number is below k are met
abbrev pub MeetsBelow : Net → List Bool → Certificate → ℕ → Type 0
MeetsBelow n x c k = (j : Clause) → clause_number j < k → Meets n x c j

-- the clause isn't met, and all before it are
pub record FailsFirst (n : Net) (x : List Bool) (c : Certificate) (clause : Clause) : Type 0 where
  pub before : MeetsBelow n x c (clause_number clause)
  pub fails : Meets n x c clause → ⊥
