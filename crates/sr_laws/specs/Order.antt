-- Laws of the order of lists and of answers.
use Rattle.std.specs.Prelude.{◌≡◌, ◌⊎◌, ℕ, List, Bool}
use Rattle.sr_model.specs.declared.case.Case.{Case}
use Rattle.sr_model.specs.declared.repair.Answer.{Answer}
use Rattle.sr_model.specs.Label.{Net}
use Rattle.sr_model.specs.Repair.{Path, PathLt, PathLe, IsLeast, IsCaseAnswer}

-- of two lists one comes before the other, or they are the same
abbrev pub ListsAreOrdered : Type 0
ListsAreOrdered = (a b : Path) → PathLe a b ⊎ PathLe b a

-- no list comes before itself, and a list before one that is before a third is before the third
abbrev pub OrderIsStrict : Type 0
OrderIsStrict = ((a : Path) → PathLt a a → ⊥) × ((a b c : Path) → PathLt a b → PathLt b c → PathLt a c)

-- there is at most one least list
abbrev pub LeastListsAreUnique : Type 0
LeastListsAreUnique = (n : Net) (x : List Bool) (s d : ℕ) (a b : Path) → IsLeast n x s d a → IsLeast n x s d b → a ≡ b

-- a case has at most one answer for a destination
abbrev pub AnswersAreUnique : Type 0
AnswersAreUnique =
    (n : Net) (case : Case) (d : ℕ) (a b : Answer) → IsCaseAnswer n case d a → IsCaseAnswer n case d b → a ≡ b
