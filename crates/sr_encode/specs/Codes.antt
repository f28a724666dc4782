-- Which answers of a case are alike, by their codes.
use Rattle.std.specs.Prelude.{◌≡◌, ℕ, ◌+◌, ◌<◌, List, length, map, slice_index}
use Rattle.sr_model.specs.declared.repair.Answer.{Answer}
use Rattle.sr_model.specs.declared.repair.Answer.TheVariants.{Least, NoPath, NoList, TooDeep}
use Rattle.sr_encode.specs.declared.answers.NodeAnswer.{NodeAnswer}
use Rattle.sr_encode.specs.declared.kept.Kept.{Kept}
use Rattle.sr_encode.specs.Answered.{answer_at}

-- the answer without the cost of its list
abbrev pub without_cost : Answer → Answer
without_cost (Least list) = Least (record { first = list.first; segments = list.segments; cost = 0 })
without_cost NoPath = NoPath
without_cost NoList = NoList
without_cost (TooDeep needed) = TooDeep needed

-- the codes of what is listed so: the places of the outcomes
abbrev pub codes_of : List Kept → List ℕ
codes_of kept = map (λ (k : Kept). k.outcome) kept

-- each answer has a code, and answers with one code differ at most in their costs; a code is below the number of the
-- answers plus two
pub record AreCodes (answers : List NodeAnswer) (list : List ℕ) : Type 0 where
  pub long : length list ≡ length answers
  pub few : (i : ℕ) → i < length answers → slice_index list i < length answers + 2
  pub same : (i j : ℕ) → i < length answers → j < length answers → slice_index list i ≡ slice_index list j
      → without_cost (answer_at answers i) ≡ without_cost (answer_at answers j)
