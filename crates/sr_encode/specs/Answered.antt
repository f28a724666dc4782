-- What is listed in a case, and its answers.
use Rattle.std.specs.Prelude.{◌≡◌, ◌≢◌, ◌↔◌, ℕ, ◌<◌, Bool, true, List, length, count_by, slice_index_or, IsTrue}
use Rattle.sr_lanes.specs.Bits.{is_in}
use Rattle.sr_lanes.specs.declared.words.NodeBits.{NodeBits}
use Rattle.sr_model.specs.declared.case.Case.{Case}
use Rattle.sr_model.specs.declared.repair.Answer.{Answer}
use Rattle.sr_model.specs.declared.repair.Answer.TheVariants.{NoPath}
use Rattle.sr_model.specs.declared.audit.Counts.{Counts}
use Rattle.sr_model.specs.Audit.{is_least, is_no_path, is_no_list, is_too_deep}
use Rattle.sr_model.specs.Label.{Net}
use Rattle.sr_model.specs.Case.{IsAffected}
use Rattle.sr_model.specs.Repair.{IsCaseAnswer}
use Rattle.sr_laws.specs.Listed.{IsCaseListed, IsListed}
use Rattle.sr_encode.specs.declared.answers.NodeAnswer.{NodeAnswer}

-- the answer at place i, with its destination
abbrev pub node_answer_at : List NodeAnswer → ℕ → NodeAnswer
node_answer_at list i = slice_index_or list i (record { destination = record { 0 = 0 }; answer = NoPath })

-- the destination at place i
abbrev pub destination_at : List NodeAnswer → ℕ → ℕ
destination_at list i = (node_answer_at list i).destination.0

-- the answer at place i
abbrev pub answer_at : List NodeAnswer → ℕ → Answer
answer_at list i = (node_answer_at list i).answer

-- destinations ascend
abbrev pub AscendByNode : List NodeAnswer → Type 0
AscendByNode list = (i j : ℕ) → i < j → j < length list → destination_at list i < destination_at list j

-- the list has the answer for d
abbrev pub HasAnswer : List NodeAnswer → ℕ → Answer → Type 0
HasAnswer list d answer = (i : ℕ) × (i < length list) × (destination_at list i ≡ d) × (answer_at list i ≡ answer)

-- the list has no answer for d
abbrev pub NoAnswer : List NodeAnswer → ℕ → Type 0
NoAnswer list d = (i : ℕ) → i < length list → destination_at list i ≢ d

-- how many of the answers are lists, no path, no list and too deep
abbrev pub counts_in : List NodeAnswer → Counts
counts_in list = record {
  covered = count_by (λ (e : NodeAnswer). is_least e.answer) list;
  nopath = count_by (λ (e : NodeAnswer). is_no_path e.answer) list;
  nolist = count_by (λ (e : NodeAnswer). is_no_list e.answer) list;
  toodeep = count_by (λ (e : NodeAnswer). is_too_deep e.answer) list;
}

-- the set has just the affected destinations of the case
abbrev pub AreAffected : Net → Case → NodeBits → Type 0
AreAffected n case wanted = (v : ℕ) → IsTrue (is_in wanted v) ↔ IsAffected n case v

-- the list has the affected destinations of the case, ascending, each with an answer that belongs to it
pub record AreForAffected (Belongs : ℕ → Answer → Type 0) (n : Net) (case : Case)
    (list : List NodeAnswer) : Type 0 where
  pub ascending : AscendByNode list
  pub affected : (i : ℕ) → i < length list → IsAffected n case (destination_at list i)
  pub answers : (i : ℕ) → i < length list → Belongs (destination_at list i) (answer_at list i)
  pub all : (d : ℕ) → IsAffected n case d → (i : ℕ) × (i < length list) × (destination_at list i ≡ d)

-- the list has the affected destinations of the case, ascending, each with its answer
abbrev pub AreAnswers : Net → Case → List NodeAnswer → Type 0
AreAnswers n case = AreForAffected (IsCaseAnswer n case) n case

-- the list has the affected destinations of the case, ascending, each with what is listed for it, however deep
abbrev pub AreLists : Net → Case → List NodeAnswer → Type 0
AreLists n case = AreForAffected (IsCaseListed n case) n case

-- the list has the destinations of the set, ascending, each with what is listed for it
pub record AreListed (n : Net) (x : List Bool) (s : ℕ) (wanted : NodeBits) (list : List NodeAnswer) : Type 0 where
  pub ascending : AscendByNode list
  pub within : (i : ℕ) → i < length list → is_in wanted (destination_at list i) ≡ true
  pub lists : (i : ℕ) → i < length list → IsListed n x s (destination_at list i) (answer_at list i)
  pub all : (d : ℕ) → is_in wanted d ≡ true → (i : ℕ) × (i < length list) × (destination_at list i ≡ d)
