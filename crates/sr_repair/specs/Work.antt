-- How many searches for distances are made from a net to the next.
use Rattle.std.specs.Prelude.{◌≡◌, ℕ, ◌+◌, ◌≤◌, Bool, true, List, length, count_by, Option, Some}
use Rattle.sr_model.specs.declared.case.Case.{Case}
use Rattle.sr_model.specs.Graph.{node_count, has}
use Rattle.sr_model.specs.Case.{IsCase}
use Rattle.sr_model.specs.Label.{Net}
use Rattle.sr_model.specs.Stay.{IsKeptTree}
use Rattle.sr_laws.specs.Listed.{HaveSameLists}
use Rattle.sr_repair.specs.Answers.{case_count, slot_of}
use Rattle.sr_repair.specs.Spared.{Passage, IsSpared}

-- how many of the tests hold
abbrev pub how_many : List Bool → ℕ
how_many tests = count_by (λ (b : Bool). b) tests

-- w isn't more than the number of some nodes of net m whose trees don't stay from net n
pub record IsWithinTrees (n m : Net) (w : ℕ) : Type 0 where
  pub nodes : List Bool
  pub long : length nodes ≡ node_count m.graph
  pub each : (u : ℕ) → has nodes u ≡ true → IsKeptTree n.graph m.graph u → ⊥
  pub most : w ≤ how_many nodes

-- w isn't more than the number of some cases of net m that aren't spared
pub record IsWithinCases (former : Option Passage) (m : Net) (w : ℕ) : Type 0 where
  pub cases : List Bool
  pub long : length cases ≡ case_count m.graph
  pub each : (case : Case) → IsCase m.graph case → has cases (slot_of case) ≡ true → IsSpared former case → ⊥
  pub most : w ≤ how_many cases

-- w is at most one search for each node of net m whose tree doesn't stay from net n, and one for each case of net m
-- that isn't an old case that is steady; it is none where the same is listed in both nets
pub record IsWithinWork (n m : Net) (w : ℕ) : Type 0 where
  pub trees : ℕ
  pub cases : ℕ
  pub sum : w ≡ trees + cases
  pub nodes : IsWithinTrees n m trees
  pub slots : IsWithinCases (Some (record { old = n; new = m })) m cases
  pub same : HaveSameLists n m → w ≡ 0
