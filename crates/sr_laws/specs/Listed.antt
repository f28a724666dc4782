-- What is listed for a destination, before its source lets the list through.
use Rattle.std.specs.Prelude.{◌≡◌, ℕ, Bool, List}
use Rattle.sr_model.specs.declared.case.Case.{Case}
use Rattle.sr_model.specs.declared.repair.Answer.{Answer}
use Rattle.sr_model.specs.declared.repair.Answer.TheVariants.{Least, NoPath, NoList, TooDeep}
use Rattle.sr_model.specs.Walk.{IsDistance, IsWalk, NoWalk}
use Rattle.sr_model.specs.Case.{IsAffected, IsFailedSet, source_of}
use Rattle.sr_model.specs.Label.{Net, labels_at}
use Rattle.sr_model.specs.Repair.{IsLeast, IsSound, Path, path_of}

-- what is listed from s to d without the failed links: no path where no walk is left; no list where one is left and no
-- list is sound; else the least list with the distance as its cost, however many segments it has (this project's rule)
abbrev pub IsListed : Net → List Bool → ℕ → ℕ → Answer → Type 0
IsListed n x s d NoPath = NoWalk n.graph x s d
IsListed n x s d NoList = ((p : List ℕ) × IsWalk n.graph x s p d) × ((a : Path) → IsSound n x s d a → ⊥)
IsListed n x s d (TooDeep k) = ⊥
IsListed n x s d (Least list) = IsLeast n x s d (path_of list) × IsDistance n.graph x s d list.cost

-- what is listed in a case for d
pub record IsCaseListed (n : Net) (case : Case) (d : ℕ) (answer : Answer) : Type 0 where
  pub failed : List Bool
  pub set : IsFailedSet n.graph case failed
  pub listed : IsListed n failed (source_of n.graph case) d answer

-- the nets have the same graph, the same index of each node and the same adjacency label of each link: they may differ
-- in the depths of their lists, in label ranges and flags, and in announcements of links that aren't in use
pub record HaveSameLists (n m : Net) : Type 0 where
  pub graph : m.graph ≡ n.graph
  pub index : (v : ℕ) → (labels_at m v).index ≡ (labels_at n v).index
  pub adj : m.adj ≡ n.adj

-- where they do, what is listed in one net is listed in the other
abbrev pub SameListsStay : Type 0
SameListsStay =
    (n m : Net) → HaveSameLists n m → (case : Case) (d : ℕ) (answer : Answer) → IsCaseListed n case d answer
    → IsCaseListed m case d answer

-- and the destinations that are affected in one are affected in the other
abbrev pub SameAffectedStay : Type 0
SameAffectedStay =
    (n m : Net) → HaveSameLists n m → (case : Case) (d : ℕ) → IsAffected n case d → IsAffected m case d
