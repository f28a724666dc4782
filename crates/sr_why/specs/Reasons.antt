-- Why a case has no repair for a destination.
use Rattle.std.specs.Prelude.{◌≡◌, ◌≢◌, ◌↔◌, ℕ, ◌<◌, Bool, true, List, length, count_by, slice_index_or, false}
use Rattle.sr_model.specs.declared.case.Case.{Case}
use Rattle.sr_model.specs.declared.repair.Answer.{Answer}
use Rattle.sr_model.specs.declared.repair.Answer.TheVariants.{Least, NoPath, NoList, TooDeep}
use Rattle.sr_model.specs.Graph.{Graph, node_count}
use Rattle.sr_model.specs.Walk.{IsWalk, IsDistance}
use Rattle.sr_model.specs.Case.{IsFailedSet, source_of}
use Rattle.sr_model.specs.Label.{Net}
use Rattle.sr_model.specs.Repair.{Path, IsLeast, IsCaseAnswer}
use Rattle.sr_why.specs.declared.reason.Cause.{Cause}
use Rattle.sr_why.specs.declared.reason.Cause.TheVariants.{Covered, NoPath as NoPathLeft, NoList as NoListSound, TooDeep as ListTooDeep}
use Rattle.sr_why.specs.declared.whole.WholeList.{WholeList}
use Rattle.sr_why.specs.Labelled.{IsLabelled}

-- the path of a list
abbrev pub path_of_list : WholeList → Path
path_of_list list = record { first = list.first.0; segments = list.segments }

-- the tests tell to which nodes but s a walk leads without the failed links
pub record AreReached (g : Graph) (x : List Bool) (s : ℕ) (tests : List Bool) : Type 0 where
  pub long : length tests ≡ node_count g
  pub each : (v : ℕ) → v < node_count g
      → (slice_index_or tests v false ≡ true) ↔ ((v ≢ s) × ((p : List ℕ) × IsWalk g x s p v))

-- that many nodes but s are still reached without the failed links
abbrev pub IsReachedCount : Graph → List Bool → ℕ → ℕ → Type 0
IsReachedCount g x s count =
    (tests : List Bool) × AreReached g x s tests × (count ≡ count_by (λ (test : Bool). test) tests)

-- the list is the least sound one of the net, at its cost, whether or not it is too deep
pub record IsLeastList (n : Net) (x : List Bool) (s d : ℕ) (list : WholeList) : Type 0 where
  pub least : IsLeast n x s d (path_of_list list)
  pub costs : IsDistance n.graph x s d list.cost

-- the list would be the least sound one if each node had an index and each link a label
abbrev pub IsLeastIfLabelled : Net → List Bool → ℕ → ℕ → WholeList → Type 0
IsLeastIfLabelled n x s d list = (m : Net) × IsLabelled n m × IsLeastList m x s d list

-- what is told beside the answer from s to d without the failed links: nothing where it is a list; how many nodes are
-- still reached where no walk is left; the list that would be the least if no index and no label were lacking where no
-- list is sound; the least list where it is too deep (this project's rule)
abbrev pub Explains : Net → List Bool → ℕ → ℕ → Cause → Type 0
Explains n x s d Covered = Unit {0}
Explains n x s d (NoPathLeft reached) = IsReachedCount n.graph x s reached
Explains n x s d (NoListSound list) = IsLeastIfLabelled n x s d list
Explains n x s d (ListTooDeep list) = IsLeastList n x s d list

-- the reason is of the answer's sort
abbrev pub IsReasonOf : Answer → Cause → Type 0
IsReasonOf (Least list) reason = reason ≡ Covered
IsReasonOf NoPath reason = (reached : ℕ) × (reason ≡ NoPathLeft reached)
IsReasonOf NoList reason = (list : WholeList) × (reason ≡ NoListSound list)
IsReasonOf (TooDeep k) reason = (list : WholeList) × (reason ≡ ListTooDeep list) × (length list.segments ≡ k)

-- why the case has no repair for d, or that it has one: the reason of its answer, with what it tells
pub record IsReason (n : Net) (case : Case) (d : ℕ) (reason : Cause) : Type 0 where
  pub answer : Answer
  pub answer_is : IsCaseAnswer n case d answer
  pub of : IsReasonOf answer reason
  pub failed : List Bool
  pub set : IsFailedSet n.graph case failed
  pub explains : Explains n failed (source_of n.graph case) d reason
