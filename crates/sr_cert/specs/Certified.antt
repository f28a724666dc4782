-- What a certificate promises, and the certificate of an answer.
use Rattle.std.specs.Prelude.{◌≡◌, ℕ, ◌≤◌, Bool, List, reverse}
use Rattle.sr_model.specs.declared.case.Case.{Case}
use Rattle.sr_model.specs.declared.repair.RepairList.{RepairList}
use Rattle.sr_model.specs.declared.repair.Answer.TheVariants.{Least}
use Rattle.sr_model.specs.Walk.{IsWalk, cost as cost_of}
use Rattle.sr_model.specs.Case.{IsFailedSet, IsAffected, source_of}
use Rattle.sr_model.specs.Label.{Net}
use Rattle.sr_model.specs.Repair.{IsCaseAnswer}
use Rattle.sr_repair.specs.Delivery.{RepairDelivers}
use Rattle.sr_cert.specs.declared.certificate.Certificate.{Certificate}
use Rattle.sr_cert.specs.declared.clause.Verdict.{Verdict}
use Rattle.sr_cert.specs.declared.clause.Verdict.TheVariants.{Accepted, Rejected}
use Rattle.sr_cert.specs.Verdict.{IsAcceptedAt}

-- the repair of the certificate at this cost
abbrev pub list_of : Certificate → ℕ → RepairList
list_of c cost = record { first = c.first; segments = c.segments; cost = cost }

-- the labels deliver, whichever equal-cost links the nodes take, and no walk without the failed links costs less
pub record IsWorth (n : Net) (c : Certificate) (cost : ℕ) : Type 0 where
  pub delivers : RepairDelivers n c.case c.dest.0 (list_of c cost) (reverse c.labels)
  pub least : (x : List Bool) → IsFailedSet n.graph c.case x
      → (p : List ℕ) → IsWalk n.graph x (source_of n.graph c.case) p c.dest.0 → cost ≤ cost_of n.graph p

-- a certificate that is accepted is worth its cost
abbrev pub DeliversWhereAccepted : Net → Certificate → Verdict → Type 0
DeliversWhereAccepted n c (Accepted cost) = IsWorth n c cost
DeliversWhereAccepted n c (Rejected clause) = Unit {0}

-- the certificate of the least list of d in the case: it is accepted with the list's cost
pub record IsCertificateOf (n : Net) (case : Case) (d : ℕ) (c : Certificate) : Type 0 where
  pub list : RepairList
  pub affected : IsAffected n case d
  pub answer : IsCaseAnswer n case d (Least list)
  pub case_is : c.case ≡ case
  pub dest_is : c.dest.0 ≡ d
  pub first : c.first ≡ list.first
  pub segments : c.segments ≡ list.segments
  pub accepted : IsAcceptedAt n c list.cost
