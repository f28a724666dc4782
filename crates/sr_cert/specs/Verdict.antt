-- The verdict on a certificate.
use Rattle.std.specs.Prelude.{ℕ, ◌<◌, Bool, List}
use Rattle.sr_model.specs.declared.repair.Segment.{Segment}
use Rattle.sr_model.specs.declared.repair.Segment.TheVariants.{Node, Adj}
use Rattle.sr_model.specs.Graph.{node_count, link_count}
use Rattle.sr_model.specs.Walk.{IsDistance}
use Rattle.sr_model.specs.Case.{IsCase, IsFailedSet, source_of}
use Rattle.sr_model.specs.Label.{Net}
use Rattle.std.specs.List.{All}
use Rattle.sr_cert.specs.declared.certificate.Certificate.{Certificate}
use Rattle.sr_cert.specs.declared.clause.Clause.{Clause}
use Rattle.sr_cert.specs.declared.clause.Verdict.{Verdict}
use Rattle.sr_cert.specs.declared.clause.Verdict.TheVariants.{Accepted, Rejected}
use Rattle.sr_cert.specs.Clauses.{Meets, clause_number}

-- the node or link of the segment is one of the net
abbrev pub IsSegmentWithin : Net → Segment → Type 0
IsSegmentWithin n (Node v) = v.0 < node_count n.graph
IsSegmentWithin n (Adj l) = l.0 < link_count n.graph

-- the nodes and links of the certificate are those of the net
pub record IsWithinNet (n : Net) (c : Certificate) : Type 0 where
  pub case : IsCase n.graph c.case
  pub dest : c.dest.0 < node_count n.graph
  pub first : c.first.0 < link_count n.graph
  pub segments : All (IsSegmentWithin n) c.segments

-- all clauses are met, and this is the distance of the destination without the failed links
pub record IsAcceptedAt (n : Net) (c : Certificate) (cost : ℕ) : Type 0 where
  pub x : List Bool
  pub failed : IsFailedSet n.graph c.case x
  pub meets : (k : Clause) → Meets n x c k
  pub distance : IsDistance n.graph x (source_of n.graph c.case) c.dest.0 cost

-- the clause isn't met, and all before it are
pub record IsRejected (n : Net) (c : Certificate) (clause : Clause) : Type 0 where
  pub x : List Bool
  pub failed : IsFailedSet n.graph c.case x
  pub before : (k : Clause) → clause_number k < clause_number clause → Meets n x c k
  pub fails : Meets n x c clause → ⊥

-- accepted with the cost where all clauses are met, else rejected for the first that isn't
abbrev pub IsVerdict : Net → Certificate → Verdict → Type 0
IsVerdict n c (Accepted cost) = IsAcceptedAt n c cost
IsVerdict n c (Rejected clause) = IsRejected n c clause
