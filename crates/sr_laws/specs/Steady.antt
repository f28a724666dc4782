-- Cases that outlast a change of the net although not each tree on their walks does (this project's rule).
use Rattle.std.specs.Prelude.{◌≡◌, ◌≢◌, ◌↔◌, ◌⊎◌, ℕ, ◌+◌, ◌<◌, Bool, true, List, []}
use Rattle.sr_model.specs.declared.case.Case.{Case}
use Rattle.sr_model.specs.declared.case.Kind.{Kind}
use Rattle.sr_model.specs.declared.case.Kind.TheVariants.{Link as LinkKind, Node as NodeKind, Risk as RiskKind}
use Rattle.sr_model.specs.declared.link.LinkNo.{LinkNo}
use Rattle.sr_model.specs.declared.name.LinkKey.{LinkKey}
use Rattle.sr_model.specs.declared.repair.Answer.{Answer}
use Rattle.sr_model.specs.Graph.{Graph, node_count, tail, head, carries}
use Rattle.sr_model.specs.Walk.{IsDistance, IsRow, NoWalk}
use Rattle.sr_model.specs.Space.{InP}
use Rattle.sr_model.specs.Case.{IsAffected, IsCase, IsFailedSet, IsOnRepairWay, source_of}
use Rattle.sr_model.specs.Label.{Net, labels_at, adj_at}
use Rattle.sr_model.specs.Rule.{IsNet}
use Rattle.sr_model.specs.Stay.{HaveSameName, HaveSameNodes, HaveSamePairs, IsChanged, IsIdle, IsKeptCase, IsKeptTree, IsOfFailedPair, IsSameAnswer, case_with}
use Rattle.sr_laws.specs.Listed.{IsCaseListed}

-- from u to v it is as far in one graph as in the other, or there is no walk in either
abbrev pub IsSameFar : Graph → Graph → ℕ → ℕ → Type 0
IsSameFar g h u v =
    ((c : ℕ) × IsDistance g [] u v c × IsDistance h [] u v c) ⊎ (NoWalk g [] u v × NoWalk h [] u v)

-- a node segment that leads from u to v in g without x, on a shortest walk from s, does so in h without y
abbrev pub KeepsStep : Graph → List Bool → Graph → List Bool → ℕ → ℕ → ℕ → Type 0
KeepsStep g x h y s u v =
    (a e : ℕ) → 0 < a → IsDistance g x s u a → IsDistance g x s v (a + e) → carries g v u ≡ true
    → InP g x u v → IsDistance g [] u v e → InP h y u v × IsDistance h [] u v e

-- the node at which the links lie that fail with link l in a case of this kind: its end where that node fails, else its
-- beginning
abbrev pub pivot_by : Graph → Kind → ℕ → ℕ
pivot_by g LinkKind l = tail g l
pivot_by g NodeKind l = head g l
pivot_by g RiskKind l = tail g l

-- the node at which the failed links of the case lie
abbrev pub pivot_of : Graph → Case → ℕ
pivot_of g case = pivot_by g case.kind case.link.0

-- the node has the same index, and the same adjacency label on each of its links that is in both nets: its segments are
-- the same
pub record HasSameSegments (n m : Net) (w : ℕ) : Type 0 where
  pub index : (labels_at n w).index ≡ (labels_at m w).index
  pub adj : (l k : ℕ) → HaveSameName n.graph m.graph l k → tail n.graph l ≡ w → adj_at n l ≡ adj_at m k

-- a case of the old net is steady: the protected key is a link of both nets; the failed links are of the same pairs;
-- the same destinations are affected; each changed link that isn't of a failed pair is idle for the old distances from
-- the source without the failed links; and each node on a shortest walk without the failed links from the source to an
-- affected destination has the same segments, and it is the source, or its tree stays, or it is as far as it was to the
-- node at which the failed links lie, as that node is to each of these nodes. How deep a list may be isn't asked: that
-- is decided when an answer is read
pub record IsSteadyCase (n m : Net) (case : Case) : Type 0 where
  pub within : IsCase n.graph case
  pub nodes : HaveSameNodes n.graph m.graph
  pub link : LinkNo
  pub protected : HaveSameName n.graph m.graph case.link.0 link.0
  pub x : List Bool
  pub y : List Bool
  pub failed : IsFailedSet n.graph case x
  pub failed' : IsFailedSet m.graph (case_with case link) y
  pub pairs : HaveSamePairs n.graph x m.graph y
  pub affected : (d : ℕ) → d < node_count n.graph → IsAffected n case d ↔ IsAffected m (case_with case link) d
  pub post : List ℕ
  pub row : IsRow n.graph x (source_of n.graph case) post
  pub idle : (key : LinkKey) → IsChanged n.graph m.graph key → (IsOfFailedPair n.graph x key → ⊥)
      → IsIdle n.graph m.graph post key
  pub segments : (w : ℕ) → w < node_count n.graph → IsOnRepairWay n case x w → HasSameSegments n m w
  pub steps : (u v : ℕ) → u < node_count n.graph → v < node_count n.graph → IsOnRepairWay n case x u
      → IsOnRepairWay n case x v → u ≢ source_of n.graph case
      → IsKeptTree n.graph m.graph u
      ⊎ (IsSameFar n.graph m.graph u (pivot_of n.graph case) × IsSameFar n.graph m.graph (pivot_of n.graph case) v)

-- a case that stays is steady
abbrev pub KeptCasesAreSteady : Type 0
KeptCasesAreSteady = (n m : Net) → IsNet n → IsNet m → (case : Case) → IsKeptCase n m case → IsSteadyCase n m case

-- the distances after the failure stay
abbrev pub SteadyRowsStay : Type 0
SteadyRowsStay =
    (n m : Net) → IsNet n → IsNet m → (case : Case) → (c : IsSteadyCase n m case) → (x y : List Bool)
    → IsFailedSet n.graph case x → IsFailedSet m.graph (case_with case c.link) y → (cells : List ℕ)
    → IsRow n.graph x (source_of n.graph case) cells → IsRow m.graph y (source_of m.graph (case_with case c.link)) cells

-- the same nodes stand on repair ways
abbrev pub SteadyWaysStay : Type 0
SteadyWaysStay =
    (n m : Net) → IsNet n → IsNet m → (case : Case) → (c : IsSteadyCase n m case) → (x y : List Bool)
    → IsFailedSet n.graph case x → IsFailedSet m.graph (case_with case c.link) y → (w : ℕ)
    → IsOnRepairWay n case x w ↔ IsOnRepairWay m (case_with case c.link) y w

-- what is listed in the new net is what is listed in the old one, links matched by key
abbrev pub SteadyListsStay : Type 0
SteadyListsStay =
    (n m : Net) → IsNet n → IsNet m → (case : Case) → (c : IsSteadyCase n m case) → (d : ℕ) → d < node_count n.graph
    → IsAffected n case d → (a b : Answer) → IsCaseListed n case d a → IsCaseListed m (case_with case c.link) d b
    → IsSameAnswer n.graph m.graph a b
