-- Laws of what stays.
use Rattle.std.specs.Prelude.{◌≡◌, ◌↔◌, ℕ, ◌<◌, List, [], Bool}
use Rattle.sr_model.specs.declared.case.Case.{Case}
use Rattle.sr_model.specs.declared.link.LinkNo.{LinkNo}
use Rattle.sr_model.specs.declared.name.LinkKey.{LinkKey}
use Rattle.sr_model.specs.declared.repair.Answer.{Answer}
use Rattle.sr_model.specs.Graph.{Graph, node_count, IsGraph, IsNamed}
use Rattle.sr_model.specs.Walk.{IsRow, IsNextHop}
use Rattle.sr_model.specs.Case.{IsFailedSet, IsAffected, IsOnRepairWay, source_of}
use Rattle.sr_model.specs.Label.{Net, adj_at}
use Rattle.sr_model.specs.Rule.{IsNet}
use Rattle.sr_model.specs.Repair.{IsCaseAnswer}
use Rattle.sr_model.specs.Stay.{HaveSameNodes, HaveSameName, HaveSamePairs, IsChanged, IsKeptTree, IsKeptCase, case_with, IsSameAnswer}

-- where a tree stays, the row of distances is that of the new graph
abbrev pub RowsStay : Type 0
RowsStay =
    (g h : Graph) → IsGraph g → IsNamed g → IsGraph h → IsNamed h → (u : ℕ) → u < node_count g → IsKeptTree g h u
    → (cells : List ℕ) → IsRow g [] u cells → IsRow h [] u cells

-- and so are its next hops, links matched by key
abbrev pub NextHopsStay : Type 0
NextHopsStay =
    (g h : Graph) → IsGraph g → IsNamed g → IsGraph h → IsNamed h → (u w l k : ℕ) → u < node_count g
    → w < node_count g → IsKeptTree g h u → HaveSameName g h l k
    → IsNextHop g [] u w l ↔ IsNextHop h [] u w k

-- each of which is a link of the new graph
abbrev pub NextHopsAreThere : Type 0
NextHopsAreThere =
    (g h : Graph) → IsGraph g → IsNamed g → IsGraph h → IsNamed h → (u w l : ℕ) → u < node_count g → w < node_count g
    → IsKeptTree g h u → IsNextHop g [] u w l
    → (k : ℕ) × HaveSameName g h l k

-- and each next hop of the new graph is a link of the old one
abbrev pub NextHopsAreOld : Type 0
NextHopsAreOld =
    (g h : Graph) → IsGraph g → IsNamed g → IsGraph h → IsNamed h → (u w k : ℕ) → u < node_count g → w < node_count g
    → IsKeptTree g h u → IsNextHop h [] u w k
    → (l : ℕ) × HaveSameName g h l k

-- where a case stays, the row after the failure is that of the new net
abbrev pub PostRowsStay : Type 0
PostRowsStay =
    (n m : Net) → IsNet n → IsNet m → (case : Case) → (c : IsKeptCase n m case) → (x y : List Bool)
    → IsFailedSet n.graph case x → IsFailedSet m.graph (case_with case c.link) y
    → (cells : List ℕ) → IsRow n.graph x (source_of n.graph case) cells
    → IsRow m.graph y (source_of m.graph (case_with case c.link)) cells

-- the same destinations are affected
abbrev pub AffectedStay : Type 0
AffectedStay =
    (n m : Net) → IsNet n → IsNet m → (case : Case) → (c : IsKeptCase n m case) → (d : ℕ) → d < node_count n.graph
    → IsAffected n case d ↔ IsAffected m (case_with case c.link) d

-- the same nodes stand on the shortest walks after the failure to affected destinations
abbrev pub RepairWaysStay : Type 0
RepairWaysStay =
    (n m : Net) → IsNet n → IsNet m → (case : Case) → (c : IsKeptCase n m case) → (x y : List Bool)
    → IsFailedSet n.graph case x → IsFailedSet m.graph (case_with case c.link) y
    → (w : ℕ) → IsOnRepairWay n case x w ↔ IsOnRepairWay m (case_with case c.link) y w

-- and the answers are the same, links matched by key
abbrev pub AnswersStay : Type 0
AnswersStay =
    (n m : Net) → IsNet n → IsNet m → (case : Case) → (c : IsKeptCase n m case) → (d : ℕ) → d < node_count n.graph
    → IsAffected n case d
    → (a b : Answer) → IsCaseAnswer n case d a → IsCaseAnswer m (case_with case c.link) d b
    → IsSameAnswer n.graph m.graph a b

-- each old answer has its like in the new net: the links that it names are there
abbrev pub AnswersAreThere : Type 0
AnswersAreThere =
    (n m : Net) → IsNet n → IsNet m → (case : Case) → (c : IsKeptCase n m case) → (d : ℕ) → d < node_count n.graph
    → IsAffected n case d
    → (a : Answer) → IsCaseAnswer n case d a → (b : Answer) × IsSameAnswer n.graph m.graph a b

-- and that like of the old answer is the new answer
abbrev pub AnswersCarryOver : Type 0
AnswersCarryOver =
    (n m : Net) → IsNet n → IsNet m → (case : Case) → (c : IsKeptCase n m case) → (d : ℕ) → d < node_count n.graph
    → IsAffected n case d
    → (a b : Answer) → IsCaseAnswer n case d a → IsSameAnswer n.graph m.graph a b
    → IsCaseAnswer m (case_with case c.link) d b

-- no key is changed from a graph to itself
abbrev pub NothingChangesInItself : Type 0
NothingChangesInItself = (g : Graph) → IsNamed g → (key : LinkKey) → IsChanged g g key → ⊥

-- where the nodes are the same and no key is changed, each tree stays
abbrev pub UnchangedTreesStay : Type 0
UnchangedTreesStay =
    (g h : Graph) → HaveSameNodes g h → ((key : LinkKey) → IsChanged g h key → ⊥) → (u : ℕ) (cells : List ℕ)
    → IsRow g [] u cells → IsKeptTree g h u

-- the nets have the same nodes, no changed key, the same labels of nodes and, links matched by key, of adjacencies,
-- and the same depth
pub record IsUnchanged (n m : Net) : Type 0 where
  pub nodes : HaveSameNodes n.graph m.graph
  pub links : (key : LinkKey) → IsChanged n.graph m.graph key → ⊥
  pub labels : m.labels ≡ n.labels
  pub adj : (l k : ℕ) → HaveSameName n.graph m.graph l k → adj_at n l ≡ adj_at m k
  pub depth : m.depth ≡ n.depth

-- each net is unchanged from itself
abbrev pub NetsAreUnchanged : Type 0
NetsAreUnchanged = (n : Net) → IsNet n → IsUnchanged n n

-- from a net to one that is unchanged from it each case stays whose failed links are of the same pairs, where there
-- is a row from each node of the old net
abbrev pub UnchangedCasesStay : Type 0
UnchangedCasesStay =
    (n m : Net) → IsNet n → IsUnchanged n m
    → ((u : ℕ) → u < node_count n.graph → (cells : List ℕ) × IsRow n.graph [] u cells)
    → (case : Case) (link : LinkNo) → HaveSameName n.graph m.graph case.link.0 link.0
    → (x y : List Bool) → IsFailedSet n.graph case x → IsFailedSet m.graph (case_with case link) y
    → HaveSamePairs n.graph x m.graph y
    → (post : List ℕ) → IsRow n.graph x (source_of n.graph case) post → IsKeptCase n m case
