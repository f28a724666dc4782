-- What stays from an old net to a new one. Links of the two nets are matched by their keys (this project's rule).
use Rattle.std.specs.Prelude.{◌≡◌, ◌≢◌, ◌⊎◌, ℕ, ◌+◌, ◌<◌, ◌≤◌, Bool, true, List, [], ◌∷◌, Some, None, is_some, slice_index}
use Rattle.sr_model.specs.declared.case.Case.{Case}
use Rattle.sr_model.specs.declared.link.LinkNo.{LinkNo}
use Rattle.sr_model.specs.declared.link.TheConstants.{FAR}
use Rattle.sr_model.specs.declared.name.LinkKey.{LinkKey}
use Rattle.sr_model.specs.declared.repair.Segment.{Segment}
use Rattle.sr_model.specs.declared.repair.Segment.TheVariants.{Node, Adj}
use Rattle.sr_model.specs.declared.repair.RepairList.{RepairList}
use Rattle.sr_model.specs.declared.repair.Answer.{Answer}
use Rattle.sr_model.specs.declared.repair.Answer.TheVariants.{Least, NoPath, NoList, TooDeep}
use Rattle.sr_model.specs.Key.{IsSamePair}
use Rattle.sr_model.specs.Graph.{Graph, node_count, link_count, tail, metric, has, is_overloaded, system_at}
use Rattle.sr_model.specs.Walk.{IsNextHop, IsRow}
use Rattle.sr_model.specs.Case.{key_at, IsCase, IsFailedSet, IsOutside, source_of, IsOnRepairWay}
use Rattle.sr_model.specs.Label.{Net, labels_at, adj_at}

-- the same system ids, and the same of them overloaded; where the nodes of two nets differ, nothing stays
pub record HaveSameNodes (g h : Graph) : Type 0 where
  pub systems : h.systems ≡ g.systems
  pub overloaded : (v : ℕ) → v < node_count g → is_overloaded g v ≡ is_overloaded h v

-- the key is that of a link of the graph
abbrev pub HasLink : Graph → LinkKey → Type 0
HasLink g key = (l : ℕ) × (l < link_count g) × (key_at g l ≡ key)

-- a link of this key has this metric in the graph
abbrev pub HasMetric : Graph → LinkKey → ℕ → Type 0
HasMetric g key c = (l : ℕ) × (l < link_count g) × (key_at g l ≡ key) × (metric g l ≡ c)

-- a changed link: a key that is a link of one net alone, or of both with different metrics
abbrev pub IsChanged : Graph → Graph → LinkKey → Type 0
IsChanged g h key =
    (HasLink g key × (HasLink h key → ⊥))
    ⊎ ((HasLink h key × (HasLink g key → ⊥))
    ⊎ ((b : ℕ) × (c : ℕ) × HasMetric g key b × HasMetric h key c × (b ≢ c)))

-- a changed link is idle for the distances in a row where there is no walk to its beginning, or where there is one to
-- its end that is cheaper than by the link, with each metric that it has in the old or the new net
pub record IsIdle (g h : Graph) (cells : List ℕ) (key : LinkKey) : Type 0 where
  pub from : ℕ
  pub to : ℕ
  pub begins : (from < node_count g) × (system_at g from ≡ key.from)
  pub ends : (to < node_count g) × (system_at g to ≡ key.to)
  pub idle : (FAR ≤ slice_index cells from)
      ⊎ ((slice_index cells to < FAR)
      × ((c : ℕ) → HasMetric g key c ⊎ HasMetric h key c → slice_index cells to < slice_index cells from + c))

-- the tree of u stays: the nodes are the same, and each changed link is idle for the old distances from u
pub record IsKeptTree (g h : Graph) (u : ℕ) : Type 0 where
  pub nodes : HaveSameNodes g h
  pub cells : List ℕ
  pub row : IsRow g [] u cells
  pub idle : (key : LinkKey) → IsChanged g h key → IsIdle g h cells key

-- link l of g and link k of h have one key
abbrev pub HaveSameName : Graph → Graph → ℕ → ℕ → Type 0
HaveSameName g h l k = (l < link_count g) × (k < link_count h) × (key_at h k ≡ key_at g l)

-- the failed links are of the same pairs
pub record HaveSamePairs (g : Graph) (x : List Bool) (h : Graph) (y : List Bool) : Type 0 where
  pub there : (l : ℕ) → l < link_count g → has x l ≡ true
      → (k : ℕ) × (k < link_count h) × (has y k ≡ true) × IsSamePair (key_at g l) (key_at h k)
  pub back : (k : ℕ) → k < link_count h → has y k ≡ true
      → (l : ℕ) × (l < link_count g) × (has x l ≡ true) × IsSamePair (key_at h k) (key_at g l)

-- the key is of the pair of a failed link
abbrev pub IsOfFailedPair : Graph → List Bool → LinkKey → Type 0
IsOfFailedPair g x key = (l : ℕ) × (l < link_count g) × (has x l ≡ true) × IsSamePair (key_at g l) key

-- node s announces the same maximum SID depth (MSD) in both nets, or none in either and the nets have the same depth
abbrev pub HasSameDepth : Net → Net → ℕ → Type 0
HasSameDepth n m s =
    ((k : ℕ) × ((labels_at n s).imposes ≡ Some k) × ((labels_at m s).imposes ≡ Some k))
    ⊎ (((labels_at n s).imposes ≡ None) × ((labels_at m s).imposes ≡ None) × (m.depth ≡ n.depth))

-- a node whose tree stays, with the same index, the same flags, and the same adjacency label on each of its links
-- that is in both nets
pub record IsKeptNode (n m : Net) (w : ℕ) : Type 0 where
  pub tree : IsKeptTree n.graph m.graph w
  pub index : (labels_at n w).index ≡ (labels_at m w).index
  pub keep : (labels_at n w).keep ≡ (labels_at m w).keep
  pub explicit : (labels_at n w).explicit ≡ (labels_at m w).explicit
  pub adj : (l k : ℕ) → HaveSameName n.graph m.graph l k → tail n.graph l ≡ w → adj_at n l ≡ adj_at m k

-- the same case in the other net, where the protected link has this number
abbrev pub case_with : Case → LinkNo → Case
case_with case link = record { kind = case.kind; link = link }

-- a case of the old net stays: the protected key is a link of both nets; the failed links are of the same pairs; the
-- source announces the same maximum SID depth, or none and the nets have the same depth; the tree of the source
-- stays; each changed link that isn't of a failed pair is idle for the old distances from the source without the
-- failed links; each node that isn't the source nor fails, and towards which the protected link is a next hop of the
-- source, has an index in both nets or in neither; and each node on a shortest walk without the failed links from the
-- source to an affected destination is kept
pub record IsKeptCase (n m : Net) (case : Case) : Type 0 where
  pub within : IsCase n.graph case
  pub nodes : HaveSameNodes n.graph m.graph
  pub link : LinkNo
  pub protected : HaveSameName n.graph m.graph case.link.0 link.0
  pub x : List Bool
  pub y : List Bool
  pub failed : IsFailedSet n.graph case x
  pub failed' : IsFailedSet m.graph (case_with case link) y
  pub pairs : HaveSamePairs n.graph x m.graph y
  pub depth : HasSameDepth n m (source_of n.graph case)
  pub tree : IsKeptTree n.graph m.graph (source_of n.graph case)
  pub post : List ℕ
  pub row : IsRow n.graph x (source_of n.graph case) post
  pub idle : (key : LinkKey) → IsChanged n.graph m.graph key → (IsOfFailedPair n.graph x key → ⊥)
      → IsIdle n.graph m.graph post key
  pub index : (d : ℕ) → d < node_count n.graph → IsOutside n.graph case d
      → IsNextHop n.graph [] (source_of n.graph case) d case.link.0
      → is_some (labels_at n d).index ≡ is_some (labels_at m d).index
  pub way : (w : ℕ) → w < node_count n.graph → IsOnRepairWay n case x w → IsKeptNode n m w

-- the same segments, links matched by key
abbrev pub AreSegmentsSame : Graph → Graph → List Segment → List Segment → Type 0
AreSegmentsSame g h [] ts = ts ≡ []
AreSegmentsSame g h (Node v ∷ ss) [] = ⊥
AreSegmentsSame g h (Node v ∷ ss) (Node w ∷ ts) = (v ≡ w) × AreSegmentsSame g h ss ts
AreSegmentsSame g h (Node v ∷ ss) (Adj k ∷ ts) = ⊥
AreSegmentsSame g h (Adj l ∷ ss) [] = ⊥
AreSegmentsSame g h (Adj l ∷ ss) (Node w ∷ ts) = ⊥
AreSegmentsSame g h (Adj l ∷ ss) (Adj k ∷ ts) = HaveSameName g h l.0 k.0 × AreSegmentsSame g h ss ts

-- the same repair, links matched by key
pub record IsSameList (g h : Graph) (a b : RepairList) : Type 0 where
  pub first : HaveSameName g h a.first.0 b.first.0
  pub segments : AreSegmentsSame g h a.segments b.segments
  pub cost : a.cost ≡ b.cost

-- the same answer, links matched by key
abbrev pub IsSameAnswer : Graph → Graph → Answer → Answer → Type 0
IsSameAnswer g h NoPath b = b ≡ NoPath
IsSameAnswer g h NoList b = b ≡ NoList
IsSameAnswer g h (TooDeep k) b = b ≡ TooDeep k
IsSameAnswer g h (Least a) b = (list : RepairList) × (b ≡ Least list) × IsSameList g h a list
