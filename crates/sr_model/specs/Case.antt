-- What fails in a case, and the destinations and nodes that it concerns.
use Rattle.std.specs.Prelude.{◌≡◌, ◌≢◌, ◌↔◌, ℕ, ◌<◌, ◌⊎◌, Bool, true, List, [], length, Contains, is_some}
use Rattle.sr_model.specs.declared.case.Case.{Case}
use Rattle.sr_model.specs.declared.case.Kind.{Kind}
use Rattle.sr_model.specs.declared.case.Kind.TheVariants.{Link as LinkKind, Node as NodeKind, Risk as RiskKind}
use Rattle.sr_model.specs.declared.name.LinkKey.{LinkKey}
use Rattle.sr_model.specs.Key.{IsSamePair}
use Rattle.sr_model.specs.Label.{Net, labels_at}
use Rattle.sr_model.specs.Walk.{IsNextHop, IsOnWay}
use Rattle.sr_model.specs.Graph.{Graph, link_at, link_count, tail, head, has, groups_at}

-- the name of link l
abbrev pub key_at : Graph → ℕ → LinkKey
key_at g l = (link_at g l).key

-- link l begins or ends at node v
abbrev pub Touches : Graph → ℕ → ℕ → Type 0
Touches g l v = (tail g l ≡ v) ⊎ (head g l ≡ v)

-- some shared-risk group has both links (RFC 5307, 1.4)
abbrev pub ShareGroup : Graph → ℕ → ℕ → Type 0
ShareGroup g k l = (r : ℕ) × Contains (groups_at g k) r × Contains (groups_at g l) r

-- link l fails where link p is protected against a failure of this kind (this project's rule): in a link case, the
-- links of its pair; in a node case, the links that begin or end at its end; in an SRLG case, the links of its pair,
-- and those that begin or end at its beginning and share a group with it
abbrev pub FailsWith : Graph → Kind → ℕ → ℕ → Type 0
FailsWith g LinkKind p l = IsSamePair (key_at g l) (key_at g p)
FailsWith g NodeKind p l = Touches g l (head g p)
FailsWith g RiskKind p l = IsSamePair (key_at g l) (key_at g p) ⊎ (Touches g l (tail g p) × ShareGroup g l p)

-- the case protects a link of the graph
abbrev pub IsCase : Graph → Case → Type 0
IsCase g case = case.link.0 < link_count g

-- the tests, one for each link, tell the links that fail in the case; the graph without them is the graph in whose
-- walks none of them stands
pub record IsFailedSet (g : Graph) (case : Case) (x : List Bool) : Type 0 where
  pub long : length x ≡ link_count g
  pub each : (l : ℕ) → l < link_count g → (has x l ≡ true) ↔ FailsWith g case.kind case.link.0 l

-- the node at which the protected link begins: the repair is made there
abbrev pub source_of : Graph → Case → ℕ
source_of g case = tail g case.link.0

-- the node at which the protected link ends
abbrev pub end_of : Graph → Case → ℕ
end_of g case = head g case.link.0

-- d isn't the source, nor the end that fails as a whole
pub record IsOutside (g : Graph) (case : Case) (d : ℕ) : Type 0 where
  pub source : d ≢ source_of g case
  pub failed : case.kind ≡ NodeKind → d ≢ end_of g case

-- d is affected: it has a node index, isn't the source nor a node that fails, and the protected link is a next hop of
-- the source towards it (this project's rule)
pub record IsAffected (n : Net) (case : Case) (d : ℕ) : Type 0 where
  pub index : is_some (labels_at n d).index ≡ true
  pub outside : IsOutside n.graph case d
  pub hop : IsNextHop n.graph [] (source_of n.graph case) d case.link.0

-- v stands on a shortest walk without the failed links x from the source to an affected destination
abbrev pub IsOnRepairWay : Net → Case → List Bool → ℕ → Type 0
IsOnRepairWay n case x v = (d : ℕ) × IsAffected n case d × IsOnWay n.graph x (source_of n.graph case) d v
