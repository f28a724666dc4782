-- Walks, their cost, and distances as relations.
use Rattle.std.specs.Prelude.{◌≡◌, ◌≢◌, ℕ, ◌+◌, ◌<◌, ◌≤◌, Bool, false, List, [], ◌∷◌, ◌++◌, length, Option, Some, None, slice_index}
use Rattle.sr_model.specs.declared.link.TheConstants.{FAR}
use Rattle.sr_model.specs.Graph.{Graph, node_count, link_count, tail, head, metric, has, is_overloaded}

-- a walk that reaches w may go on by p: it ends there, or w isn't overloaded
abbrev pub Passes : Graph → ℕ → List ℕ → Type 0
Passes g w [] = Unit {0}
Passes g w (l ∷ p) = is_overloaded g w ≡ false

-- p leads from u to v by links outside x, each beginning where the one before ends, at a node that isn't overloaded
abbrev pub IsWalk : Graph → List Bool → ℕ → List ℕ → ℕ → Type 0
IsWalk g x u [] v = u ≡ v
IsWalk g x u (l ∷ p) v =
    (l < link_count g) × (has x l ≡ false) × (tail g l ≡ u) × IsWalk g x (head g l) p v × Passes g (head g l) p

-- the cost of a walk: the sum of the metrics of its links (ISO 10589, 7.2.6)
abbrev pub cost : Graph → List ℕ → ℕ
cost g [] = 0
cost g (l ∷ p) = metric g l + cost g p

-- a walk of cost c leads from u to v, and none costs less
pub record IsDistance (g : Graph) (x : List Bool) (u v c : ℕ) : Type 0 where
  pub reached : (p : List ℕ) × IsWalk g x u p v × (cost g p ≡ c)
  pub least : (p : List ℕ) → IsWalk g x u p v → c ≤ cost g p

-- no walk leads from u to v
abbrev pub NoWalk : Graph → List Bool → ℕ → ℕ → Type 0
NoWalk g x u v = (p : List ℕ) → IsWalk g x u p v → ⊥

-- the distance as an answer
abbrev pub Distance : Graph → List Bool → ℕ → ℕ → Option ℕ → Type 0
Distance g x u v None = NoWalk g x u v
Distance g x u v (Some c) = IsDistance g x u v c

-- p is a shortest walk from u to v: no walk costs less
abbrev pub IsShortest : Graph → List Bool → ℕ → List ℕ → ℕ → Type 0
IsShortest g x u p v = IsWalk g x u p v × ((q : List ℕ) → IsWalk g x u q v → cost g p ≤ cost g q)

-- l begins a shortest walk from u to v
pub record IsNextHop (g : Graph) (x : List Bool) (u v l : ℕ) : Type 0 where
  pub more : List ℕ
  pub shortest : IsShortest g x u (l ∷ more) v

-- l stands on a shortest walk from u to v
pub record OnShortest (g : Graph) (x : List Bool) (u v l : ℕ) : Type 0 where
  pub before : List ℕ
  pub after : List ℕ
  pub shortest : IsShortest g x u (before ++ l ∷ after) v

-- w stands on a shortest walk without x from s to d: the walk reaches w, and goes on from there
pub record IsOnWay (g : Graph) (x : List Bool) (s d w : ℕ) : Type 0 where
  pub before : List ℕ
  pub after : List ℕ
  pub to : IsWalk g x s before w
  pub from : IsWalk g x w after d
  pub shortest : IsShortest g x s (before ++ after) d

-- the cell of a row for v: the distance from u where there is a walk, FAR where there is none
pub record IsCell (g : Graph) (x : List Bool) (u v c : ℕ) : Type 0 where
  pub top : c ≤ FAR
  pub near : c < FAR → IsDistance g x u v c
  pub far : FAR ≤ c → NoWalk g x u v

-- a row of distances from u, one cell for each node
pub record IsRow (g : Graph) (x : List Bool) (u : ℕ) (cells : List ℕ) : Type 0 where
  pub long : length cells ≡ node_count g
  pub each : (v : ℕ) → v < node_count g → IsCell g x u v (slice_index cells v)

-- the nodes at which the links of a walk end
abbrev pub stops : Graph → List ℕ → List ℕ
stops g [] = []
stops g (l ∷ p) = head g l ∷ stops g p

-- no number of the list is k
abbrev pub AllNe : ℕ → List ℕ → Type 0
AllNe k [] = Unit {0}
AllNe k (y ∷ ys) = (y ≢ k) × AllNe k ys

-- no two numbers of the list are the same
abbrev pub AreDistinct : List ℕ → Type 0
AreDistinct [] = Unit {0}
AreDistinct (y ∷ ys) = AllNe y ys × AreDistinct ys
