-- Laws of walks and distances.
use Rattle.std.specs.Prelude.{◌≡◌, ℕ, ◌+◌, ◌-◌, ◌*◌, ◌<◌, ◌≤◌, List, ◌∷◌, ◌++◌, Bool, true}
use Rattle.sr_model.specs.declared.link.TheConstants.{MOST_NODES, MOST_METRIC}
use Rattle.sr_model.specs.Graph.{Graph, node_count, carries, IsGraph}
use Rattle.sr_model.specs.Walk.{IsDistance, IsShortest, IsRow, AreDistinct, stops}

-- between two nodes there is at most one distance
abbrev pub DistancesAreUnique : Type 0
DistancesAreUnique = (g : Graph) (x : List Bool) (u v c d : ℕ) → IsDistance g x u v c → IsDistance g x u v d → c ≡ d

-- and from a node at most one row of distances
abbrev pub RowsAreUnique : Type 0
RowsAreUnique = (g : Graph) (x : List Bool) (u : ℕ) (a b : List ℕ) → IsRow g x u a → IsRow g x u b → a ≡ b

-- going by w is no cheaper, where w is u or isn't overloaded
abbrev pub DistancesMeetTriangles : Type 0
DistancesMeetTriangles =
    (g : Graph) (x : List Bool) (u w v c d e : ℕ) → carries g u w ≡ true → IsDistance g x u w c → IsDistance g x w v d
    → IsDistance g x u v e → e ≤ c + d

-- a distance is at most that of one link less than there can be nodes, each of the greatest metric
abbrev pub DistancesAreSmall : Type 0
DistancesAreSmall =
    (g : Graph) → IsGraph g → (x : List Bool) (u v c : ℕ) → u < node_count g → IsDistance g x u v c
    → c ≤ (MOST_NODES - 1) * MOST_METRIC

-- both parts of a shortest walk are shortest
abbrev pub PartsAreShortest : Type 0
PartsAreShortest =
    (g : Graph) (x : List Bool) (u : ℕ) (p q : List ℕ) (v : ℕ) → IsShortest g x u (p ++ q) v
    → (w : ℕ) × IsShortest g x u p w × IsShortest g x w q v

-- a shortest walk is loop-free: its nodes are distinct
abbrev pub ShortestWalksAreLoopFree : Type 0
ShortestWalksAreLoopFree =
    (g : Graph) → IsGraph g → (x : List Bool) (u : ℕ) (p : List ℕ) (v : ℕ) → IsShortest g x u p v
    → AreDistinct (u ∷ stops g p)
