-- Laws that tell shortest walks by sums of distances.
use Rattle.std.specs.Prelude.{◌≡◌, ◌≢◌, ℕ, ◌+◌, ◌<◌, ◌↔◌, List, [], Bool, true, false}
use Rattle.sr_model.specs.Graph.{Graph, link_count, tail, head, metric, has, carries}
use Rattle.sr_model.specs.Walk.{IsDistance, OnShortest, IsNextHop}
use Rattle.sr_model.specs.Space.{InP}

-- a link stands on a shortest walk from u to v exactly where its beginning is u or isn't overloaded, its end is v or
-- isn't overloaded, and the three costs add up
abbrev pub ShortestBySums : Type 0
ShortestBySums =
    (g : Graph) (x : List Bool) (u v l c d e : ℕ) → l < link_count g → has x l ≡ false → IsDistance g x u (tail g l) c
    → IsDistance g x (head g l) v d → IsDistance g x u v e
    → OnShortest g x u v l
    ↔ ((carries g u (tail g l) ≡ true) × (carries g v (head g l) ≡ true) × (c + metric g l + d ≡ e))

-- a link that begins at u is a next hop towards v exactly where its end is v or isn't overloaded, and the two costs
-- add up
abbrev pub NextHopsBySums : Type 0
NextHopsBySums =
    (g : Graph) (x : List Bool) (u v l d e : ℕ) → l < link_count g → has x l ≡ false → tail g l ≡ u
    → IsDistance g x (head g l) v d → IsDistance g x u v e
    → IsNextHop g x u v l ↔ ((carries g v (head g l) ≡ true) × (metric g l + d ≡ e))

-- where u reaches v: v is in P of u, and u in Q of v, exactly where the sum of no failed link is the distance
abbrev pub SpacesBySums : Type 0
SpacesBySums =
    (g : Graph) (x : List Bool) (u v e : ℕ) → IsDistance g [] u v e
    → InP g x u v ↔ ((l c d : ℕ) → l < link_count g → has x l ≡ true
    → carries g u (tail g l) ≡ true → carries g v (head g l) ≡ true
    → IsDistance g [] u (tail g l) c → IsDistance g [] (head g l) v d → c + metric g l + d ≢ e)
