-- Laws of delivery.
use Rattle.std.specs.Prelude.{◌≡◌, ◌≢◌, ◌⊎◌, ℕ, ◌+◌, ◌*◌, ◌<◌, ◌≤◌, List, [], ◌∷◌, ◌++◌, Bool, true, length, is_some}
use Rattle.sr_model.specs.declared.case.Case.{Case}
use Rattle.sr_model.specs.declared.case.Kind.TheVariants.{Link as LinkKind}
use Rattle.sr_model.specs.declared.entry.Move.{Move}
use Rattle.sr_model.specs.Graph.{Graph, node_count, head, IsGraph, IsNamed}
use Rattle.sr_model.specs.Walk.{IsDistance, IsShortest, IsNextHop, AreDistinct, stops}
use Rattle.sr_model.specs.Space.{InP}
use Rattle.sr_model.specs.Case.{IsCase, IsFailedSet, source_of, end_of}
use Rattle.sr_model.specs.Label.{Net, labels_at, IsLabel}
use Rattle.sr_model.specs.Rule.{IsNet}
use Rattle.sr_model.specs.Repair.{Path, IsSound}
use Rattle.sr_model.specs.Forward.{Step, IsStack, Run, Delivers, crossed, IsWalked}

-- every sound list delivers, whichever equal-cost link each node takes
abbrev pub SoundListsDeliver : Type 0
SoundListsDeliver =
    (n : Net) → IsNet n → (x : List Bool) (s d : ℕ) (a : Path) (labels : List ℕ) → s < node_count n.graph
    → d < node_count n.graph → IsSound n x s d a → IsStack n d a.first a.segments labels
    → Delivers n x s d a.first labels

-- and the way of the packet is loop-free: its nodes are distinct
abbrev pub SoundListsAreLoopFree : Type 0
SoundListsAreLoopFree =
    (n : Net) → IsNet n → (x : List Bool) (s d : ℕ) (a : Path) (labels : List ℕ) → s < node_count n.graph
    → d < node_count n.graph → IsSound n x s d a → IsStack n d a.first a.segments labels
    → (rest : List ℕ) (ms : List Move) (v : ℕ) (after : List ℕ)
    → Run n [] rest (head n.graph a.first) (labels ++ rest) ms v after
    → AreDistinct (s ∷ stops n.graph (a.first ∷ crossed ms))

-- a list has at most one stack
abbrev pub StacksAreUnique : Type 0
StacksAreUnique =
    (n : Net) (d : ℕ) (a : Path) (one two : List ℕ) → IsStack n d a.first a.segments one
    → IsStack n d a.first a.segments two → one ≡ two

-- and a sound list to a destination with an index has one
abbrev pub StacksAreThere : Type 0
StacksAreThere =
    (n : Net) → IsNet n → (x : List Bool) (s d : ℕ) (a : Path) → d < node_count n.graph
    → is_some (labels_at n d).index ≡ true → IsSound n x s d a
    → (labels : List ℕ) × IsStack n d a.first a.segments labels

-- what holds of each run of a packet that starts at u under d's label: it ends at d with exactly the rest or has a
-- further step, the links that it crossed are the beginning of a shortest walk without x, and it isn't too long
pub record PacketRunsWell (n : Net) (x : List Bool) (u d : ℕ) (rest : List ℕ) (ms : List Move) (v : ℕ)
    (after : List ℕ) : Type 0 where
  pub ends : ((v ≡ d) × (after ≡ rest))
      ⊎ ((after ≢ rest) × (m : Move) × (w : ℕ) × (next : List ℕ) × Step n [] v after m w next)
  pub along : (more : List ℕ) × IsShortest n.graph x u (crossed ms ++ more) d
  pub few : length ms ≤ node_count n.graph * (1 + 2)

-- a packet under d's label at u, also where u is overloaded, follows a shortest walk, and where d is in P of u one
-- without the failed links
abbrev pub PacketsDeliver : Type 0
PacketsDeliver =
    (n : Net) → IsNet n → (x : List Bool) (u d label c : ℕ) → u < node_count n.graph → InP n.graph x u d
    → IsDistance n.graph [] u d c → IsLabel n u d label
    → (rest : List ℕ) (ms : List Move) (v : ℕ) (after : List ℕ) → Run n [] rest u (label ∷ rest) ms v after
    → PacketRunsWell n x u d rest ms v after

-- where the protected link is no next hop of the source towards its end, no shortest walk to that end holds a link of
-- its pair: the end is in P of the source
abbrev pub SteeredPacketsAvoid : Type 0
SteeredPacketsAvoid =
    (g : Graph) → IsGraph g → IsNamed g → (case : Case) → IsCase g case → case.kind ≡ LinkKind → (x : List Bool)
    → IsFailedSet g case x → (c : ℕ) → IsDistance g [] (source_of g case) (end_of g case) c
    → (IsNextHop g [] (source_of g case) (end_of g case) case.link.0 → ⊥) → InP g x (source_of g case) (end_of g case)

-- a walk by a choice number ends at d with an empty stack, and with the links before it, it is a shortest walk
-- without x
pub record Arrives (n : Net) (x : List Bool) (s d : ℕ) (before links : List ℕ) (v : ℕ) (after : List ℕ) : Type 0 where
  pub there : v ≡ d
  pub spent : after ≡ []
  pub shortest : IsShortest n.graph x s (before ++ links) d

-- by each choice number the stack of a sound list arrives, the failed links being closed, within nodes times (labels
-- + 2) turns
abbrev pub SoundListsArrive : Type 0
SoundListsArrive =
    (n : Net) → IsNet n → (x : List Bool) (s d : ℕ) (a : Path) (labels : List ℕ) → s < node_count n.graph
    → d < node_count n.graph → IsSound n x s d a → IsStack n d a.first a.segments labels
    → (choice : ℕ) (links : List ℕ) (v : ℕ) (after : List ℕ)
    → IsWalked n x choice (head n.graph a.first) labels (node_count n.graph * (length labels + 2)) links v after
    → Arrives n x s d (a.first ∷ []) links v after

-- and so does a packet under d's label, no link being closed
abbrev pub PacketsArrive : Type 0
PacketsArrive =
    (n : Net) → IsNet n → (u d label c : ℕ) → u < node_count n.graph → IsDistance n.graph [] u d c
    → IsLabel n u d label
    → (choice : ℕ) (links : List ℕ) (v : ℕ) (after : List ℕ)
    → IsWalked n [] choice u (label ∷ []) (node_count n.graph * (1 + 2)) links v after
    → Arrives n [] u d [] links v after

-- a choice number has at most one walk
abbrev pub WalksByChoiceAreUnique : Type 0
WalksByChoiceAreUnique =
    (n : Net) → IsNet n
    → (closed : List Bool) (choice u : ℕ) (stack : List ℕ) (turns : ℕ) (links more : List ℕ) (v w : ℕ)
    → (after next : List ℕ)
    → IsWalked n closed choice u stack turns links v after → IsWalked n closed choice u stack turns more w next
    → (links ≡ more) × (v ≡ w) × (after ≡ next)
