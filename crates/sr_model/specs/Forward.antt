-- Forwarding: one step of a packet, runs of steps, and delivery. Stacks are written from the top down.
use Rattle.std.specs.Prelude.{◌≡◌, ◌≢◌, ℕ, ◌+◌, ◌*◌, ◌<◌, ◌≤◌, ◌%◌, Bool, true, false, ◌⊎◌, List, [], ◌∷◌, ◌++◌, length, Some, slice_get}
use Rattle.sr_model.specs.declared.entry.Move.{Move}
use Rattle.sr_model.specs.declared.entry.Move.TheVariants.{Popped, Crossed}
use Rattle.sr_model.specs.declared.repair.Segment.{Segment}
use Rattle.sr_model.specs.declared.repair.Segment.TheVariants.{Node, Adj}
use Rattle.sr_model.specs.Graph.{link_count, node_count, tail, head, has}
use Rattle.sr_model.specs.Walk.{IsShortest, IsNextHop}
use Rattle.sr_model.specs.Label.{Net, labels_at, adj_at, IsLabel}

-- crossing a link into m under the node segment of b leaves this stack: nothing where m is b and the P flag is clear;
-- explicit null where m is b and P and E are set; else b's label at m (RFC 8660, 2.10; RFC 8667, 2.1.1)
abbrev pub Crossing : Net → ℕ → ℕ → List ℕ → List ℕ → Type 0
Crossing n b m rest after =
    ((m ≡ b) × ((labels_at n b).keep ≡ false) × (after ≡ rest))
    ⊎ (((m ≡ b) × ((labels_at n b).keep ≡ true) × ((labels_at n b).explicit ≡ true) × (after ≡ 0 ∷ rest))
    ⊎ ((label : ℕ) × IsLabel n m b label
    × ((m ≢ b) ⊎ (((labels_at n b).keep ≡ true) × ((labels_at n b).explicit ≡ false))) × (after ≡ label ∷ rest)))

-- one step at node u with this label on top, some links closed: explicit null and the node's own label are popped; an
-- adjacency label of the node is popped and its link crossed; the label of another node takes any next hop towards
-- it; a closed link isn't crossed, and there is no other step (RFC 8660, 2.10 and 2.11; explicit null: RFC 3032, 2.1
-- and RFC 4182; that own labels are popped whatever the P flag is this project's rule)
abbrev pub Step : Net → List Bool → ℕ → List ℕ → Move → ℕ → List ℕ → Type 0
Step n closed u [] move v after = ⊥
Step n closed u (label ∷ rest) Popped v after = ((label ≡ 0) ⊎ IsLabel n u u label) × (v ≡ u) × (after ≡ rest)
Step n closed u (label ∷ rest) (Crossed l) v after =
    (l.0 < link_count n.graph) × (has closed l.0 ≡ false) × (tail n.graph l.0 ≡ u) × (v ≡ head n.graph l.0)
    × (((adj_at n l.0 ≡ Some label) × (after ≡ rest))
    ⊎ ((b : ℕ) × IsLabel n u b label × (b ≢ u) × IsNextHop n.graph [] u b l.0
    × Crossing n b (head n.graph l.0) rest after))

-- a run of steps, none of which begins with the stack `rest`
abbrev pub Run : Net → List Bool → List ℕ → ℕ → List ℕ → List Move → ℕ → List ℕ → Type 0
Run n closed rest u stack [] v after = (v ≡ u) × (after ≡ stack)
Run n closed rest u stack (m ∷ ms) v after =
    (w : ℕ) × (mid : List ℕ) × (stack ≢ rest) × Step n closed u stack m w mid × Run n closed rest w mid ms v after

-- the links that the moves cross
abbrev pub crossed : List Move → List ℕ
crossed [] = []
crossed (Popped ∷ ms) = crossed ms
crossed (Crossed l ∷ ms) = l.0 ∷ crossed ms

-- the run ends at d with exactly the rest, or has another stack and a further step; the first link and those that it
-- crossed are the beginning of a shortest walk without the failed links, and it isn't too long
pub record RunsWell (n : Net) (x : List Bool) (s d first : ℕ) (labels rest : List ℕ) (ms : List Move) (v : ℕ)
    (after : List ℕ) : Type 0 where
  pub ends : ((v ≡ d) × (after ≡ rest))
      ⊎ ((after ≢ rest) × (m : Move) × (w : ℕ) × (next : List ℕ) × Step n [] v after m w next)
  pub along : (more : List ℕ) × IsShortest n.graph x s (first ∷ crossed ms ++ more) d
  pub few : length ms ≤ node_count n.graph * (length labels + 2)

-- the labels on the first link deliver: over every rest, every run from the end of that link, no link closed, runs
-- well
abbrev pub Delivers : Net → List Bool → ℕ → ℕ → ℕ → List ℕ → Type 0
Delivers n x s d first labels =
    (rest : List ℕ) (ms : List Move) (v : ℕ) (after : List ℕ)
    → Run n [] rest (head n.graph first) (labels ++ rest) ms v after → RunsWell n x s d first labels rest ms v after

-- the labels of the segments, each at the waypoint where it becomes active: a node's label in that waypoint's ranges,
-- or the adjacency label (RFC 8660, 2.4)
abbrev pub IsLabels : Net → ℕ → List Segment → List ℕ → Type 0
IsLabels n u [] ts = ts ≡ []
IsLabels n u (s ∷ ss) [] = ⊥
IsLabels n u (Node v ∷ ss) (t ∷ ts) = IsLabel n u v.0 t × IsLabels n v.0 ss ts
IsLabels n u (Adj l ∷ ss) (t ∷ ts) = (adj_at n l.0 ≡ Some t) × IsLabels n (head n.graph l.0) ss ts

-- the stack of a list towards d: the labels of its segments and last that of d; with no segment, what crossing the
-- first link under d's node segment leaves
abbrev pub IsStack : Net → ℕ → ℕ → List Segment → List ℕ → Type 0
IsStack n d first [] labels = Crossing n d (head n.graph first) [] labels
IsStack n d first (s ∷ ss) labels = IsLabels n (head n.graph first) (s ∷ ss ++ Node (record { 0 = d }) ∷ []) labels

-- the next hops of u towards b that aren't closed, ascending
pub record AreLawful (n : Net) (closed : List Bool) (u b : ℕ) (ls : List ℕ) : Type 0 where
  pub each : (i l : ℕ) → slice_get ls i ≡ Some l → IsNextHop n.graph [] u b l × (has closed l ≡ false)
  pub ascending : (i j k l : ℕ) → i < j → slice_get ls i ≡ Some k → slice_get ls j ≡ Some l → k < l
  pub all : (l : ℕ) → IsNextHop n.graph [] u b l → has closed l ≡ false → (i : ℕ) × (slice_get ls i ≡ Some l)

-- of c lawful crossings under a node label, the move takes number choice mod c, counted from 0
abbrev pub IsChosen : Net → List Bool → ℕ → ℕ → List ℕ → Move → Type 0
IsChosen n closed choice u stack Popped = Unit {0}
IsChosen n closed choice u [] (Crossed l) = ⊥
IsChosen n closed choice u (label ∷ rest) (Crossed l) =
    (b : ℕ) → IsLabel n u b label → b ≢ u → (ls : List ℕ) × AreLawful n closed u b ls × (0 < length ls)
    × (slice_get ls (choice % length ls) ≡ Some l.0)

-- the step that a choice number takes
abbrev pub StepBy : Net → List Bool → ℕ → ℕ → List ℕ → Move → ℕ → List ℕ → Type 0
StepBy n closed choice u stack m v after = Step n closed u stack m v after × IsChosen n closed choice u stack m

-- a run of such steps
abbrev pub RunBy : Net → List Bool → ℕ → ℕ → List ℕ → List Move → ℕ → List ℕ → Type 0
RunBy n closed choice u stack [] v after = (v ≡ u) × (after ≡ stack)
RunBy n closed choice u stack (m ∷ ms) v after =
    (w : ℕ) × (mid : List ℕ) × StepBy n closed choice u stack m w mid × RunBy n closed choice w mid ms v after

-- the walk of a packet by a choice number: it crosses these links and ends at v with the stack `after`, where no step
-- is lawful, as at an empty stack, or after the last turn
pub record IsWalked (n : Net) (closed : List Bool) (choice u : ℕ) (stack : List ℕ) (turns : ℕ) (links : List ℕ)
    (v : ℕ) (after : List ℕ) : Type 0 where
  pub moves : List Move
  pub run : RunBy n closed choice u stack moves v after
  pub crosses : crossed moves ≡ links
  pub within : length moves ≤ turns
  pub ends : ((m : Move) (w : ℕ) (next : List ℕ) → Step n closed v after m w next → ⊥) ⊎ (length moves ≡ turns)
