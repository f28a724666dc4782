-- Rows of distances as the links tell them: what a link offers to a node, and the rows that no link betters.
use Rattle.std.specs.Prelude.{◌≡◌, ◌≢◌, ℕ, ◌+◌, ◌<◌, ◌≤◌, ◌⊎◌, Bool, true, false, List, slice_index}
use Rattle.sr_model.specs.declared.link.TheConstants.{FAR}
use Rattle.sr_model.specs.Graph.{Graph, link_count, node_count, tail, head, metric, has, carries}
use Rattle.sr_model.specs.Walk.{IsRow}
use Rattle.sr_cert.specs.declared.course.Course.{Course}
use Rattle.sr_cert.specs.declared.course.Course.TheVariants as course
use Rattle.sr_cert.specs.Rows.{Heading, From, To, IsRowTo}

-- what the row of a course is of
abbrev pub heading_of : Course → Heading
heading_of (course.From u) = From u.0
heading_of (course.To v) = To v.0

-- the node that a row is of
abbrev pub base : Heading → ℕ
base (From u) = u
base (To v) = v

-- the end of link l on the side of the row's node: its beginning where walks come from that node, its end where they
-- go there
abbrev pub near_end : Graph → Heading → ℕ → ℕ
near_end g (From u) l = tail g l
near_end g (To v) l = head g l

-- the other end of link l
abbrev pub far_end : Graph → Heading → ℕ → ℕ
far_end g (From u) l = head g l
far_end g (To v) l = tail g l

-- a walk from the row's node, or to it, may hold link l: the link is outside x, and such a walk may pass its nearer end
pub record Serves (g : Graph) (x : List Bool) (h : Heading) (l : ℕ) : Type 0 where
  pub within : l < link_count g
  pub outside : has x l ≡ false
  pub carry : carries g (base h) (near_end g h l) ≡ true

-- what link l offers to its farther end: by the cell of its nearer end and its metric
abbrev pub offer_at : Graph → Heading → List ℕ → ℕ → ℕ
offer_at g h cells l = slice_index cells (near_end g h l) + metric g l

-- c is what link l offers where it serves and that is below FAR; else c is no less than FAR
pub record IsOffer (g : Graph) (x : List Bool) (h : Heading) (cells : List ℕ) (l c : ℕ) : Type 0 where
  pub least : Serves g x h l → c ≤ offer_at g h cells l
  pub met : c < FAR → Serves g x h l × (offer_at g h cells l ≡ c)

-- c is the least offer, below FAR, of the links of which the fact holds and that serve; FAR where there is none
pub record IsLeastOffer (g : Graph) (x : List Bool) (h : Heading) (cells : List ℕ)
    (Fact : ℕ → Type 0) (c : ℕ) : Type 0 where
  pub top : c ≤ FAR
  pub least : (l : ℕ) → Fact l → Serves g x h l → c ≤ offer_at g h cells l
  pub met : c < FAR → (l : ℕ) × Fact l × Serves g x h l × (offer_at g h cells l ≡ c)

-- link l leads to node w as the row's walks go
abbrev pub Reaches : Graph → Heading → ℕ → ℕ → Type 0
Reaches g h w l = far_end g h l ≡ w

-- the cell of the row's own node is 0, and that of another node w the least offer to it
abbrev pub IsToldByLinks : Graph → List Bool → Heading → List ℕ → ℕ → Type 0
IsToldByLinks g x h cells w =
    ((w ≡ base h) × (slice_index cells w ≡ 0))
    ⊎ ((w ≢ base h) × IsLeastOffer g x h cells (Reaches g h w) (slice_index cells w))

-- each cell is told so
abbrev pub AreToldByLinks : Graph → List Bool → Heading → List ℕ → Type 0
AreToldByLinks g x h cells = (w : ℕ) → w < node_count g → IsToldByLinks g x h cells w

-- the cells are the distances that the heading says, without the links x
abbrev pub IsExactWithout : Graph → List Bool → Heading → List ℕ → Type 0
IsExactWithout g x (From u) cells = IsRow g x u cells
IsExactWithout g x (To v) cells = IsRowTo g x v cells
