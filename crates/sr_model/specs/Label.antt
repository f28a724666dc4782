-- Labels: the ranges of a node, what it announces, and a net, which is a graph with its labels.
use Rattle.std.specs.Prelude.{◌≡◌, ◌≢◌, ℕ, ◌+◌, ◌-◌, ◌<◌, ◌≤◌, nat_lt, ◌==◌, ◌&&◌, ◌⊎◌, Bool, false, if◌then◌else◌, List, [], ◌∷◌, length, Option, Some, None, filter, slice_get, slice_index_or}
use Rattle.sr_model.specs.declared.label.Range.{Range}
use Rattle.sr_model.specs.declared.name.LinkKey.{LinkKey}
use Rattle.sr_model.specs.Graph.{Graph, node_count}

-- the label of an index: the ranges are taken in announced order; an index below the first size is counted from the
-- first base, else that size is subtracted from it and the next range is tried (RFC 8660, 2.4 and RFC 8667, 3.1)
abbrev pub label_of : List Range → ℕ → Option ℕ
label_of [] i = None
label_of (r ∷ rs) i = if nat_lt i r.size then Some (r.first + i) else label_of rs (i - r.size)

-- the index of a label: the one that has it, or none where no index has it
abbrev pub IsIndexOf : List Range → ℕ → Option ℕ → Type 0
IsIndexOf rs t None = (i : ℕ) → label_of rs i ≢ Some t
IsIndexOf rs t (Some i) = label_of rs i ≡ Some t

-- how many labels the ranges have
abbrev pub sizes : List Range → ℕ
sizes [] = 0
sizes (r ∷ rs) = r.size + sizes rs

-- what stands for a range past the end of a list
abbrev pub no_range : Range
no_range = record { first = 0; size = 0 }

-- range number k
abbrev pub range_at : List Range → ℕ → Range
range_at rs k = slice_index_or rs k no_range

-- not empty, and within the labels that aren't reserved (RFC 3032, 2.1: a label has 20 bits, and 0 to 15 are
-- reserved)
pub record IsWithin (r : Range) : Type 0 where
  pub some : 0 < r.size
  pub above : 16 ≤ r.first
  pub below : r.first + r.size ≤ 1048576

-- no label is in both
abbrev pub AreApart : Range → Range → Type 0
AreApart a b = (a.first + a.size ≤ b.first) ⊎ (b.first + b.size ≤ a.first)

-- the range at place k is within, and apart from all earlier ones (RFC 8667, 3.1: ranges don't overlap)
pub record IsGoodAt (rs : List Range) (k : ℕ) : Type 0 where
  pub within : IsWithin (range_at rs k)
  pub apart : (j : ℕ) → j < k → AreApart (range_at rs j) (range_at rs k)

-- an SRGB: at least one range, and each is good
pub record IsSrgb (rs : List Range) : Type 0 where
  pub some : 0 < length rs
  pub each : (k : ℕ) → k < length rs → IsGoodAt rs k

-- the place of the first range that isn't good, or 0 where there is no range
abbrev pub IsFirstBad : List Range → ℕ → Type 0
IsFirstBad rs k = ((rs ≡ []) × (k ≡ 0)) ⊎ ((k < length rs) × ((j : ℕ) → j < k → IsGoodAt rs j) × (IsGoodAt rs k → ⊥))

-- what a node announces: its SRGB, the index of its node segment, whether a packet keeps that segment's label up to
-- the node (P flag, RFC 8667, 2.1.1), whether that label is then explicit null (P and E flags), and how many labels
-- it can impose (its maximum SID depth, MSD type 1, RFC 8491, 5)
pub record Labels : Type 0 where
  pub srgb : List Range
  pub index : Option ℕ
  pub keep : Bool
  pub explicit : Bool
  pub imposes : Option ℕ

-- what stands for the announcement of a node past the end of a list: nothing
abbrev pub nameless : Labels
nameless = record { srgb = []; index = None; keep = false; explicit = false; imposes = None }

-- a net: the graph, what each node announces, the adjacency label of each link (RFC 8667, 2.2), the keys of all
-- two-way announcements, also of links that aren't in use, and how many segments a list may have where its node
-- announces no maximum SID depth (MSD)
pub record Net : Type 0 where
  pub graph : Graph
  pub labels : List Labels
  pub adj : List (Option ℕ)
  pub announced : List LinkKey
  pub depth : ℕ

-- what node v announces
abbrev pub labels_at : Net → ℕ → Labels
labels_at n v = slice_index_or n.labels v nameless

-- the adjacency label of link l, where it has one
abbrev pub adj_at : Net → ℕ → Option ℕ
adj_at n l = slice_index_or n.adj l None

-- t is the label of node b at node u: that of b's index in the ranges of u (RFC 8660, 2.4)
abbrev pub IsLabel : Net → ℕ → ℕ → ℕ → Type 0
IsLabel n u b t =
    (i : ℕ) × (b < node_count n.graph) × ((labels_at n b).index ≡ Some i) × (label_of (labels_at n u).srgb i ≡ Some t)

-- the announced keys from a to b; they are in order of identity, since the announced keys ascend
abbrev pub keys_between : List LinkKey → ℕ → ℕ → List LinkKey
keys_between keys a b = filter (λ (k : LinkKey). (k.from == a) && (k.to == b)) keys

-- the announced key number n from a to b, counted from 1
abbrev pub key_named : List LinkKey → ℕ → ℕ → ℕ → Option LinkKey
key_named keys a b n = if nat_lt 0 n then slice_get (keys_between keys a b) (n - 1) else None

-- the number of a key among the announced keys between its nodes
abbrev pub IsPlace : List LinkKey → LinkKey → ℕ → Type 0
IsPlace keys k n = key_named keys k.from k.to n ≡ Some k
