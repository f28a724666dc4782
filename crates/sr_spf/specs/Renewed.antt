-- Trees of an old graph that stay in a new one.
use Rattle.std.specs.Prelude.{◌≡◌, ℕ, ◌<◌, Bool, true, false, not, is_some, List, [], ◌∷◌, ◌++◌, length, map, count_by, Option, Some, None, unwrap_or, slice_get, slice_index_or}
use Rattle.sr_lanes.specs.declared.words.NodeBits.{NodeBits}
use Rattle.sr_model.specs.declared.link.LinkNo.{LinkNo}
use Rattle.sr_model.specs.Graph.{Graph, IsGraph, node_count, link_count, tail, has}
use Rattle.sr_model.specs.Walk.{IsRow}
use Rattle.sr_spf.specs.Carried.{IsCarried}
use Rattle.sr_spf.specs.Hops.{HopLists, AreNextHops, AreHopsFrom}
use Rattle.sr_spf.specs.Trees.{Forest, tree_count, row_at, lists_at, hops_at}
use Rattle.sr_spf.specs.Lost.{StandsBut}
use Rattle.sr_spf.specs.declared.rows.Counted.{Counted}
use Rattle.sr_spf.specs.declared.renewed.Renewal.{Renewal}

-- the number of the link in the new graph, where the list has one; else the link itself
abbrev pub moved_link : List (Option LinkNo) → LinkNo → LinkNo
moved_link links link = unwrap_or (slice_index_or links link.0 None) link

-- the numbers of the links in the new graph
abbrev pub moved_links : List (Option LinkNo) → List LinkNo → List LinkNo
moved_links links list = map (moved_link links) list

-- each number in the new graph is the one in the old graph
abbrev pub AreInPlace : List (Option LinkNo) → Type 0
AreInPlace links = (link : LinkNo) → moved_link links link ≡ link

-- how many trees don't stay
abbrev pub fallen : List Bool → ℕ
fallen stays = count_by (λ stay. not stay) stays

-- link l has the number that it had, and begins at a marked node
pub record IsInPlace (h : Graph) (stays : List Bool) (links : List (Option LinkNo)) (l : ℕ) : Type 0 where
  pub number : slice_get links l ≡ Some (Some (record { 0 = l }))
  pub marked : has stays (tail h l) ≡ true

-- the set of each such link has the nodes towards which it is a next hop in the new graph
abbrev pub AreStayingSets : Graph → List NodeBits → List Bool → List (Option LinkNo) → Type 0
AreStayingSets h sets stays links =
    (l : ℕ) (set : NodeBits) → l < link_count h → IsInPlace h stays links l → slice_get sets l ≡ Some set
    → IsCarried h l set

-- there is a mark for each node of the new graph, and there was a tree for each; the rows of the marked nodes are
-- those of the new graph, and so are their next hops, by the numbers of the links there, and the sets of their links
pub record AreRenewable (h : Graph) (t : Forest) (stays : List Bool) (links : List (Option LinkNo)) : Type 0 where
  pub long : tree_count t ≡ node_count h
  pub marks : length stays ≡ node_count h
  pub rows : (u : ℕ) → u < node_count h → has stays u ≡ true → IsRow h [] u (row_at t.rows u)
  pub hops : (u v : ℕ) → u < node_count h → v < node_count h → has stays u ≡ true
      → AreNextHops h u v (moved_links links (hops_at t u v))
  pub carried : AreStayingSets h t.carried stays links

-- the item that the other list has at the next place stands behind the items that there were
pub record SharesNext {X : Type 0} (other before after : List X) : Type 0 where
  pub item : X
  pub joined : after ≡ before ++ item ∷ []
  pub is : (default : X) → slice_index_or other (length before) default ≡ item

-- at each place stands what was found, else the old item
pub record AreRenewed {X : Type 0} (old : List X) (found : List (Option X)) (items : List X) : Type 0 where
  pub long : length items ≡ length found
  pub each : (i : ℕ) (default : X) → i < length found
      → slice_index_or items i default ≡ unwrap_or (slice_index_or found i None) (slice_index_or old i default)

-- the rows of the marked nodes are those of the graph
pub record AreStayingRows (h : Graph) (rows : List (List ℕ)) (stays : List Bool) : Type 0 where
  pub long : length rows ≡ node_count h
  pub marks : length stays ≡ node_count h
  pub each : (u : ℕ) → u < node_count h → has stays u ≡ true → IsRow h [] u (row_at rows u)

-- there is a mark and a set for each node; a search from a node that isn't marked may begin with its row, but for the
-- nodes of its set
pub record AreRowsBut (h : Graph) (rows : List (List ℕ)) (r : Renewal) : Type 0 where
  pub long : length rows ≡ node_count h
  pub marks : length r.stays.items ≡ node_count h
  pub sets : length r.lost.items ≡ node_count h
  pub each : (u : ℕ) (lost : NodeBits) → u < node_count h → has r.stays.items u ≡ false
      → slice_get r.lost.items u ≡ Some lost → StandsBut h u (row_at rows u) lost

-- the marked trees are those of the new graph, and searches for the others may begin with their rows
pub record IsRenewal (h : Graph) (t : Forest) (r : Renewal) (links : List (Option LinkNo)) : Type 0 where
  pub stays : AreRenewable h t r.stays.items links
  pub lost : AreRowsBut h t.rows r

-- the next hops of the marked nodes are those of the graph, once they are moved
pub record AreStayingTables (h : Graph) (tables : List HopLists) (stays : List Bool) (move : HopLists → HopLists)
    : Type 0 where
  pub long : length tables ≡ node_count h
  pub marks : length stays ≡ node_count h
  pub each : (u : ℕ) → u < node_count h → has stays u ≡ true → AreHopsFrom h u (move (lists_at tables u))

-- the next hops of a node, by the numbers of the links in the new graph
abbrev pub moved_table : List (Option LinkNo) → HopLists → HopLists
moved_table links t = record { starts = t.starts; links = moved_links links t.links }

-- nothing was looked for where the row of node u stays; else its row was found
abbrev pub IsFoundRow : Graph → List Bool → ℕ → Option Counted → Type 0
IsFoundRow h stays u None = has stays u ≡ true
IsFoundRow h stays u (Some one) = (has stays u ≡ false) × IsRow h [] u one.row

-- so it is with each node
pub record AreFoundRows (h : Graph) (stays : List Bool) (all : List (Option Counted)) : Type 0 where
  pub graph : IsGraph h
  pub long : length all ≡ node_count h
  pub each : (u : ℕ) → u < node_count h → IsFoundRow h stays u (slice_index_or all u None)

-- the row that was found, if one was
abbrev pub row_found : Option Counted → Option (List ℕ)
row_found None = None
row_found (Some one) = Some one.row

-- the rows that were found
abbrev pub rows_found : List (Option Counted) → List (Option (List ℕ))
rows_found all = map row_found all

-- how many were searched for
abbrev pub searches : List (Option Counted) → ℕ
searches all = count_by is_some all

-- nothing was made where the table of node u stays as it was; else it was made
abbrev pub IsFoundTable : Graph → List Bool → ℕ → Option HopLists → Type 0
IsFoundTable h stays u None = has stays u ≡ true
IsFoundTable h stays u (Some table) = AreHopsFrom h u table
