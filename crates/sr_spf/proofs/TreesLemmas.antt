-- The rows, and the lists of next hops, that come from the nodes in order.
use Rattle.std.proofs.Common.{ℕ, List, [], ◌∷◌, map}
use Rattle.std.specs.List.{AllZip, range_with_len}
use Rattle.sr_model.specs.Graph.{Graph, node_count, link_count, IsGraph}
use Rattle.sr_model.specs.Walk.{IsRow}
use Rattle.sr_spf.specs.declared.rows.Counted.{Counted}
use Rattle.sr_spf.specs.Rows.{rows_in}
use Rattle.sr_lanes.specs.declared.words.NodeBits.{NodeBits}
use Rattle.sr_spf.specs.Carried.{AreCarried}
use Rattle.sr_spf.specs.Trees.{AreRows, AreHopTables, AreTrees}
use Rattle.sr_spf.specs.Hops.{HopLists, AreHopsFrom}
use Rattle.sr_spf.proofs.OrderLemmas.{in_order}

-- a relation to what the items of a list hold, as one to the items
zip-inside : {X Y Z : Type 0} (f : Y → Z) (P : X → Z → Type 0) (xs : List X) (ys : List Y) → AllZip (λ x y. P x (f y)) xs ys → AllZip P xs (map f ys)
zip-inside f P [] [] h = tt
zip-inside f P [] (y ∷ ys) h = absurd h
zip-inside f P (x ∷ xs) [] h = absurd h
zip-inside f P (x ∷ xs) (y ∷ ys) h = (h.0, zip-inside f P xs ys h.1)

-- a row for each node in order
pub rows-in_order : (g : Graph) (all : List Counted) → IsGraph g → AllZip (λ i (one : Counted). IsRow g [] i one.row) (range_with_len 0 (node_count g)) all → AreRows g (rows_in all) (node_count g)
rows-in_order g all graph zip =
    let rows = in_order (IsRow g []) (node_count g) (rows_in all) [] (zip-inside (λ (one : Counted). one.row) (IsRow g []) (range_with_len 0 (node_count g)) all zip) in
    record { graph = graph; long = rows.0; each = rows.1 }

-- the next hops of each node in order
pub hops-in_order : (g : Graph) (hops : List HopLists) → AllZip (AreHopsFrom g) (range_with_len 0 (node_count g)) hops → AreHopTables g hops (node_count g)
hops-in_order g hops zip =
    let lists = in_order (AreHopsFrom g) (node_count g) hops (record { starts = []; links = [] }) zip in
    record { long = lists.0; each = lists.1 }

pub trees-whole : (g : Graph) (rows : List (List ℕ)) (hops : List HopLists) (carried : List NodeBits) → AreRows g rows (node_count g) → AreHopTables g hops (node_count g) → AreCarried g carried (link_count g) → AreTrees g (record { rows = rows; hops = hops; carried = carried })
trees-whole g rows hops carried r h s = record {
  graph = r.graph;
  long = r.long;
  rows = r.each;
  hops = λ u v a b. (h.each u a).each v b;
  carried = s;
}
