-- Rows and next hops that stay, and those that were found.
use Rattle.std.proofs.Common.{◌≡◌, ℕ, suc, ◌+◌, ◌-◌, ◌<◌, ◌≤◌, Bool, cond, true, false, List, [], ◌∷◌, length, Result, Ok, Err, OnOk, Option, Some, None, refl, arith, ap, sym, ◌∙◌, subst, get_or}
use Rattle.std.specs.Prelude.{not, is_some, count_by, take, drop, slice_index, slice_index_or, slice_range, unwrap_or}
use Rattle.std.specs.List.{AllZip, range_with_len}
use Rattle.std.proofs.lemmas.List.{length-map, get_or-map, take-map, drop-map}
use Rattle.std.proofs.lemmas.List.Folds.{map_fixed}
use Rattle.std.proofs.lemmas.Option.{slice_get_read}
use Rattle.std.proofs.lemmas.List.Sums.{sum_by-cons}
use Rattle.sr_lanes.specs.declared.words.NodeBits.{NodeBits}
use Rattle.sr_model.specs.declared.link.LinkNo.{LinkNo}
use Rattle.sr_model.specs.Graph.{Graph, node_count, has, IsGraph}
use Rattle.sr_model.specs.Walk.{IsRow}
use Rattle.sr_spf.specs.declared.renewed.Renewal.{Renewal}
use Rattle.sr_spf.specs.declared.rows.Counted.{Counted}
use Rattle.sr_spf.specs.Hops.{HopLists, AreNextHops, AreHopsFrom, hops_to}
use Rattle.sr_spf.specs.Trees.{Forest, IsWholeForest, AreRows, AreHopTables, row_at, lists_at}
use Rattle.sr_spf.specs.Lost.{StandsBut}
use Rattle.sr_spf.specs.Renewed.{moved_link, moved_links, moved_table, AreInPlace, fallen, searches, rows_found, row_found, AreRenewable, AreRenewed, AreRowsBut, AreStayingRows, AreStayingTables, IsFoundRow, AreFoundRows, IsFoundTable}
use Rattle.sr_spf.proofs.OrderLemmas.{in_order}

-- what was found of each node in order
pub found-in_order : (h : Graph) (stays : List Bool) (all : List (Option Counted)) → IsGraph h → AllZip (IsFoundRow h stays) (range_with_len 0 (node_count h)) all → AreFoundRows h stays all
found-in_order h stays all graph zip =
    let found = in_order (IsFoundRow h stays) (node_count h) all None zip in
    record { graph = graph; long = found.0; each = found.1 }

row_or : (h : Graph) (stays : List Bool) (u : ℕ) (row : List ℕ) (o : Option Counted) → IsFoundRow h stays u o → (has stays u ≡ true → IsRow h [] u row) → IsRow h [] u (unwrap_or (row_found o) row)
row_or h stays u row None found kept = kept found
row_or h stays u row (Some one) found kept = found.1

-- what was found, or stays, are the rows of the graph
pub rows-renewed : (h : Graph) (old : List (List ℕ)) (stays : List Bool) (all : List (Option Counted)) (rows : List (List ℕ)) → AreStayingRows h old stays → AreFoundRows h stays all → AreRenewed old (rows_found all) rows → AreRows h rows (node_count h)
rows-renewed h old stays all rows s f r =
    let long : length (rows_found all) ≡ length all = length-map all row_found in
    record {
      graph = f.graph;
      long = r.long ∙ long ∙ f.long;
      each = λ u lt.
          let at : slice_index_or (rows_found all) u None ≡ row_found (slice_index_or all u None) = get_or-map row_found all u None None (omega (arith, f.long)) in
          let is : row_at rows u ≡ unwrap_or (row_found (slice_index_or all u None)) (row_at old u) = r.each u [] (omega (arith, long, f.long)) ∙ ap (λ o. unwrap_or o (row_at old u)) at in
          subst (λ k. IsRow h [] u k) (sym is) (row_or h stays u (row_at old u) (slice_index_or all u None) (f.each u lt) (s.each u lt));
    }

-- no more were found than there are old rows
pub found-few : (h : Graph) (old : List (List ℕ)) (stays : List Bool) (all : List (Option Counted)) → AreStayingRows h old stays → AreFoundRows h stays all → length (rows_found all) ≤ length old
found-few h old stays all s f = let long : length (rows_found all) ≡ length all = length-map all row_found in omega (arith, long, f.long, s.long)

same-count : {X Y : Type 0} (p : X → Bool) (q : Y → Bool) (d : X) (e : Y) (xs : List X) (ys : List Y) → length xs ≡ length ys → ((i : ℕ) → i < length xs → p (slice_index_or xs i d) ≡ q (slice_index_or ys i e)) → count_by p xs ≡ count_by q ys
same-count p q d e [] [] long each = refl
same-count p q d e [] (y ∷ ys) long each = absurd {0} (cc)
same-count p q d e (x ∷ xs) [] long each = absurd {0} (cc)
same-count p q d e (x ∷ xs) (y ∷ ys) long each =
    let rest : count_by p xs ≡ count_by q ys = same-count p q d e xs ys (omega arith) (λ i lt. each (suc i) (omega arith)) in
    let one : ◌≡◌ {A = ℕ} (cond (p x) 1 0) (cond (q y) 1 0) = ap (λ b. cond {A = ℕ} b 1 0) (each 0 (omega arith)) in
    omega (arith, rest, one, sum_by-cons (λ k. cond {A = ℕ} (p k) 1 0) x xs, sum_by-cons (λ k. cond {A = ℕ} (q k) 1 0) y ys)

searched_or : (h : Graph) (stays : List Bool) (u : ℕ) (o : Option Counted) → IsFoundRow h stays u o → is_some o ≡ not (has stays u)
searched_or h stays u None found = ap not (sym found)
searched_or h stays u (Some one) found = ap not (sym found.0)

-- just the rows that don't stay were searched for
pub searches-fallen : (h : Graph) (stays : List Bool) (all : List (Option Counted)) → length stays ≡ node_count h → AreFoundRows h stays all → searches all ≡ fallen stays
searches-fallen h stays all marks f =
    same-count is_some not None false all stays (f.long ∙ sym marks) (λ i lt. searched_or h stays i (slice_index_or all i None) (f.each i (omega (arith, f.long))))

table_or : (h : Graph) (stays : List Bool) (u : ℕ) (table : HopLists) (o : Option HopLists) → IsFoundTable h stays u o → (has stays u ≡ true → AreHopsFrom h u table) → AreHopsFrom h u (unwrap_or o table)
table_or h stays u table None found kept = kept found
table_or h stays u table (Some one) found kept = found

-- no more were made than there are old tables
pub tables-few : (h : Graph) (old : List HopLists) (stays : List Bool) (move : HopLists → HopLists) (found : List (Option HopLists)) → AreStayingTables h old stays move → AllZip (IsFoundTable h stays) (range_with_len 0 (node_count h)) found → length found ≤ length old
tables-few h old stays move found s zip =
    let all = in_order (IsFoundTable h stays) (node_count h) found None zip in omega (arith, all.0, s.long)

-- what was made, or stays, are the next hops of the graph
pub tables-renewed : (h : Graph) (old : List HopLists) (stays : List Bool) (found : List (Option HopLists)) (tables : List HopLists) → AreStayingTables h old stays (λ t. t) → AllZip (IsFoundTable h stays) (range_with_len 0 (node_count h)) found → AreRenewed old found tables → AreHopTables h tables (node_count h)
tables-renewed h old stays found tables s zip r =
    let all = in_order (IsFoundTable h stays) (node_count h) found None zip in
    record {
      long = r.long ∙ all.0;
      each = λ u lt.
          subst (λ k. AreHopsFrom h u k) (sym (r.each u (record { starts = []; links = [] }) (omega (arith, all.0))))
          (table_or h stays u (lists_at old u) (slice_index_or found u None) (all.1 u lt) (s.each u lt));
    }

-- where a row doesn't stay, a search goes on from its distances that stand
pub row-stands : (h : Graph) (rows : List (List ℕ)) (r : Renewal) (u : ℕ) (lost : NodeBits) → AreRowsBut h rows r → u < node_count h → has r.stays.items u ≡ false → lost ≡ get_or r.lost.items u lost → StandsBut h u (row_at rows u) lost
row-stands h rows r u lost are lt off is = are.each u lost lt off (slice_get_read r.lost.items (node_count h) u lost (sym are.sets) lt is)

-- rows of a forest that is renewed
pub rows-staying : (h : Graph) (t : Forest) (stays : List Bool) (links : List (Option LinkNo)) → AreRenewable h t stays links → AreStayingRows h t.rows stays
rows-staying h t stays links r = record { long = r.long; marks = r.marks; each = r.rows }

-- where no number moves, the next hops stay as they are
pub tables-kept : (h : Graph) (t : Forest) (stays : List Bool) (links : List (Option LinkNo)) → IsWholeForest t → AreRenewable h t stays links → AreInPlace links → AreStayingTables h t.hops stays (λ k. k)
tables-kept h t stays links w r place = record {
  long = w.long ∙ r.long;
  marks = r.marks;
  each = λ u lt on. record {
    long = (let z = w.places u (omega (arith, r.long)) in omega (arith, z, r.long));
    each = λ v below. subst (λ k. AreNextHops h u v k) (map_fixed (moved_link links) (hops_to (lists_at t.hops u) v) (λ i d k. place (slice_index_or (hops_to (lists_at t.hops u) v) i d))) (r.hops u v lt below on);
  };
}

-- else they stay by their new numbers
pub tables-moved : (h : Graph) (t : Forest) (stays : List Bool) (links : List (Option LinkNo)) → IsWholeForest t → AreRenewable h t stays links → AreStayingTables h t.hops stays (moved_table links)
tables-moved h t stays links w r = record {
  long = w.long ∙ r.long;
  marks = r.marks;
  each = λ u lt on. record {
    long = (let z = w.places u (omega (arith, r.long)) in omega (arith, z, r.long));
    each = λ v below.
        let a = slice_index (lists_at t.hops u).starts v in
        let b = slice_index (lists_at t.hops u).starts (v + 1) in
        let ls = (lists_at t.hops u).links in
        let same : slice_range (moved_links links ls) a b ≡ moved_links links (slice_range ls a b) = ap (λ k. take (b - a) k) (drop-map (moved_link links) a ls) ∙ take-map (moved_link links) (b - a) (drop a ls) in
        subst (λ k. AreNextHops h u v k) (sym same) (r.hops u v lt below on);
  };
}

-- the links below this number are in their places
abbrev pub AreInPlaceBelow : List (Option LinkNo) → ℕ → Type 0
AreInPlaceBelow links n = (link : LinkNo) → link.0 < n → moved_link links link ≡ link

-- what holds anyway holds where the result is `Ok`
pub on_ok-always : {X E : Type 0} (r : Result X E) (P : Type 0) → P → OnOk r P
on_ok-always (Ok x) P p = p
on_ok-always (Err e) P p = tt
