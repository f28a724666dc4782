-- The nodes towards which links are next hops, told by sums of cells, and their sets as they are listed.
use Rattle.std.proofs.Common.{◌≡◌, ℕ, ◌+◌, ◌<◌, ◌≤◌, ⊎_elim, true, ◌==◌, List, [], ◌∷◌, ◌++◌, length, refl, arith, sym, ◌∙◌, subst}
use Rattle.std.specs.Prelude.{◌↔◌, IsTrue, Some, slice_get, slice_index, nat_lt}
use Rattle.std.proofs.lemmas.Bool.{cases_lt, and_parts, and_from, lt-ltb, ltb-true, eqb-true, eq-eqb}
use Rattle.std.proofs.lemmas.List.{length_push, get_or_past}
use Rattle.sr_lanes.specs.Bits.{is_in}
use Rattle.sr_lanes.specs.Passes.{AreCells, is_tight, has_distance}
use Rattle.sr_lanes.specs.declared.words.NodeBits.{NodeBits}
use Rattle.sr_model.specs.declared.link.TheConstants.{FAR}
use Rattle.sr_model.specs.Graph.{Graph, node_count, link_count, tail, head, metric, carries, link_at, IsGraph, IsLink}
use Rattle.sr_model.specs.Walk.{IsNextHop, IsRow}
use Rattle.sr_walks.proofs.Walks.{walk-within}
use Rattle.sr_spf.specs.Carried.{IsCarried, AreCarried}
use Rattle.sr_spf.specs.Trees.{AreRows, row_at}
use Rattle.sr_spf.proofs.HopsLemmas.{hop-from_test, test-from_hop, no_hop}
use Rattle.sr_seq.proofs.ListLemmas.{get-push}

-- no cell of a row is above FAR
pub row-cells : (g : Graph) (u : ℕ) (row : List ℕ) → IsRow g [] u row → AreCells row
row-cells g u row is v =
    ⊎_elim
    (λ (lt : v < length row). (is.each v (omega (arith, is.long))).top)
    (λ (past : length row ≤ v). omega (arith, get_or_past row v 0 past))
    (cases_lt v (length row))

-- what the pass over the rows of a link's ends finds
pub record IsFoundOver (g : Graph) (rows : List (List ℕ)) (l : ℕ) (set : NodeBits) : Type 0 where
  pub tight : (v : ℕ) → is_in set v ≡ true → is_tight (row_at rows (tail g l)) (metric g l) (row_at rows (head g l)) v ≡ true
  pub near : (v : ℕ) → is_in set v ≡ true → has_distance (row_at rows (tail g l)) v ≡ true
  pub carry : (v : ℕ) → v < node_count g → is_in set v ≡ true → carries g v (head g l) ≡ true
  pub all : (v : ℕ) → v < node_count g → is_tight (row_at rows (tail g l)) (metric g l) (row_at rows (head g l)) v ≡ true
      → has_distance (row_at rows (tail g l)) v ≡ true → carries g v (head g l) ≡ true → is_in set v ≡ true

-- these are the nodes towards which the link is a next hop
pub carried-found : (g : Graph) (rows : List (List ℕ)) (l : ℕ) (set : NodeBits) → IsGraph g → AreRows g rows (node_count g) → l < link_count g → IsFoundOver g rows l set → IsCarried g l set
carried-found g rows l set graph are within found =
    let k : IsLink g (link_at g l) = graph.each l within in
    let row : List ℕ = row_at rows (tail g l) in
    let rest : List ℕ = row_at rows (head g l) in
    let long : length row ≡ node_count g = (are.each (tail g l) k.0).long in
    record {
      each = λ v. (
        λ yes.
            let tight = and_parts (nat_lt v (length row)) (metric g l + slice_index rest v == slice_index row v) (found.tight v yes) in
            let near = and_parts (nat_lt v (length row)) (nat_lt (slice_index row v) FAR) (found.near v yes) in
            let lt : v < length row = ltb-true v (length row) near.0 in
            let inside : v < node_count g = omega arith in
            let reached : slice_index row v < FAR = ltb-true (slice_index row v) FAR near.1 in
            hop-from_test g rows (tail g l) v l graph are inside within refl reached (found.carry v inside yes)
            (eqb-true (metric g l + slice_index rest v) (slice_index row v) tight.1),
        λ hop.
            let inside : v < node_count g = walk-within g [] (tail g l) (l ∷ hop.more) v graph k.0 hop.shortest.0 in
            let reached : slice_index row v < FAR = ⊎_elim (λ a. a) (λ far. absurd (no_hop g rows (tail g l) v l are k.0 inside far hop)) (cases_lt (slice_index row v) FAR) in
            let told = test-from_hop g rows (tail g l) v l graph are k.0 inside reached hop in
            let lt : nat_lt v (length row) ≡ true = lt-ltb v (length row) (omega arith) in
            found.all v inside
            (and_from (nat_lt v (length row)) (metric g l + slice_index rest v == slice_index row v) lt (eq-eqb (metric g l + slice_index rest v) (slice_index row v) told.1))
            (and_from (nat_lt v (length row)) (nat_lt (slice_index row v) FAR) lt (lt-ltb (slice_index row v) FAR reached))
            told.0,
      );
    }

-- of no link
pub carried-none : (g : Graph) → AreCarried g [] 0
carried-none g = record { long = refl; each = λ l set e. absurd {0} (cc) }

-- one link more
pub carried-more : (g : Graph) (sets : List NodeBits) (n : ℕ) (set : NodeBits) → AreCarried g sets n → IsCarried g n set → AreCarried g (sets ++ set ∷ []) (n + 1)
carried-more g sets n set h is = record {
  long = length_push sets set ∙ omega (arith, h.long);
  each = λ l other e. ⊎_elim
      (λ o. h.each l other o)
      (λ o. let same : l ≡ n = omega (arith, o.0, h.long) in
      subst (λ k. IsCarried g k other) (sym same) (subst (λ s. IsCarried g n s) o.1 is))
      (get-push sets set l other e);
}

-- what the set of a link tells of a node
pub carried-at : (g : Graph) (sets : List NodeBits) (l v : ℕ) (set : NodeBits) → AreCarried g sets (link_count g) → slice_get sets l ≡ Some set → IsTrue (is_in set v) ↔ IsNextHop g [] (tail g l) v l
carried-at g sets l v set are at = (are.each l set at).each v
