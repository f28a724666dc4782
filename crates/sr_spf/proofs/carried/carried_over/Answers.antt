use Rattle.std.proofs.Common.{◌≡◌, ℕ, ◌<◌, true, List, [], ap, sym, ◌∙◌, subst}
use Rattle.std.proofs.lemmas.Bool.{and_parts, and_from}
use Rattle.sr_lanes.specs.Bits.{is_in}
use Rattle.sr_lanes.specs.Passes.{AreCells, is_tight, has_distance}
use Rattle.sr_model.specs.Graph.{node_count, tail, head, metric, carries, link_at, IsLink}
use Rattle.sr_spf.specs.Trees.{row_at}
use Rattle.sr_spf.proofs.CarriedLemmas.{row-cells, carried-found}
use Rattle.sr_spf.proofs.carried.carried_over.Goals as goal

pub tight-fits-requires-clause-base : goal.tight-fits-requires-clause-base
tight-fits-requires-clause-base c =
    let k : IsLink c.args.graph.now (link_at c.args.graph.now c.args.link.0) = c.edge-edge.ensures.graph.each c.args.link.0 c.requires.link in
    let rest : c.as_slice-rest.result.now ≡ row_at c.args.rows.now (head c.args.graph.now c.args.link.0) = c.as_slice-rest.ensures ∙ c.get-2.ensures [] ∙ ap (λ u. row_at c.args.rows.now u) c.edge-edge.ensures.to in
    subst AreCells (sym rest) (row-cells c.args.graph.now (head c.args.graph.now c.args.link.0) (row_at c.args.rows.now (head c.args.graph.now c.args.link.0)) (c.requires.rows.each (head c.args.graph.now c.args.link.0) k.1))

pub returns : goal.returns
returns c =
    let g = c.args.graph.now in
    let l : ℕ = c.args.link.0 in
    let row : c.as_slice-row.result.now ≡ row_at c.args.rows.now (tail g l) = c.as_slice-row.ensures ∙ c.get.ensures [] ∙ ap (λ u. row_at c.args.rows.now u) c.edge-edge.ensures.from in
    let rest : c.as_slice-rest.result.now ≡ row_at c.args.rows.now (head g l) = c.as_slice-rest.ensures ∙ c.get-2.ensures [] ∙ ap (λ u. row_at c.args.rows.now u) c.edge-edge.ensures.to in
    let tests : (v : ℕ) → is_in c.tight-fits.result v ≡ is_tight (row_at c.args.rows.now (tail g l)) (metric g l) (row_at c.args.rows.now (head g l)) v = λ v.
    c.tight-fits.ensures v
    ∙ ap (λ (r : List ℕ). is_tight r c.edge-edge.result.metric c.as_slice-rest.result.now v) row
    ∙ ap (λ (m : ℕ). is_tight (row_at c.args.rows.now (tail g l)) m c.as_slice-rest.result.now v) c.edge-edge.ensures.metric
    ∙ ap (λ (r : List ℕ). is_tight (row_at c.args.rows.now (tail g l)) (metric g l) r v) rest in
    let far : (v : ℕ) → is_in c.finite-near.result v ≡ has_distance (row_at c.args.rows.now (tail g l)) v = λ v. c.finite-near.ensures v ∙ ap (λ (r : List ℕ). has_distance r v) row in
    let behind = λ (v : ℕ) (inside : v < node_count g). c.ends_behind.ensures v inside ∙ ap (λ u. carries g v u) c.edge-edge.ensures.to in
    let parts : (v : ℕ) → is_in c.and-2.result v ≡ true → (is_in c.tight-fits.result v ≡ true) × (is_in c.finite-near.result v ≡ true) × (is_in c.ends_behind.result v ≡ true) = λ v yes.
    let two = and_parts (is_in c.and.result v) (is_in c.ends_behind.result v) (sym (c.and-2.ensures v) ∙ yes) in
    let one = and_parts (is_in c.tight-fits.result v) (is_in c.finite-near.result v) (sym (c.and.ensures v) ∙ two.0) in
    (one.0, one.1, two.1) in
    carried-found g c.args.rows.now l c.and-2.result c.edge-edge.ensures.graph c.requires.rows c.requires.link record {
      tight = λ v yes. sym (tests v) ∙ (parts v yes).0;
      near = λ v yes. sym (far v) ∙ (parts v yes).1;
      carry = λ v inside yes. sym (behind v inside) ∙ (parts v yes).2;
      all = λ v inside fits reached carry.
          c.and-2.ensures v
          ∙ and_from (is_in c.and.result v) (is_in c.ends_behind.result v)
          (c.and.ensures v ∙ and_from (is_in c.tight-fits.result v) (is_in c.finite-near.result v) (tests v ∙ fits) (far v ∙ reached))
          (behind v inside ∙ carry);
    }
