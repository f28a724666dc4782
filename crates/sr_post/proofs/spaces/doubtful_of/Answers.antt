use Rattle.std.proofs.Common.{◌≡◌, ◌≢◌, ℕ, [], ap, sym, ◌∙◌, subst}
use Rattle.std.specs.Prelude.{slice_index, List}
use Rattle.sr_lanes.specs.Bits.{is_in}
use Rattle.sr_lanes.specs.Passes.{is_tight}
use Rattle.sr_model.specs.declared.case.Kind.{Kind}
use Rattle.sr_model.specs.declared.case.Kind.TheVariants.{Node as NodeKind}
use Rattle.sr_model.specs.Case.{FailsWith}
use Rattle.sr_model.specs.Graph.{tail, head, link_at, IsLink}
use Rattle.sr_model.specs.Walk.{IsRow}
use Rattle.sr_spf.specs.Trees.{row_at}
use Rattle.sr_post.proofs.SourceLemmas.{no-node_fails, lie-at-source}
use Rattle.sr_post.proofs.DoubtLemmas.{sure-at_source, sure-around}
use Rattle.sr_post.proofs.spaces.doubtful_of.Goals as goal

pub returns-in-Link : goal.returns-in-Link
returns-in-Link c = λ x set.
    let g = c.args.graph.now in
    let other : c.args.case.kind ≢ NodeKind = no-node_fails c.args.case.kind c.in-Link.is in
    sure-at_source g x (tail g c.args.case.link.0) c.none.result c.edge-edge.ensures.graph
    (lie-at-source g c.edge-edge.ensures.graph c.node_count-count.ensures.named c.args.case c.requires.case x set other)

pub returns-in-Node : goal.returns-in-Node
returns-in-Node c = λ x set.
    let g = c.args.graph.now in
    let p : ℕ = c.args.case.link.0 in
    let t = c.args.trees.now in
    let k : IsLink g (link_at g p) = c.edge-edge.ensures.graph.each p c.requires.case in
    let row : c.cells-row.result.now ≡ row_at t.rows (tail g p) = c.cells-row.ensures.cells ∙ ap (λ u. row_at t.rows u) c.edge-edge.ensures.from in
    let over : c.cells.result.now ≡ row_at t.rows (head g p) = c.cells.ensures.cells ∙ ap (λ u. row_at t.rows u) c.edge-edge.ensures.to in
    let begin : IsRow g [] (tail g p) c.cells-row.result.now = subst (λ (r : List ℕ). IsRow g [] (tail g p) r) (sym row) (c.requires.trees.rows (tail g p) k.0) in
    let end : IsRow g [] (head g p) c.cells.result.now = subst (λ (r : List ℕ). IsRow g [] (head g p) r) (sym over) (c.requires.trees.rows (head g p) k.1) in
    let tight : (v : ℕ) → is_in c.tight.result v ≡ is_tight c.cells-row.result.now (slice_index c.cells-row.result.now (head g p)) c.cells.result.now v = λ v.
    c.tight.ensures v ∙ ap (λ (u : ℕ). is_tight c.cells-row.result.now (slice_index c.cells-row.result.now u) c.cells.result.now v) c.edge-edge.ensures.to in
    sure-around g (tail g p) (head g p) c.cells-row.result.now c.cells.result.now c.edge-edge.ensures.graph begin end k.0 k.1 x c.tight.result
    (λ l lt failed. subst (λ (kind : Kind). FailsWith g kind p l) c.in-Node.is ((set.each l lt).0 failed))
    tight
