use Rattle.std.proofs.Common.{◌≡◌, ◌↔◌, ℕ, IsTrue, ap, ◌∙◌}
use Rattle.std.specs.Bool.{Decides}
use Rattle.std.proofs.lemmas.Slice.Eq.{slice_eq-Decides}
use Rattle.sr_model.specs.Label.{Net}
use Rattle.sr_model.specs.Rule.{node_at}
use Rattle.sr_graph.proofs.SameLemmas.{then-tested, else-left}
use Rattle.sr_labels.specs.Depth.{net_over}
use Rattle.sr_labels.specs.declared.net.LabelledGraph.{LabelledGraph}
use Rattle.sr_labels.proofs.SameLemmas.{labels-decide, lists-told, lists-differ}
use Rattle.sr_labels.proofs.net.Net.has_same_lists.Goals.{then-is_same, else-is_same}
use Rattle.sr_labels.proofs.net.Net.has_same_lists.Goals as goal

pub returns-then-eq : goal.returns-then-eq
returns-then-eq c =
    let one : LabelledGraph = c.deref-one.result.now in
    let other : LabelledGraph = c.deref-other.result.now in
    let left : net_over one c.self.inside.depth ≡ c.args.self.now = ap (λ base. net_over base c.self.inside.depth) c.deref-one.ensures ∙ c.self.view_is in
    let right : net_over other c.other.inside.depth ≡ c.args.other.now = ap (λ base. net_over base c.other.inside.depth) c.deref-other.ensures ∙ c.other.view_is in
    let adj : Decides c.if-is_same.value ((one.graph ≡ other.graph) × (one.adj.items ≡ other.adj.items)) =
    elim c.if-is_same.branch [
      | then-is_same w ↦ then-tested _ _ _ c.is_same.ensures w.if-is_same.true w.value-is (slice_eq-Decides labels-decide one.adj.items other.adj.items _ w.eq.ensures)
      | else-is_same w ↦ else-left _ _ c.is_same.ensures w.if-is_same.false w.value-is
    ] in
    let indices : IsTrue c.are_indexed_alike.result ↔ ((v : ℕ) → (node_at other.nodes.items v).index ≡ (node_at one.nodes.items v).index) = rw (c.deref.ensures.value, c.deref-then-eq.ensures.value) at c.are_indexed_alike.ensures in
    lists-told _ _ _ _ c.if-is_same.value _ left right adj c.if-eq.true indices

pub returns-else-eq : goal.returns-else-eq
returns-else-eq c =
    let one : LabelledGraph = c.deref-one.result.now in
    let other : LabelledGraph = c.deref-other.result.now in
    let left : net_over one c.self.inside.depth ≡ c.args.self.now = ap (λ base. net_over base c.self.inside.depth) c.deref-one.ensures ∙ c.self.view_is in
    let right : net_over other c.other.inside.depth ≡ c.args.other.now = ap (λ base. net_over base c.other.inside.depth) c.deref-other.ensures ∙ c.other.view_is in
    let adj : Decides c.if-is_same.value ((one.graph ≡ other.graph) × (one.adj.items ≡ other.adj.items)) =
    elim c.if-is_same.branch [
      | then-is_same w ↦ then-tested _ _ _ c.is_same.ensures w.if-is_same.true w.value-is (slice_eq-Decides labels-decide one.adj.items other.adj.items _ w.eq.ensures)
      | else-is_same w ↦ else-left _ _ c.is_same.ensures w.if-is_same.false w.value-is
    ] in
    lists-differ _ _ _ _ _ left right adj c.if-eq.false
