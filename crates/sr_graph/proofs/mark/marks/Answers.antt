use Rattle.std.proofs.Common.{◌≡◌, ◌↔◌, ℕ, true, subst, sym, ◌∙◌}
use Rattle.std.specs.Prelude.{Contains, slice_index}
use Rattle.std.proofs.lemmas.List.{get_or_default}
use Rattle.sr_graph.proofs.MarkLemmas.{marks-more}
use Rattle.sr_graph.proofs.mark.marks.Goals as goal

pub loop-node-preserved : goal.loop-node-preserved
loop-node-preserved c =
    let here : slice_index c.args.systems.now c.loop-node.node ≡ c.index-systems-node.result = get_or_default c.args.systems.now c.loop-node.node 0 c.index-systems-node.result c.loop-node-test.true ∙ sym c.index-systems-node.is in
    let told : (c.is_listed.result ≡ true) ↔ Contains c.args.overloaded.now (slice_index c.args.systems.now c.loop-node.node) = subst (λ (s : ℕ). (c.is_listed.result ≡ true) ↔ Contains c.args.overloaded.now s) (sym here) c.is_listed.ensures in
    rw c.in_ok-push.ensures.items
    (marks-more c.args.systems.now c.args.overloaded.now c.loop-node.tests.items c.loop-node.node c.is_listed.result c.loop-node.invariant told)
