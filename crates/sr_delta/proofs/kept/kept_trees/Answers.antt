use Rattle.std.proofs.Common.{◌≡◌, length, arith, ap, subst}
use Rattle.std.proofs.lemmas.List.{length_push}
use Rattle.sr_model.specs.Graph.{node_count}
use Rattle.sr_model.specs.Label.{Net}
use Rattle.sr_spf.specs.Trees.{AreTrees}
use Rattle.sr_laws.proofs.Keys.{nodes-same}
use Rattle.sr_delta.specs.Changes.{AreChanges}
use Rattle.sr_delta.specs.KeptTrees.{AreTreesKeptBelow, AreKeptTrees}
use Rattle.sr_delta.proofs.KeptLemmas.{kept-none, kept-push, kept-renewable}
use Rattle.sr_delta.proofs.kept.kept_trees.Goals as goal

pub loop-u-init : goal.loop-u-init
loop-u-init c = (ap length c.in_ok-list.ensures.items, λ n m changes trees. rw c.in_ok-list.ensures.items (kept-none n m))

pub loop-u-preserved : goal.loop-u-preserved
loop-u-preserved c = (
  omega (arith, ap length c.in_ok-push.ensures.items, length_push c.loop-u.list.items c.tree_stays.result, c.loop-u.invariant.0),
  λ n m changes trees.
      rw c.in_ok-push.ensures.items (kept-push n m c.loop-u.u c.loop-u.list.items c.tree_stays.result (c.loop-u.invariant.1 n m changes trees) (c.tree_stays.ensures n m changes trees)),
)

pub returns : goal.returns
returns c =
    let kept : (n m : Net) → AreChanges n m c.args.changes.now → AreTrees n.graph c.args.old.now → AreKeptTrees n m c.loop-u.list.items = λ n m changes trees.
    let end : c.loop-u.u ≡ node_count n.graph = omega (arith, c.loop-u-test.false, c.loop-u.auto.u-end, c.node_count-count.ensures.count, c.node_count-count.ensures.few, trees.long) in
    subst (λ k. AreTreesKeptBelow n m k c.loop-u.list.items) end (c.loop-u.invariant.1 n m changes trees) in
    record {
      long = omega (arith, c.loop-u.invariant.0, c.loop-u-test.false, c.loop-u.auto.u-end, c.node_count-count.ensures.count, c.node_count-count.ensures.few);
      kept = kept;
      renewable = λ n m changes trees same.
          kept-renewable n m c.args.old.now c.args.changes.now.partners c.loop-u.list.items
          (record { old = changes.old.graph; new = changes.new.graph; named = changes.old.named; named' = changes.new.named; partners = changes.partners same })
          (nodes-same n.graph m.graph (changes.nodes.0 same)) trees (kept n m changes trees);
    }
