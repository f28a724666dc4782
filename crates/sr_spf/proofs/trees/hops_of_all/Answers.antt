use Rattle.std.proofs.Common.{sym, subst}
use Rattle.std.proofs.lemmas.Result.{IfOk-weaker}
use Rattle.sr_model.specs.Graph.{node_count}
use Rattle.sr_spf.specs.Trees.{AreHopTables}
use Rattle.sr_spf.proofs.TreesLemmas.{hops-in_order}
use Rattle.sr_spf.proofs.trees.hops_of_all.Goals as goal

pub returns : goal.returns
returns g c =
    IfOk-weaker c.of.result _ _
    (λ hops is. subst (λ k. AreHopTables c.args.graph.now k (node_count c.args.graph.now)) (sym is) (hops-in_order c.args.graph.now c.in_ok-tables.tables.items (rw (← c.node_count.ensures.count) c.in_ok-tables.ensures)))
    c.of.ensures
