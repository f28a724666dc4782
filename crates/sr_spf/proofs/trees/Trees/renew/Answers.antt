use Rattle.std.proofs.Common.{sym, subst}
use Rattle.sr_model.specs.Graph.{node_count}
use Rattle.sr_spf.specs.Trees.{Forest, AreHopTables}
use Rattle.sr_spf.specs.Renewed.{AreRenewable}
use Rattle.sr_spf.proofs.RenewedLemmas.{tables-kept, tables-moved}
use Rattle.sr_spf.proofs.TreesLemmas.{trees-whole}
use Rattle.sr_spf.proofs.trees.Trees.renew.Goals as goal
use Rattle.sr_spf.proofs.trees.Trees.renew.Goals.{then-are_in_place+in_ok-hops, else-are_in_place+in_ok-hops-2}

pub kept_tables-requires-clause-old : goal.kept_tables-requires-clause-old
kept_tables-requires-clause-old g c = λ κs below.
    tables-kept _ _ _ _ c.self.invariant (subst (λ (t : Forest). AreRenewable c.args.graph.now t c.args.renewal.now.stays.items c.args.links.now) (sym c.self.view_is) c.requires.stays) (c.are_in_place.ensures c.if-are_in_place.true)

pub moved_tables-requires-clause-old : goal.moved_tables-requires-clause-old
moved_tables-requires-clause-old g c = λ κs below.
    tables-moved _ _ _ _ c.self.invariant (subst (λ (t : Forest). AreRenewable c.args.graph.now t c.args.renewal.now.stays.items c.args.links.now) (sym c.self.view_is) c.requires.stays)

pub returns-clause-trees : goal.returns-clause-trees
returns-clause-trees g c =
    let hops : AreHopTables c.args.graph.now c.if-are_in_place.hops (node_count c.args.graph.now) = elim c.if-are_in_place.branch [
      | then-are_in_place+in_ok-hops w ↦ rw w.hops-is w.in_ok-hops.ensures
      | else-are_in_place+in_ok-hops-2 w ↦ rw w.hops-is w.in_ok-hops-2.ensures
    ] in
    trees-whole _ _ _ _ c.in_ok-rows.ensures.rows hops c.in_ok-carried.ensures
