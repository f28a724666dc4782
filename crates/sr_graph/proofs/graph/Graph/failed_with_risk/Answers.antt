use Rattle.std.proofs.Common.{◌≡◌, arith, length}
use Rattle.std.proofs.lemmas.Bool.Decides.{nat_tests}
use Rattle.sr_graph.proofs.FailedLemmas.{failed-risk, failed-no_group}
use Rattle.sr_graph.proofs.graph.Graph.failed_with_risk.Goals as goal
use Rattle.sr_graph.proofs.graph.Graph.failed_with_risk.Goals.{then-not-is_empty+in_ok-add_sharing_in_range+in_ok-add_sharing_listed, else-not-is_empty}

pub returns : goal.returns
returns c =
    elim c.if-not-is_empty.branch [
      | then-not-is_empty+in_ok-add_sharing_in_range+in_ok-add_sharing_listed w ↦
          rw w.set-is (failed-risk c.args.self.now c.args.protected w.edge.result.from.0 w.links_from.result.first w.links_from.result.end _ c.in_ok-set.set w.add_sharing_in_range.new.set w.add_sharing_listed.new.set w.edge.ensures.from w.links_from.ensures.links w.links_to.ensures.links c.in_ok-set.ensures w.in_ok-add_sharing_in_range.ensures w.in_ok-add_sharing_listed.ensures)
      | else-not-is_empty w ↦
          let none : length c.groups.result.now ≡ 0 = grind (arith, nat_tests) in
          rw w.set-is (failed-no_group c.args.self.now c.args.protected c.in_ok-set.set (rw c.groups.ensures.groups at none) c.in_ok-set.ensures)
    ]
