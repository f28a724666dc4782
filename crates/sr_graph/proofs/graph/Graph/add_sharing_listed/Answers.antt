use Rattle.std.proofs.Common.{◌≡◌, ◌<◌, true, false, length, sym, ◌∙◌, arith}
use Rattle.sr_graph.specs.Members.{number_at}
use Rattle.sr_graph.proofs.FailedLemmas.{sharing-more, sharing-skip}
use Rattle.sr_graph.proofs.graph.Graph.add_sharing_listed.Goals as goal
use Rattle.sr_graph.proofs.graph.Graph.add_sharing_listed.Goals.{then-shares+in_ok-add, else-shares}

pub loop-link-preserved : goal.loop-link-preserved
loop-link-preserved c =
    elim c.if-shares.branch [
      | then-shares+in_ok-add w ↦
          let within : number_at c.args.links.now c.loop-link.link-index < length c.args.set.now = rw c.requires.long (c.requires.within c.loop-link.link-index (omega arith)) in
          rw (w.set-is, w.in_ok-add.ensures) (sharing-more c.args.self.now c.args.protected.0 c.args.links.now c.loop-link.link-index c.args.set.now c.loop-link.set within (c.shares.ensures.0 w.if-shares.true) c.loop-link.invariant)
      | else-shares w ↦
          rw w.set-is (sharing-skip c.args.self.now c.args.protected.0 c.args.links.now c.loop-link.link-index c.args.set.now c.loop-link.set
          (λ shared. let bad : false ≡ true = sym w.if-shares.false ∙ c.shares.ensures.1 shared in cc) c.loop-link.invariant)
    ]
