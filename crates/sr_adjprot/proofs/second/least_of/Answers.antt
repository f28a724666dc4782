use Rattle.std.proofs.Common.{◌∙◌, ap, Some}
use Rattle.sr_adjprot.proofs.BackupLemmas.{least-take}
use Rattle.sr_adjprot.proofs.second.least_of.Goals as goal
use Rattle.sr_adjprot.proofs.second.least_of.Goals.{in-None, in-Some}

pub loop-label-preserved : goal.loop-label-preserved
loop-label-preserved c =
    least-take c.args.labels.now c.loop-label.label-index c.loop-label.found c.match-found.found c.loop-label-test.true
    (elim c.match-found.branch [ in-None w ↦ rw w.in-None.is w.found-is | in-Some w ↦ rw w.in-Some.is (w.found-is ∙ ap Some w.min.ensures) ])
    c.loop-label.invariant
