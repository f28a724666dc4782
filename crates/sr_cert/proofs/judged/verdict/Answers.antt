use Rattle.sr_cert.specs.declared.clause.Clause.TheVariants as clause
use Rattle.sr_cert.proofs.VerdictLemmas.{meets-accepted, accepted-worth}
use Rattle.sr_cert.proofs.judged.verdict.Goals as goal

pub whole_cell-requires : goal.whole_cell-requires
whole_cell-requires c = record { net = (c.args.net.now, c.requires, c.in-None.ensures clause.Rows) }

pub returns-clause-verdict : goal.returns-clause-verdict
returns-clause-verdict c =
    rw c.whole_cell.ensures
    (meets-accepted c.args.net.now c.in_ok-failed.failed c.args.certificate.now c.requires (rw c.graph.ensures.value at c.in_ok-failed.ensures) c.in-None.ensures)

pub returns-clause-delivers : goal.returns-clause-delivers
returns-clause-delivers c =
    rw c.whole_cell.ensures
    (accepted-worth c.args.net.now c.graph.ensures.net c.args.certificate.now _ c.requires (meets-accepted c.args.net.now c.in_ok-failed.failed c.args.certificate.now c.requires (rw c.graph.ensures.value at c.in_ok-failed.ensures) c.in-None.ensures))
