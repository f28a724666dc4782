use Rattle.std.proofs.Common.{subst}
use Rattle.std.proofs.lemmas.Result.{IfOk-weaker}
use Rattle.sr_model.specs.Walk.{IsRow}
use Rattle.sr_model.specs.Case.{source_of}
use Rattle.sr_laws.proofs.Failures.{failed-one}
use Rattle.sr_cert.proofs.taken.row_without.Goals as goal

pub returns-clause-row : goal.returns-clause-row
returns-clause-row g c =
    let graph = c.args.graph.now in
    let case = c.args.case in
    IfOk-weaker c.row.result _ _
    (λ cells row x set. subst (λ y. IsRow graph y (source_of graph case) cells) (failed-one graph case _ x c.in_ok-failed.ensures set) row)
    (rw c.edge.ensures.from at c.row.ensures.row)
