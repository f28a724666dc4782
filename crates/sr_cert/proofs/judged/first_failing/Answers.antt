use Rattle.sr_cert.specs.declared.clause.Clause.TheVariants as clause
use Rattle.sr_cert.specs.Clauses.{CostsAddUp}
use Rattle.sr_cert.proofs.ToldLemmas.{holds}
use Rattle.sr_cert.proofs.SumLemmas.{sum-by_cell}
use Rattle.sr_cert.proofs.VerdictLemmas.{meets-none, meets-next, meets-all}
use Rattle.sr_cert.proofs.judged.first_failing.Goals as goal

pub returns : goal.returns
returns c =
    let first = holds c.begins_exact.result c.begins_exact.ensures c.if-not-begins_exact.false in
    let sum : CostsAddUp c.args.net.now c.args.x.now c.args.certificate.now =
    (sum-by_cell c.args.net.now c.args.x.now c.args.certificate.now c.requires.within.dest first).0 (holds c.adds_up.result c.adds_up.ensures c.if-not-adds_up.false) in
    meets-all c.args.net.now c.args.x.now c.args.certificate.now
    (meets-next c.args.net.now c.args.x.now c.args.certificate.now clause.Labels
    (meets-next c.args.net.now c.args.x.now c.args.certificate.now clause.Sum
    (meets-next c.args.net.now c.args.x.now c.args.certificate.now clause.Spaces
    (meets-next c.args.net.now c.args.x.now c.args.certificate.now clause.OtherRows
    (meets-next c.args.net.now c.args.x.now c.args.certificate.now clause.FirstRow
    (meets-next c.args.net.now c.args.x.now c.args.certificate.now clause.Form
    (meets-next c.args.net.now c.args.x.now c.args.certificate.now clause.Rows
    (meets-none c.args.net.now c.args.x.now c.args.certificate.now)
    (holds c.has_rows.result c.has_rows.ensures c.if-not-has_rows.false))
    (holds c.is_well_formed.result c.is_well_formed.ensures c.if-not-is_well_formed.false))
    first)
    (holds c.goes_on_exact.result c.goes_on_exact.ensures c.if-not-goes_on_exact.false))
    (holds c.stays_in_spaces.result c.stays_in_spaces.ensures c.if-not-stays_in_spaces.false))
    sum)
    (holds c.has_labels.result c.has_labels.ensures c.if-not-has_labels.false))
