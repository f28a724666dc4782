use Rattle.std.proofs.Common.{arith}
use Rattle.sr_cert.specs.Clauses.{HasRows, begin_of}
use Rattle.sr_cert.proofs.ToldLemmas.{refused}
use Rattle.sr_cert.proofs.WalkedLemmas.{headings-length}
use Rattle.sr_cert.proofs.form.has_rows.Goals as goal

pub returns-then-rows-rows_wanted : goal.returns-then-rows-rows_wanted
returns-then-rows-rows_wanted c =
    refused (λ (has : HasRows c.args.net.now c.args.certificate.now).
    let long = headings-length c.args.net.now.graph (begin_of c.args.net.now c.args.certificate.now) c.args.certificate.now.segments c.args.certificate.now.dest.0 in
    c.if-rows-rows_wanted.true (rw (c.as_slice-rows.ensures, c.rows_wanted.ensures, c.as_slice.ensures) (omega (arith, has.count, long))))

pub returns : goal.returns
returns c =
    let long = headings-length c.args.net.now.graph (begin_of c.args.net.now c.args.certificate.now) c.args.certificate.now.segments c.args.certificate.now.dest.0 in
    let count = rw (c.as_slice-rows.ensures, c.rows_wanted.ensures, c.as_slice.ensures) at c.if-rows-rows_wanted.false in
    let each = rw (c.as_slice-rows.ensures, c.node_count.ensures.count, c.graph.ensures.value) at c.have_length.ensures in
    (λ yes. record { count = omega (arith, count, long); each = each.0 yes }, λ has. each.1 has.each)
