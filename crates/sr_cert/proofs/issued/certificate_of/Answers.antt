use Rattle.std.proofs.Common.{refl, ◌∙◌}
use Rattle.sr_repair.proofs.StackLemmas.{list-labels}
use Rattle.sr_cert.proofs.CertifyLemmas.{certificate-is}
use Rattle.sr_cert.proofs.issued.certificate_of.Goals as goal

pub certificate_rows-requires-clause-segments : goal.certificate_rows-requires-clause-segments
certificate_rows-requires-clause-segments g c =
    rw c.list-segments.ensures
    (list-labels c.args.version.now.net c.args.case c.args.destination.0 c.args.list c.requires.answer.1).1

pub returns-clause-certificate : goal.returns-clause-certificate
returns-clause-certificate g c =
    certificate-is c.args.version.now.net c.args.case c.args.destination.0 c.args.list _
    c.requires.answer.0 c.requires.answer.1 refl refl refl (c.new.ensures ∙ (c.in_ok-from_slice.ensures.items ∙ c.list-segments.ensures))
    (rw c.list-segments.ensures at c.in_ok-rows.ensures.rows) c.requires.labels
