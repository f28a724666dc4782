use Rattle.sr_cert.proofs.LabelLemmas.{usable-labels}
use Rattle.sr_cert.proofs.WalkedLemmas.{within-each}
use Rattle.sr_cert.proofs.labelled.has_labels.Goals as goal

pub are_labels-requires-clause-segments : goal.are_labels-requires-clause-segments
are_labels-requires-clause-segments c =
    rw c.as_slice-segments.ensures
    (usable-labels c.args.net.now c.requires.form.0 _ c.args.certificate.now.segments c.requires.form.1.usable (within-each c.args.net.now c.args.certificate.now.segments c.requires.within.segments))
