use Rattle.sr_cert.proofs.DraftLemmas.{behind-via}
use Rattle.sr_cert.proofs.parts.put_line.Goals as goal

pub returns-in-Via : goal.returns-in-Via
returns-in-Via c = λ rest s r e.
    behind-via c.args.segments.now c.args.rows.now c.in-Via.field-0 rest s r (rw c.in-Via.is at e)
