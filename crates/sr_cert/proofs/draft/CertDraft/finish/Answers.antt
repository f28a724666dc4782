use Rattle.std.proofs.Common.{sym, ap, ◌∙◌}
use Rattle.sr_cert.specs.Draft.{CertDraft}
use Rattle.sr_cert.proofs.draft.CertDraft.finish.Goals as goal

pub returns-in-None : goal.returns-in-None
returns-in-None c = λ cert w.
    let h = rw c.in-None.is at c.in_ok-parts.ensures in
    h (record { first = cert.first; segments = cert.segments; rows = cert.rows })
    (w.lines ∙ sym (ap (λ (d : CertDraft). d.lines) c.self.view_is))
