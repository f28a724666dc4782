use Rattle.std.proofs.Common.{refl, sym, ◌∙◌}
use Rattle.sr_cert.proofs.ToldLemmas.{refused, stops-here}
use Rattle.sr_cert.proofs.WalkedLemmas.{clear-at}
use Rattle.sr_cert.proofs.form.is_clear.Goals as goal

pub returns-then-not-carries : goal.returns-then-not-carries
returns-then-not-carries c =
    refused (stops-here (clear-at c.args.net.now c.args.segments.now c.loop-segment.segment-index c.loop-segment-test.true c.loop-segment.at.0 _ refl c.args.d.0) c.loop-segment.invariant
    (λ yes. let no = sym c.carries.ensures ∙ c.if-not-carries.true in absurd (cc)))
