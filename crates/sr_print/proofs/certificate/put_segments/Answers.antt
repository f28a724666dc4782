use Rattle.std.proofs.Common.{◌≡◌, ℕ, List, ◌++◌, take, ap, ◌∙◌, arith}
use Rattle.std.specs.List.{flat_map}
use Rattle.std.proofs.lemmas.List.{take_all}
use Rattle.sr_cert.specs.Draft.{segment_line}
use Rattle.sr_print.specs.Certificates.{cert_line}
use Rattle.sr_print.proofs.Certified.{segments-each}
use Rattle.sr_print.proofs.Appended.{begins-longer, on_err}
use Rattle.sr_print.proofs.certificate.put_segments.Goals as goal

pub returns-in_err-put_segment-clause-err : goal.returns-in_err-put_segment-clause-err
returns-in_err-put_segment-clause-err c = on_err c.from_residual.result (begins-longer _ _ _ _ c.loop-segment.invariant c.in_err-put_segment.ensures.err)

pub returns-clause-line : goal.returns-clause-line
returns-clause-line c =
    let all : take c.loop-segment.segment-index c.args.segments.now ≡ c.args.segments.now = take_all c.loop-segment.segment-index c.args.segments.now (omega arith) in
    c.loop-segment.invariant
    ∙ ap (λ segments. c.args.out.now.items ++ flat_map (λ s. cert_line c.args.net.now (segment_line s)) segments) all
    ∙ ap (λ (t : List ℕ). c.args.out.now.items ++ t) (segments-each c.args.net.now c.args.segments.now)
