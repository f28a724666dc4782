-- the segments so far stand behind
use Rattle.std.proofs.Common.{◌≡◌, ◌++◌, take}
use Rattle.std.specs.List.{flat_map}
use Rattle.sr_cert.specs.Draft.{segment_line}
use Rattle.sr_print.specs.Certificates.{cert_line}
use Rattle.sr_print.proofs.certificate.put_segments.Given as goal

abbrev pub invariant-loop-segment : goal.invariant-loop-segment
invariant-loop-segment l = l.out.items ≡ l.fn.out.items ++ flat_map (λ s. cert_line l.net (segment_line s)) (take l.segment-index l.segments)
