use Rattle.std.proofs.Common.{◌≡◌, ◌++◌, List, ℕ, map, ap, ◌∙◌}
use Rattle.std.specs.List.{flat_map}
use Rattle.std.proofs.lemmas.Result.{on_ok_weaker}
use Rattle.sr_model.specs.declared.repair.Segment.{Segment}
use Rattle.sr_cert.specs.declared.draft.CertLine.TheVariants.{Via}
use Rattle.sr_cert.specs.Draft.{segment_line}
use Rattle.sr_print.specs.Certificates.{cert_line, row_line}
use Rattle.sr_print.proofs.Appended.{three_pieces}
use Rattle.sr_print.proofs.Certified.{lines-told}
use Rattle.sr_print.proofs.certificate.put_lines.Goals as goal

pub returns-clause-line : goal.returns-clause-line
unfolding cert_line
returns-clause-line c =
    let net = c.args.net.now in
    let old = c.args.out.now.items in
    let certificate = c.args.certificate.now in
    let segments : c.put_segments.new.out.items ≡ c.put_link_line.new.out.items ++ flat_map (cert_line net) (map segment_line certificate.segments) =
    c.in_ok-put_segments.ensures.line ∙ ap (λ (ss : List Segment). c.put_link_line.new.out.items ++ flat_map (cert_line net) (map segment_line ss)) c.as_slice.ensures in
    on_ok_weaker c.put_rows.result
    (λ last. three_pieces old c.put_link_line.new.out.items c.put_segments.new.out.items c.put_rows.new.out.items
    (cert_line net (Via certificate.first)) (flat_map (cert_line net) (map segment_line certificate.segments)) (flat_map row_line certificate.rows)
    c.in_ok-put_link_line.ensures.line segments (last ∙ ap (λ (rows : List (List ℕ)). c.put_segments.new.out.items ++ flat_map row_line rows) c.as_slice-2.ensures)
    ∙ ap (λ (t : List ℕ). old ++ t) (lines-told net certificate))
    c.put_rows.ensures.line
