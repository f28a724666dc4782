-- The lines of a certificate, piece by piece.
use Rattle.std.proofs.Common.{◌≡◌, ℕ, List, [], ◌∷◌, ◌++◌, map, refl, sym, ap, ◌∙◌, append_assoc}
use Rattle.std.specs.List.{flat_map}
use Rattle.std.proofs.lemmas.Grind.{flat_map-append}
use Rattle.sr_model.specs.declared.repair.Segment.{Segment}
use Rattle.sr_model.specs.Label.{Net}
use Rattle.sr_cert.specs.declared.certificate.Certificate.{Certificate}
use Rattle.sr_cert.specs.declared.draft.CertLine.TheVariants.{Row, Via}
use Rattle.sr_cert.specs.Draft.{lines_of, segment_line}
use Rattle.sr_print.specs.Certificates.{cert_line, row_line}

-- a line for each segment
pub segments-each : (n : Net) (segments : List Segment) → flat_map (λ s. cert_line n (segment_line s)) segments ≡ flat_map (cert_line n) (map segment_line segments)
segments-each n [] = refl
segments-each n (s ∷ ss) = ap (λ t. cert_line n (segment_line s) ++ t) (segments-each n ss)

-- a line for each row
pub rows-each : (n : Net) (rows : List (List ℕ)) → flat_map row_line rows ≡ flat_map (cert_line n) (map Row rows)
unfolding cert_line
rows-each n [] = refl
rows-each n (row ∷ rows) = ap (λ t. row_line row ++ t) (rows-each n rows)

-- the first link, the segments and the rows are the lines
pub lines-told : (n : Net) (c : Certificate) → cert_line n (Via c.first) ++ flat_map (cert_line n) (map segment_line c.segments) ++ flat_map row_line c.rows ≡ flat_map (cert_line n) (lines_of c)
lines-told n c =
    let first = cert_line n (Via c.first) in
    let segments = flat_map (cert_line n) (map segment_line c.segments) in
    ap (λ t. first ++ segments ++ t) (rows-each n c.rows)
    ∙ append_assoc first segments (flat_map (cert_line n) (map Row c.rows))
    ∙ ap (λ t. first ++ t) (sym (flat_map-append (cert_line n) (map segment_line c.segments) (map Row c.rows)))
