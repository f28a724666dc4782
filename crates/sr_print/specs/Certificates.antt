-- Certificates as lines, each with its line feed: those that a script says to have the certificate tested.
use Rattle.std.specs.Prelude.{ℕ, ◌==◌, if◌then◌else◌, List, ◌++◌, codes, decimal}
use Rattle.std.specs.List.{flat_map}
use Rattle.sr_model.specs.declared.link.TheConstants.{FAR}
use Rattle.sr_model.specs.declared.repair.Answer.{Answer}
use Rattle.sr_model.specs.Graph.{system_at}
use Rattle.sr_model.specs.Label.{Net}
use Rattle.sr_cert.specs.declared.certificate.Certificate.{Certificate}
use Rattle.sr_cert.specs.declared.clause.Verdict.{Verdict}
use Rattle.sr_cert.specs.declared.clause.Verdict.TheVariants.{Accepted, Rejected}
use Rattle.sr_cert.specs.declared.draft.CertLine.{CertLine}
use Rattle.sr_cert.specs.declared.draft.CertLine.TheVariants.{Via, NodeSegment, AdjSegment, Row}
use Rattle.sr_cert.specs.Clauses.{clause_number}
use Rattle.sr_cert.specs.Draft.{lines_of}
use Rattle.sr_print.specs.Links.{named_link}
use Rattle.sr_print.specs.Printed.{ended, node_word, numbered, word}
use Rattle.sr_print.specs.Repairs.{kind_name, labels_behind, uncovered_text}

-- a cell of a row as one more word: a distance, or `-` where there is no walk
unfoldable pub cell_word : ℕ → List ℕ
cell_word cell = word (if cell == FAR then codes "-" else decimal cell)

-- the line that opens a certificate: its failure, and its destination
abbrev pub opening_line : Net → Certificate → List ℕ
opening_line n c =
    ended (codes "proof open " ++ kind_name c.case.kind ++ named_link n c.case.link.0
    ++ node_word (system_at n.graph c.dest.0))

-- a row of distances
abbrev pub row_line : List ℕ → List ℕ
row_line cells = ended (codes "proof row" ++ flat_map cell_word cells)

-- a line of a certificate between that and its labels
unfoldable pub cert_line : Net → CertLine → List ℕ
cert_line n (Via l) = ended (codes "proof via" ++ named_link n l.0)
cert_line n (NodeSegment v) = ended (codes "proof node" ++ node_word (system_at n.graph v.0))
cert_line n (AdjSegment l) = ended (codes "proof adj" ++ named_link n l.0)
cert_line n (Row cells) = row_line cells

-- the line that ends it: its labels, given with the top last, from the top down, or that there are none
abbrev pub done_line : List ℕ → List ℕ
done_line labels = ended (codes "proof done" ++ labels_behind labels)

-- the lines of a certificate
abbrev pub certificate_lines : Net → Certificate → List ℕ
certificate_lines n c = opening_line n c ++ flat_map (cert_line n) (lines_of c) ++ done_line c.labels

-- why there is no repair of which there could be a certificate
abbrev pub prove_uncovered_line : Answer → List ℕ
prove_uncovered_line answer = ended (codes "prove" ++ uncovered_text answer)

-- how many lines are kept of the certificate that is being written
abbrev pub proof_line : ℕ → List ℕ
proof_line kept = ended (numbered (codes "proof ") kept)

-- what is decided of a certificate: its cost, or the number of the first clause that it doesn't meet
abbrev pub verdict_line : Verdict → List ℕ
verdict_line (Accepted cost) = ended (numbered (codes "accepted cost ") cost)
verdict_line (Rejected clause) = ended (numbered (codes "rejected ") (clause_number clause))
