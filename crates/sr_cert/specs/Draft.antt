-- A certificate that is being written, line by line.
use Rattle.std.specs.Prelude.{◌≡◌, ℕ, ◌+◌, ◌<◌, List, [], ◌∷◌, ◌++◌, length, map, Option, Some, None}
use Rattle.sr_model.specs.declared.case.Case.{Case}
use Rattle.sr_model.specs.declared.link.NodeNo.{NodeNo}
use Rattle.sr_model.specs.declared.repair.Segment.{Segment}
use Rattle.sr_model.specs.declared.repair.Segment.TheVariants.{Node, Adj}
use Rattle.sr_model.specs.Graph.{node_count, link_count}
use Rattle.sr_model.specs.Label.{Net}
use Rattle.sr_model.specs.Case.{IsCase}
use Rattle.std.specs.List.{All}
use Rattle.sr_cert.specs.declared.certificate.Certificate.{Certificate}
use Rattle.sr_cert.specs.declared.draft.CertLine.{CertLine}
use Rattle.sr_cert.specs.declared.draft.CertLine.TheVariants.{Via, NodeSegment, AdjSegment, Row}

-- a certificate that is being written: its case and destination, and the lines that were kept since
pub record CertDraft : Type 0 where
  pub case : Case
  pub dest : NodeNo
  pub lines : List CertLine

-- how many lines are kept, the one that opened it included
abbrev pub kept_lines : CertDraft → ℕ
kept_lines draft = length draft.lines + 1

-- after one more line is kept
abbrev pub with_line : CertDraft → CertLine → CertDraft
with_line draft line = record draft { lines = draft.lines ++ line ∷ [] }

-- the line of a segment
abbrev pub segment_line : Segment → CertLine
segment_line (Node v) = NodeSegment v
segment_line (Adj l) = AdjSegment l

-- the lines of a certificate between the one that opens it and its labels: its first link, its segments, its rows
abbrev pub lines_of : Certificate → List CertLine
lines_of c = Via c.first ∷ map segment_line c.segments ++ map Row c.rows

-- the certificate that the draft and these labels, the top last, write
pub record IsWritten (draft : CertDraft) (labels : List ℕ) (c : Certificate) : Type 0 where
  pub case : c.case ≡ draft.case
  pub dest : c.dest ≡ draft.dest
  pub lines : lines_of c ≡ draft.lines
  pub labels_are : c.labels ≡ labels

-- that certificate, or none where the lines are those of no certificate
abbrev pub IsFinished : CertDraft → List ℕ → Option Certificate → Type 0
IsFinished draft labels None = (c : Certificate) → IsWritten draft labels c → ⊥
IsFinished draft labels (Some c) = IsWritten draft labels c

-- the node or link of a line is one of the net
abbrev pub IsLineWithin : Net → CertLine → Type 0
IsLineWithin n (Via l) = l.0 < link_count n.graph
IsLineWithin n (NodeSegment v) = v.0 < node_count n.graph
IsLineWithin n (AdjSegment l) = l.0 < link_count n.graph
IsLineWithin n (Row cells) = Unit {0}

-- the nodes and links of a draft are those of the net
pub record IsDraftWithin (n : Net) (draft : CertDraft) : Type 0 where
  pub case : IsCase n.graph draft.case
  pub dest : draft.dest.0 < node_count n.graph
  pub lines : All (IsLineWithin n) draft.lines
