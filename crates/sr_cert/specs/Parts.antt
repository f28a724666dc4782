-- The lines of a draft, taken apart.
use Rattle.std.specs.Prelude.{◌≡◌, ℕ, List, [], ◌∷◌, ◌++◌, Bool, true, false, map, Option, Some, None}
use Rattle.sr_model.specs.declared.repair.Segment.{Segment}
use Rattle.sr_cert.specs.declared.draft.CertLine.{CertLine}
use Rattle.sr_cert.specs.declared.draft.CertLine.TheVariants.{Via, Row}
use Rattle.sr_cert.specs.declared.parts.Pieces.{Pieces}
use Rattle.sr_cert.specs.Draft.{segment_line}

-- the lines of segments, and behind them those of rows
abbrev pub body_lines : List Segment → List (List ℕ) → List CertLine
body_lines segments rows = map segment_line segments ++ map Row rows

-- with one more line, true: these are the segments and rows; false: no segments and rows have a line more there
abbrev pub IsPutWith : List CertLine → CertLine → Bool → List Segment → List (List ℕ) → Type 0
IsPutWith lines line true segments rows = body_lines segments rows ≡ lines ++ line ∷ []
IsPutWith lines line false segments rows =
    (rest : List CertLine) (s : List Segment) (r : List (List ℕ)) → body_lines s r ≡ lines ++ line ∷ rest → ⊥

-- the lines of a first link, segments and rows
abbrev pub part_lines : Pieces → List CertLine
part_lines p = Via p.first ∷ body_lines p.segments p.rows

-- the parts whose lines these are, or none where they are those of no parts
abbrev pub ArePartsOf : List CertLine → Option Pieces → Type 0
ArePartsOf lines None = (p : Pieces) → part_lines p ≡ lines → ⊥
ArePartsOf lines (Some p) = part_lines p ≡ lines
