-- Lines of a draft: at most one first link, segments and rows have them.
use Rattle.std.proofs.Common.{◌≡◌, ℕ, List, [], ◌∷◌, ◌++◌, map, length, ◌==◌, ap, sym, ◌∙◌, subst, refl, Bool, true, false}
use Rattle.sr_model.specs.declared.link.LinkNo.{LinkNo}
use Rattle.sr_model.specs.declared.repair.Segment.{Segment}
use Rattle.sr_model.specs.declared.repair.Segment.TheVariants.{Node, Adj}
use Rattle.sr_cert.specs.declared.draft.CertLine.{CertLine}
use Rattle.sr_cert.specs.declared.draft.CertLine.TheVariants.{Via, NodeSegment, AdjSegment, Row}
use Rattle.sr_cert.specs.Draft.{segment_line}
use Rattle.sr_cert.specs.Laws.{DraftsWriteOne}
use Rattle.sr_cert.specs.Parts.{body_lines}

-- the segments among the lines
segments_in : List CertLine → List Segment
segments_in [] = []
segments_in (Via l ∷ rest) = segments_in rest
segments_in (NodeSegment v ∷ rest) = Node v ∷ segments_in rest
segments_in (AdjSegment l ∷ rest) = Adj l ∷ segments_in rest
segments_in (Row cells ∷ rest) = segments_in rest

-- the rows among the lines
rows_in : List CertLine → List (List ℕ)
rows_in [] = []
rows_in (Via l ∷ rest) = rows_in rest
rows_in (NodeSegment v ∷ rest) = rows_in rest
rows_in (AdjSegment l ∷ rest) = rows_in rest
rows_in (Row cells ∷ rest) = cells ∷ rows_in rest

segments-rows : (rows : List (List ℕ)) → segments_in (map Row rows) ≡ []
unfolding segments_in
segments-rows [] = refl
segments-rows (row ∷ rows) = segments-rows rows

segments-body : (s : List Segment) (rows : List (List ℕ)) → segments_in (body_lines s rows) ≡ s
unfolding segments_in
segments-body [] rows = segments-rows rows
segments-body (Node v ∷ s) rows = ap (λ (t : List Segment). Node v ∷ t) (segments-body s rows)
segments-body (Adj l ∷ s) rows = ap (λ (t : List Segment). Adj l ∷ t) (segments-body s rows)

rows-rows : (rows : List (List ℕ)) → rows_in (map Row rows) ≡ rows
unfolding rows_in
rows-rows [] = refl
rows-rows (row ∷ rows) = ap (λ (t : List (List ℕ)). row ∷ t) (rows-rows rows)

rows-body : (s : List Segment) (rows : List (List ℕ)) → rows_in (body_lines s rows) ≡ rows
unfolding rows_in
rows-body [] rows = rows-rows rows
rows-body (Node v ∷ s) rows = rows-body s rows
rows-body (Adj l ∷ s) rows = rows-body s rows

-- segments and rows are told by their lines
pub body-one : (s t : List Segment) (a b : List (List ℕ)) → body_lines s a ≡ body_lines t b → (s ≡ t) × (a ≡ b)
body-one s t a b e =
    (sym (segments-body s a) ∙ (ap segments_in e ∙ segments-body t b), sym (rows-body s a) ∙ (ap rows_in e ∙ rows-body t b))

-- a draft and labels write at most one certificate
pub drafts-write-one : DraftsWriteOne
drafts-write-one draft labels one two p q =
    let e : Via one.first ∷ body_lines one.segments one.rows ≡ Via two.first ∷ body_lines two.segments two.rows = p.lines ∙ sym q.lines in
    let first : one.first ≡ two.first = cc in
    let body : body_lines one.segments one.rows ≡ body_lines two.segments two.rows = cc in
    let both = body-one one.segments two.segments one.rows two.rows body in
    let case : one.case ≡ two.case = p.case ∙ sym q.case in
    let dest : one.dest ≡ two.dest = p.dest ∙ sym q.dest in
    let labels_same : one.labels ≡ two.labels = p.labels_are ∙ sym q.labels_are in
    let same : record { case = one.case; dest = one.dest; first = one.first; segments = one.segments; rows = one.rows; labels = one.labels } ≡ record { case = two.case; dest = two.dest; first = two.first; segments = two.segments; rows = two.rows; labels = two.labels } = rw (case, dest, first, both.0, both.1, labels_same) refl in
    same

-- the lines are rows
abbrev AreRows : List CertLine → Type 0
AreRows [] = Unit {0}
AreRows (Row cells ∷ rest) = AreRows rest
AreRows (_ ∷ rest) = ⊥

-- behind a row there are only rows, and no line is a first link
abbrev IsInOrder : List CertLine → Type 0
IsInOrder [] = Unit {0}
IsInOrder (Via l ∷ rest) = ⊥
IsInOrder (NodeSegment v ∷ rest) = IsInOrder rest
IsInOrder (AdjSegment l ∷ rest) = IsInOrder rest
IsInOrder (Row cells ∷ rest) = AreRows rest

-- no row
abbrev pub is_row : CertLine → Bool
is_row (Row cells) = true
is_row _ = false

rows-are : (rows : List (List ℕ)) → AreRows (map Row rows)
rows-are [] = tt
rows-are (row ∷ rows) = rows-are rows

rows-ordered : (rows : List (List ℕ)) → IsInOrder (map Row rows)
rows-ordered [] = tt
rows-ordered (row ∷ rows) = rows-are rows

body-ordered : (s : List Segment) (rows : List (List ℕ)) → IsInOrder (body_lines s rows)
body-ordered [] rows = rows-ordered rows
body-ordered (Node v ∷ s) rows = body-ordered s rows
body-ordered (Adj l ∷ s) rows = body-ordered s rows

rows-no_other : (rows : List (List ℕ)) (line : CertLine) (rest : List CertLine) → is_row line ≡ false → AreRows (map Row rows ++ line ∷ rest) → ⊥
rows-no_other [] (Via l) rest e are = are
rows-no_other [] (NodeSegment v) rest e are = are
rows-no_other [] (AdjSegment l) rest e are = are
rows-no_other [] (Row cells) rest e are = absurd {0} (cc)
rows-no_other (row ∷ rows) line rest e are = rows-no_other rows line rest e are

row-no_other : (s : List Segment) (row : List ℕ) (rows : List (List ℕ)) (line : CertLine) (rest : List CertLine) → is_row line ≡ false → IsInOrder ((map segment_line s ++ Row row ∷ map Row rows) ++ line ∷ rest) → ⊥
row-no_other [] row rows line rest e are = rows-no_other rows line rest e are
row-no_other (Node v ∷ s) row rows line rest e are = row-no_other s row rows line rest e are
row-no_other (Adj l ∷ s) row rows line rest e are = row-no_other s row rows line rest e are

-- behind a row no line stands but rows
pub behind-row : (s : List Segment) (row : List ℕ) (rows : List (List ℕ)) (line : CertLine) (rest : List CertLine) → is_row line ≡ false → (t : List Segment) (r : List (List ℕ)) → body_lines t r ≡ body_lines s (row ∷ rows) ++ line ∷ rest → ⊥
behind-row s row rows line rest is t r e = row-no_other s row rows line rest is (subst IsInOrder e (body-ordered t r))

rows-no_via : (rows : List (List ℕ)) (l : LinkNo) (rest : List CertLine) → IsInOrder (map Row rows ++ Via l ∷ rest) → ⊥
rows-no_via [] l rest are = are
rows-no_via (row ∷ rows) l rest are = rows-no_other rows (Via l) rest refl are

body-no_via : (s : List Segment) (rows : List (List ℕ)) (l : LinkNo) (rest : List CertLine) → IsInOrder (body_lines s rows ++ Via l ∷ rest) → ⊥
body-no_via [] rows l rest are = rows-no_via rows l rest are
body-no_via (Node v ∷ s) rows l rest are = body-no_via s rows l rest are
body-no_via (Adj k ∷ s) rows l rest are = body-no_via s rows l rest are

-- a first link stands nowhere among segments and rows
pub behind-via : (s : List Segment) (rows : List (List ℕ)) (l : LinkNo) (rest : List CertLine) (t : List Segment) (r : List (List ℕ)) → body_lines t r ≡ body_lines s rows ++ Via l ∷ rest → ⊥
behind-via s rows l rest t r e = body-no_via s rows l rest (subst IsInOrder e (body-ordered t r))

segment-no_row : (s : Segment) → is_row (segment_line s) ≡ false
segment-no_row (Node v) = refl
segment-no_row (Adj l) = refl

-- where there is a row, no segment stands behind it
pub behind-rows : (s : List Segment) (rows : List (List ℕ)) (segment : Segment) (rest : List CertLine) → false ≡ (length rows == 0) → (t : List Segment) (r : List (List ℕ)) → body_lines t r ≡ body_lines s rows ++ segment_line segment ∷ rest → ⊥
behind-rows s [] segment rest some t r e = absurd {0} (let bad : false ≡ true = some in cc)
behind-rows s (row ∷ rows) segment rest some t r e = behind-row s row rows (segment_line segment) rest (segment-no_row segment) t r e
