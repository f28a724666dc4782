-- The order of lists is total, and there is one least list and one answer.
use Rattle.std.proofs.Common.{◌≡◌, ℕ, ◌<◌, ◌⊎◌, ⊎_elim, inl, inr, Bool, List, [], ◌∷◌, length, refl, arith, ap, sym, ◌∙◌, subst}
use Rattle.std.proofs.lemmas.Bool.{cases_order}
use Rattle.sr_model.specs.declared.case.Case.{Case}
use Rattle.sr_model.specs.declared.repair.Segment.{Segment}
use Rattle.sr_model.specs.declared.repair.Segment.TheVariants.{Node, Adj}
use Rattle.sr_model.specs.declared.repair.RepairList.{RepairList}
use Rattle.sr_model.specs.declared.repair.Answer.{Answer}
use Rattle.sr_model.specs.declared.repair.Answer.TheVariants.{Least, NoPath, NoList, TooDeep}
use Rattle.sr_model.specs.Case.{source_of}
use Rattle.sr_model.specs.Label.{Net}
use Rattle.sr_model.specs.Repair.{Path, SegmentLt, SegmentsLt, PathLe, IsLeast, Fits, path_of, IsAnswer, IsCaseAnswer}
use Rattle.sr_laws.specs.Listed.{IsListed}
use Rattle.sr_walks.proofs.Distances.{distance-unique}
use Rattle.sr_laws.proofs.Order.{PathLe-antisym}
use Rattle.sr_laws.proofs.Failures.{failed-one}
use Rattle.sr_laws.proofs.Parts.{link_is, node_is}

segment_total : (a b : Segment) → SegmentLt a b ⊎ ((a ≡ b) ⊎ SegmentLt b a)
segment_total (Node a) (Node b) = ⊎_elim (λ e. inr (inl (ap Node (node_is a b e)))) (λ ne. ⊎_elim (λ (lt : a.0 < b.0). inl lt) (λ (gt : b.0 < a.0). inr (inr gt)) ne) (cases_order a.0 b.0)
segment_total (Node a) (Adj b) = inl tt
segment_total (Adj a) (Node b) = inr (inr tt)
segment_total (Adj a) (Adj b) = ⊎_elim (λ e. inr (inl (ap Adj (link_is a b e)))) (λ ne. ⊎_elim (λ (lt : a.0 < b.0). inl lt) (λ (gt : b.0 < a.0). inr (inr gt)) ne) (cases_order a.0 b.0)

segments_total : (ps bs : List Segment) → length ps ≡ length bs → SegmentsLt ps bs ⊎ ((ps ≡ bs) ⊎ SegmentsLt bs ps)
segments_total [] [] e = inr (inl refl)
segments_total [] (b ∷ bs) e = absurd (omega (arith, e))
segments_total (a ∷ ps) [] e = absurd (omega (arith, e))
segments_total (a ∷ ps) (b ∷ bs) e =
    ⊎_elim
    (λ lt. inl (inl lt))
    (λ rest. ⊎_elim
    (λ same. ⊎_elim
    (λ lt. inl (inr (same, lt)))
    (λ more. ⊎_elim
    (λ eq. inr (inl (cc)))
    (λ gt. inr (inr (inr (sym same, gt))))
    more)
    (segments_total ps bs (omega (arith, e))))
    (λ gt. inr (inr (inl gt)))
    rest)
    (segment_total a b)

-- lists with the same first link and segments are the same
pub path_is : (a b : Path) → a.first ≡ b.first → a.segments ≡ b.segments → a ≡ b
path_is a b f s = let q : record { first = a.first; segments = a.segments } ≡ record { first = b.first; segments = b.segments } = rw (f, s) refl in q

-- of two lists one comes first, or they are the same
pub PathLe-total : (a b : Path) → PathLe a b ⊎ PathLe b a
PathLe-total a b =
    ⊎_elim
    (λ (same : length a.segments ≡ length b.segments). ⊎_elim
    (λ (first : a.first ≡ b.first). ⊎_elim
    (λ lt. inl (inl (inr (same, inr (first, lt)))))
    (λ more. ⊎_elim
    (λ eq. inl (inr (path_is a b first eq)))
    (λ gt. inr (inl (inr (sym same, inr (sym first, gt)))))
    more)
    (segments_total a.segments b.segments same))
    (λ ne. ⊎_elim
    (λ (lt : a.first < b.first). inl (inl (inr (same, inl lt))))
    (λ (gt : b.first < a.first). inr (inl (inr (sym same, inl gt))))
    ne)
    (cases_order a.first b.first))
    (λ ne. ⊎_elim
    (λ (lt : length a.segments < length b.segments). inl (inl (inl lt)))
    (λ (gt : length b.segments < length a.segments). inr (inl (inl gt)))
    ne)
    (cases_order (length a.segments) (length b.segments))

-- there is one least list
pub least-one : (n : Net) (x : List Bool) (s d : ℕ) (a b : Path) → IsLeast n x s d a → IsLeast n x s d b → a ≡ b
least-one n x s d a b p q = PathLe-antisym a b (p.least b q.sound) (q.least a p.sound)

list_is : (a b : RepairList) → path_of a ≡ path_of b → a.cost ≡ b.cost → a ≡ b
list_is a b e c =
    let f : a.first.0 ≡ b.first.0 = ap (λ (p : Path). p.first) e in
    let s : a.segments ≡ b.segments = ap (λ (p : Path). p.segments) e in
    let q : record { first = record { 0 = a.first.0 }; segments = a.segments; cost = a.cost } ≡ record { first = record { 0 = b.first.0 }; segments = b.segments; cost = b.cost } = rw (f, s, c) refl in
    q

-- and one answer
pub answer-one : (n : Net) (x : List Bool) (s d : ℕ) (a b : Answer) → IsAnswer n x s d a → IsAnswer n x s d b → a ≡ b
answer-one n x s d NoPath NoPath p q = refl
answer-one n x s d NoPath NoList p q = absurd (p q.0.0 q.0.1)
answer-one n x s d NoPath (TooDeep k) p q = absurd (p q.1.sound.fits.reached.0 q.1.sound.fits.reached.1)
answer-one n x s d NoPath (Least b) p q = absurd (p q.2.reached.0 q.2.reached.1)
answer-one n x s d NoList NoPath p q = absurd (q p.0.0 p.0.1)
answer-one n x s d NoList NoList p q = refl
answer-one n x s d NoList (TooDeep k) p q = absurd (p.1 q.0 q.1.sound)
answer-one n x s d NoList (Least b) p q = absurd (p.1 (path_of b) q.0.sound)
answer-one n x s d (TooDeep k) NoPath p q = absurd (q p.1.sound.fits.reached.0 p.1.sound.fits.reached.1)
answer-one n x s d (TooDeep k) NoList p q = absurd (q.1 p.0 p.1.sound)
answer-one n x s d (TooDeep k) (TooDeep j) p q = ap TooDeep (sym p.2 ∙ ap (λ (a : Path). length a.segments) (least-one n x s d p.0 q.0 p.1 q.1) ∙ q.2)
answer-one n x s d (TooDeep k) (Least b) p q =
    absurd (p.3 (subst (λ j. Fits n s j) (ap (λ (a : Path). length a.segments) (least-one n x s d (path_of b) p.0 q.0 p.1) ∙ p.2) q.1))
answer-one n x s d (Least a) NoPath p q = absurd (q p.2.reached.0 p.2.reached.1)
answer-one n x s d (Least a) NoList p q = absurd (q.1 (path_of a) p.0.sound)
answer-one n x s d (Least a) (TooDeep k) p q =
    absurd (q.3 (subst (λ j. Fits n s j) (ap (λ (b : Path). length b.segments) (least-one n x s d (path_of a) q.0 p.0 q.1) ∙ q.2) p.1))
answer-one n x s d (Least a) (Least b) p q =
    ap Least (list_is a b (least-one n x s d (path_of a) (path_of b) p.0 q.0) (distance-unique n.graph x s d a.cost b.cost p.2 q.2))

-- and one thing is listed
pub listed-one : (n : Net) (x : List Bool) (s d : ℕ) (a b : Answer) → IsListed n x s d a → IsListed n x s d b → a ≡ b
listed-one n x s d NoPath NoPath p q = refl
listed-one n x s d NoPath NoList p q = absurd (p q.0.0 q.0.1)
listed-one n x s d NoPath (TooDeep k) p q = absurd q
listed-one n x s d NoPath (Least b) p q = absurd (p q.1.reached.0 q.1.reached.1)
listed-one n x s d NoList NoPath p q = absurd (q p.0.0 p.0.1)
listed-one n x s d NoList NoList p q = refl
listed-one n x s d NoList (TooDeep k) p q = absurd q
listed-one n x s d NoList (Least b) p q = absurd (p.1 (path_of b) q.0.sound)
listed-one n x s d (TooDeep k) b p q = absurd p
listed-one n x s d (Least a) NoPath p q = absurd (q p.1.reached.0 p.1.reached.1)
listed-one n x s d (Least a) NoList p q = absurd (q.1 (path_of a) p.0.sound)
listed-one n x s d (Least a) (TooDeep k) p q = absurd q
listed-one n x s d (Least a) (Least b) p q =
    ap Least (list_is a b (least-one n x s d (path_of a) (path_of b) p.0 q.0) (distance-unique n.graph x s d a.cost b.cost p.1 q.1))

-- also of a case
pub case-answer-one : (n : Net) (case : Case) (d : ℕ) (a b : Answer) → IsCaseAnswer n case d a → IsCaseAnswer n case d b → a ≡ b
case-answer-one n case d a b p q =
    answer-one n q.failed (source_of n.graph case) d a b
    (subst (λ x. IsAnswer n x (source_of n.graph case) d a) (failed-one n.graph case p.failed q.failed p.set q.set) p.answers)
    q.answers
