-- What a certificate says from one segment on.
use Rattle.std.proofs.Common.{◌≡◌, ℕ, suc, ◌+◌, ◌<◌, ◌≤◌, Bool, true, List, [], ◌∷◌, length, drop, drop-cons, refl, arith, ap, ◌∙◌, subst}
use Rattle.std.specs.Prelude.{◌↔◌}
use Rattle.std.specs.List.{All}
use Rattle.std.proofs.Math.Seq.{drop-length}
use Rattle.std.proofs.lemmas.List.Elements.{All-get_or}
use Rattle.sr_model.specs.declared.repair.Segment.{Segment}
use Rattle.sr_model.specs.declared.repair.Segment.TheVariants.{Node, Adj}
use Rattle.sr_model.specs.declared.link.NodeNo.{NodeNo}
use Rattle.sr_model.specs.Graph.{Graph, carries, head}
use Rattle.sr_model.specs.Label.{Net}
use Rattle.sr_model.specs.Repair.{Clear}
use Rattle.sr_repair.specs.Stack.{segment_at, goes_to}
use Rattle.sr_cert.specs.declared.certificate.Certificate.{Certificate}
use Rattle.sr_cert.specs.Rows.{headings}
use Rattle.sr_cert.specs.Clauses.{AreUsable, GoesOnExact, HasRows, StaysInSpaces, begin_of}
use Rattle.sr_cert.specs.Verdict.{IsSegmentWithin}
use Rattle.sr_cert.specs.Walked.{AreSegmentsWithin, rows_of, rows_asked, row_numbered, IsUsable, AreExact, HasExact, StaysOver}

-- the segments from one on are that one and those from the next on
pub drop-segment : (ss : List Segment) (k : ℕ) → k < length ss → drop k ss ≡ segment_at ss k ∷ drop (k + 1) ss
drop-segment ss k lt =
    let next : suc k ≡ k + 1 = omega arith in
    subst (λ j. drop k ss ≡ segment_at ss k ∷ drop j ss) next (drop-cons ss k (Node (record { 0 = 0 })) lt)

pub drop-all : {A : Type 0} (xs : List A) (k : ℕ) → k ≤ length xs → length xs ≤ k → drop k xs ≡ []
drop-all xs k le ge = let e : length xs ≡ k = omega arith in subst (λ j. drop j xs ≡ []) e (drop-length xs)

pub within-each : (n : Net) (ss : List Segment) → All (IsSegmentWithin n) ss → AreSegmentsWithin n ss
within-each n ss all = λ k lt. All-get_or (IsSegmentWithin n) ss k (Node (record { 0 = 0 })) lt all

usable-cons : (n : Net) (x : List Bool) (u : ℕ) (s : Segment) (r : List Segment) → AreUsable n x u (s ∷ r) ↔ (IsUsable n x u s × AreUsable n x (goes_to n s) r)
usable-cons n x u (Node v) r = (λ a. ((a.0, a.1), a.2), λ b. (b.0.0, b.0.1, b.1))
usable-cons n x u (Adj l) r = (λ a. ((a.0, a.1, a.2), a.3), λ b. (b.0.0, b.0.1, b.0.2, b.1))

clear-cons : (n : Net) (d u : ℕ) (s : Segment) (r : List Segment) → Clear n d u (s ∷ r) ↔ ((carries n.graph d u ≡ true) × Clear n d (goes_to n s) r)
clear-cons n d u (Node v) r = (λ a. a, λ b. b)
clear-cons n d u (Adj l) r = (λ a. a, λ b. b)

module _ (n : Net) (ss : List Segment) (k : ℕ) (lt : k < length ss) (u w : ℕ) (to : w ≡ goes_to n (segment_at ss k)) where
  pub usable-at : (x : List Bool) → AreUsable n x u (drop k ss) ↔ (IsUsable n x u (segment_at ss k) × AreUsable n x w (drop (k + 1) ss))
  usable-at x = rw (drop-segment ss k lt, to) (usable-cons n x u (segment_at ss k) (drop (k + 1) ss))

  pub clear-at : (d : ℕ) → Clear n d u (drop k ss) ↔ ((carries n.graph d u ≡ true) × Clear n d w (drop (k + 1) ss))
  clear-at d = rw (drop-segment ss k lt, to) (clear-cons n d u (segment_at ss k) (drop (k + 1) ss))

-- one segment more of those that ask for rows
pub asked-at : (ss : List Segment) (k : ℕ) → k < length ss → rows_asked (drop k ss) ≡ rows_of (segment_at ss k) + rows_asked (drop (k + 1) ss)
asked-at ss k lt = ap rows_asked (drop-segment ss k lt)

pub asked-end : (ss : List Segment) (k : ℕ) → k ≤ length ss → length ss ≤ k → rows_asked (drop k ss) ≡ 2
asked-end ss k le ge = ap rows_asked (drop-all ss k le ge)

-- a segment asks for two rows at most
pub rows-few : (s : Segment) → rows_of s ≤ 2
rows-few (Node v) = omega arith
rows-few (Adj l) = omega arith

-- how many rows the headings ask for
pub headings-length : (g : Graph) (u : ℕ) (ss : List Segment) (d : ℕ) → length (headings g u ss d) ≡ rows_asked ss
headings-length g u [] d = refl
headings-length g u (Node v ∷ ss) d = omega (arith, headings-length g v.0 ss d)
headings-length g u (Adj l ∷ ss) d = omega (arith, headings-length g (head g l.0) ss d)

pub drop-row : (rows : List (List ℕ)) (k : ℕ) → k < length rows → drop k rows ≡ row_numbered rows k ∷ drop (k + 1) rows
drop-row rows k lt =
    let next : suc k ≡ k + 1 = omega arith in
    subst (λ j. drop k rows ≡ row_numbered rows k ∷ drop j rows) next (drop-cons rows k [] lt)

drop-two : (rows : List (List ℕ)) (k : ℕ) → k + 2 ≤ length rows → drop k rows ≡ row_numbered rows k ∷ row_numbered rows (k + 1) ∷ drop (k + 2) rows
drop-two rows k le =
    let next : k + 1 + 1 ≡ k + 2 = omega arith in
    let second : drop (k + 1) rows ≡ row_numbered rows (k + 1) ∷ drop (k + 2) rows = subst (λ j. drop (k + 1) rows ≡ row_numbered rows (k + 1) ∷ drop j rows) next (drop-row rows (k + 1) (omega arith)) in
    drop-row rows k (omega arith) ∙ ap (λ r. row_numbered rows k ∷ r) second

exact-cons : (n : Net) (u : ℕ) (s : Segment) (r : List Segment) (d : ℕ) (rows : List (List ℕ)) (place : ℕ) → place + rows_of s ≤ length rows → AreExact n.graph u (s ∷ r) d (drop place rows) ↔ (HasExact n.graph rows place u s × AreExact n.graph (goes_to n s) r d (drop (place + rows_of s) rows))
exact-cons n u (Node v) r d rows place le = rw (drop-two rows place le) ((λ a. ((a.0, a.1.0), a.1.1), λ b. (b.0.0, (b.0.1, b.1))))
exact-cons n u (Adj l) r d rows place le =
    let stays : place + 0 ≡ place = omega arith in
    rw stays ((λ a. (tt, a), λ b. b.1))

-- the rows that are left, from a segment on
pub exact-at : (n : Net) (ss : List Segment) (k : ℕ) → k < length ss → (u w : ℕ) → w ≡ goes_to n (segment_at ss k) → (d : ℕ) (rows : List (List ℕ)) (place : ℕ) → place + rows_of (segment_at ss k) ≤ length rows → AreExact n.graph u (drop k ss) d (drop place rows) ↔ (HasExact n.graph rows place u (segment_at ss k) × AreExact n.graph w (drop (k + 1) ss) d (drop (place + rows_of (segment_at ss k)) rows))
exact-at n ss k lt u w to d rows place le = rw (drop-segment ss k lt, to) (exact-cons n u (segment_at ss k) (drop (k + 1) ss) d rows place le)

-- and from the last waypoint on
pub exact-end : (n : Net) (ss : List Segment) (k : ℕ) → k ≤ length ss → length ss ≤ k → (u : ℕ) (d : NodeNo) (rows : List (List ℕ)) (place : ℕ) → place + 2 ≡ length rows → AreExact n.graph u (drop k ss) d.0 (drop place rows) ↔ HasExact n.graph rows place u (Node d)
exact-end n ss k le ge u d rows place all =
    rw (drop-all ss k le ge, drop-two rows place (omega (arith, all)), drop-all rows (place + 2) (omega (arith, all)) (omega (arith, all))) ((λ a. (a.0, a.1.0), λ b. (b.0, (b.1, tt))))

-- the rows behind the first are those from place 1 on
pub goes-on-drop : (n : Net) (c : Certificate) (rows : List (List ℕ)) → 0 < length rows → AreExact n.graph (begin_of n c) c.segments c.dest.0 (drop 1 rows) ↔ GoesOnExact n c rows
goes-on-drop n c [] lt = absurd (omega (arith, lt))
goes-on-drop n c (row ∷ rows) lt = (λ a. a, λ a. a)

-- at the begin the place is the first behind the first row
pub asked-begin : (n : Net) (c : Certificate) → HasRows n c → 1 + rows_asked c.segments ≡ length c.rows
asked-begin n c has = omega (arith, has.count, headings-length n.graph (begin_of n c) c.segments c.dest.0)

-- a place stands where as many rows are left as the segments from number k on ask for
abbrev pub Stands : List Segment → ℕ → ℕ → List (List ℕ) → Type 0
Stands ss k place rows = place + rows_asked (drop k ss) ≡ length rows

pub stands-next : (ss : List Segment) (k place : ℕ) (rows : List (List ℕ)) → k < length ss → Stands ss k place rows → (place + rows_of (segment_at ss k) ≤ length rows) × Stands ss (k + 1) (place + rows_of (segment_at ss k)) rows
stands-next ss k place rows lt stands = let e = asked-at ss k lt in (omega (arith, stands, e), omega (arith, stands, e))

pub stands-end : (ss : List Segment) (k place : ℕ) (rows : List (List ℕ)) → k ≤ length ss → length ss ≤ k → Stands ss k place rows → place + 2 ≡ length rows
stands-end ss k place rows le ge stands = omega (arith, stands, asked-end ss k le ge)

stays-cons : (n : Net) (x : List Bool) (u : ℕ) (s : Segment) (r : List Segment) (d : ℕ) → StaysInSpaces n x u (s ∷ r) d ↔ (StaysOver n.graph x u s × StaysInSpaces n x (goes_to n s) r d)
stays-cons n x u (Node v) r d = (λ a. a, λ b. b)
stays-cons n x u (Adj l) r d = (λ a. (tt, a), λ b. b.1)

pub stays-at : (n : Net) (x : List Bool) (ss : List Segment) (k : ℕ) → k < length ss → (u w : ℕ) → w ≡ goes_to n (segment_at ss k) → (d : ℕ) → StaysInSpaces n x u (drop k ss) d ↔ (StaysOver n.graph x u (segment_at ss k) × StaysInSpaces n x w (drop (k + 1) ss) d)
stays-at n x ss k lt u w to d = rw (drop-segment ss k lt, to) (stays-cons n x u (segment_at ss k) (drop (k + 1) ss) d)

pub stays-end : (n : Net) (x : List Bool) (ss : List Segment) (k : ℕ) → k ≤ length ss → length ss ≤ k → (u : ℕ) (d : NodeNo) → StaysInSpaces n x u (drop k ss) d.0 ↔ StaysOver n.graph x u (Node d)
stays-end n x ss k le ge u d = rw (drop-all ss k le ge) ((λ a. a, λ b. b))
