-- How repairs are counted by kind and by how many labels they push, and that the rows are those that are told.
use Rattle.std.proofs.Common.{◌≡◌, ◌≢◌, ℕ, zero, suc, ◌+◌, ◌*◌, ◌^◌, ◌<◌, ◌≤◌, ◌⊎◌, inl, inr, ⊎_elim, true, false, cond, List, [], ◌∷◌, ◌++◌, length, get_or, set, take, replicate, Some, slice_get, count_by, reverse, refl, sym, ap, ◌∙◌, subst, arith}
use Rattle.std.proofs.lemmas.Bool.{cases_eq, cases_lt, true≢false}
use Rattle.std.proofs.lemmas.List.{length-set, get_or-set_same, get_or-set_other, length-replicate, get_or-replicate, length-reverse, length-take-le, length_push}
use Rattle.std.proofs.lemmas.List.Sums.{sum_by_push, count_by-le-length, get_or-le-sum_by}
use Rattle.std.proofs.lemmas.Option.{slice_get_within, get_or_from_slice_get, same_Some}
use Rattle.sr_model.specs.declared.audit.Item.{Item}
use Rattle.sr_model.specs.declared.case.Kind.{Kind}
use Rattle.sr_model.specs.declared.case.Kind.TheVariants.{Link as LinkKind, Node as NodeKind, Risk as RiskKind}
use Rattle.sr_model.specs.declared.case.Case.{Case}
use Rattle.sr_model.specs.declared.repair.Answer.{Answer}
use Rattle.sr_model.specs.declared.repair.Answer.TheVariants.{Least, NoPath, NoList, TooDeep}
use Rattle.sr_model.specs.declared.repair.Segment.{Segment}
use Rattle.sr_model.specs.declared.repair.Segment.TheVariants.{Node}
use Rattle.sr_model.specs.Audit.{rank_of, is_least, AreLabelsOf, IsAudit}
use Rattle.sr_model.specs.Case.{IsCase, source_of}
use Rattle.sr_model.specs.Forward.{IsStack}
use Rattle.sr_model.specs.Graph.{node_count, head}
use Rattle.sr_model.specs.Label.{Net}
use Rattle.sr_model.specs.Repair.{IsCaseAnswer}
use Rattle.sr_model.specs.Rule.{IsNet}
use Rattle.sr_insight.specs.declared.stack_count.StackCount.{StackCount}
use Rattle.sr_insight.specs.Stacks.{pushes, AreStackCounts}
use Rattle.sr_audit.proofs.AppendLemmas.{get-append}
use Rattle.sr_coverage.proofs.PushesLemmas.{pushes-from, pushes-least, pushes-rank, pushes-many}
use Rattle.sr_coverage.specs.Pushed.{IsWide, AreNarrow, pushed_slot, AreTallied, row_slot, AreRowsOf}
use Rattle.sr_seq.proofs.ListLemmas.{get-left, get-right}
use Rattle.sr_laws.proofs.Stacks.{labels-count}

-- a slot of the table
pub slot-within : (w : ℕ) (kind : Kind) (labels : ℕ) → labels < w → pushed_slot w kind labels < 3 * w
slot-within w LinkKind labels lt = omega arith
slot-within w NodeKind labels lt = omega arith
slot-within w RiskKind labels lt = omega arith

-- a slot is of one kind and one number of labels
abbrev IsOneSlot : Kind → Kind → ℕ → ℕ → Type 0
IsOneSlot a b i j = (rank_of a ≡ rank_of b) × (i ≡ j)

slot-one : (w : ℕ) (a b : Kind) (i j : ℕ) → i < w → j < w → pushed_slot w a i ≡ pushed_slot w b j → IsOneSlot a b i j
slot-one w LinkKind LinkKind i j li lj e = (refl, omega arith)
slot-one w LinkKind NodeKind i j li lj e = absurd (omega arith)
slot-one w LinkKind RiskKind i j li lj e = absurd (omega arith)
slot-one w NodeKind LinkKind i j li lj e = absurd (omega arith)
slot-one w NodeKind NodeKind i j li lj e = (refl, omega arith)
slot-one w NodeKind RiskKind i j li lj e = absurd (omega arith)
slot-one w RiskKind LinkKind i j li lj e = absurd (omega arith)
slot-one w RiskKind NodeKind i j li lj e = absurd (omega arith)
slot-one w RiskKind RiskKind i j li lj e = (refl, omega arith)

-- slots are in order of kind and then of labels
slot-before : (w : ℕ) (a b : Kind) (i j : ℕ) → i < w → j < w → pushed_slot w a i < pushed_slot w b j → (rank_of a < rank_of b) ⊎ ((rank_of a ≡ rank_of b) × (i < j))
slot-before w LinkKind LinkKind i j li lj lt = inr (refl, omega arith)
slot-before w LinkKind NodeKind i j li lj lt = inl (omega arith)
slot-before w LinkKind RiskKind i j li lj lt = inl (omega arith)
slot-before w NodeKind LinkKind i j li lj lt = absurd (omega arith)
slot-before w NodeKind NodeKind i j li lj lt = inr (refl, omega arith)
slot-before w NodeKind RiskKind i j li lj lt = inl (omega arith)
slot-before w RiskKind LinkKind i j li lj lt = absurd (omega arith)
slot-before w RiskKind NodeKind i j li lj lt = absurd (omega arith)
slot-before w RiskKind RiskKind i j li lj lt = inr (refl, omega arith)

-- a list pushes at most one label more than it has segments
stack-few : (n : Net) (d first : ℕ) (ss : List Segment) (labels : List ℕ) → IsStack n d first ss labels → length labels ≤ length ss + 1
stack-few n d first [] labels is = ⊎_elim
    (λ popped. omega (arith, ap length popped.2))
    (⊎_elim
    (λ null. omega (arith, ap length null.3))
    (λ swapped. omega (arith, ap length swapped.3)))
    is
stack-few n d first (s ∷ ss) labels is =
    omega (arith, labels-count n (head n.graph first) (s ∷ ss ++ Node (record { 0 = d }) ∷ []) labels is, length_push ss (Node (record { 0 = d })))

-- the labels of a repair are fewer than the width
labels-few : (n : Net) (case : Case) (d : ℕ) (answer : Answer) (labels : List ℕ) (w : ℕ) → IsNet n → IsCase n.graph case → IsCaseAnswer n case d answer → AreLabelsOf n d answer labels → IsWide n (node_count n.graph) w → is_least answer ≡ true → length labels < w
labels-few n case d (Least list) labels w net within is are wide holds =
    let fits = wide (source_of n.graph case) (length list.segments) (net.graph.each case.link.0 within).0 is.answers.1 in
    omega (arith, fits, stack-few n d list.first.0 list.segments (reverse labels) are, length-reverse labels)
labels-few n case d NoPath labels w net within is are wide holds = absurd (true≢false (sym holds))
labels-few n case d NoList labels w net within is are wide holds = absurd (true≢false (sym holds))
labels-few n case d (TooDeep k) labels w net within is are wide holds = absurd (true≢false (sym holds))

pub audit-narrow : (n : Net) (items : List Item) (w : ℕ) → IsNet n → IsAudit n items → IsWide n (node_count n.graph) w → AreNarrow items w
audit-narrow n items w net audit wide k item e holds =
    let is = audit.each k item e in
    labels-few n item.case item.dest.0 item.answer item.labels w net is.within is.answer is.labels wide holds

-- nothing is counted yet
pub tallied-none : (w : ℕ) → AreTallied w [] (replicate (3 * w) 0)
tallied-none w = record {
  long = length-replicate (3 * w) 0;
  each = λ kind labels lt. get_or-replicate (3 * w) (pushed_slot w kind labels) 0 0 (slot-within w kind labels lt);
}

-- how many push a number of labels, with one item more
count-push : (kind : Kind) (labels : ℕ) (xs : List Item) (x : Item) → count_by (pushes kind labels) (xs ++ x ∷ []) ≡ count_by (pushes kind labels) xs + cond (pushes kind labels x) 1 0
count-push kind labels xs x = sum_by_push (λ (i : Item). cond (pushes kind labels i) 1 0) xs x

-- what isn't a repair isn't counted
pub tallied-skip : (w : ℕ) (xs : List Item) (x : Item) (table : List ℕ) → is_least x.answer ≡ false → AreTallied w xs table → AreTallied w (xs ++ x ∷ []) table
tallied-skip w xs x table other are = record {
  long = are.long;
  each = λ kind labels lt.
      let fails : pushes kind labels x ≡ false = pushes-least kind labels x other in
      let same : ◌≡◌ {A = ℕ} (cond (pushes kind labels x) 1 0) 0 = rw fails refl in
      omega (arith, are.each kind labels lt, count-push kind labels xs x, same);
}

-- the repair is counted in its slot
pub tallied-push : (w : ℕ) (xs : List Item) (x : Item) (table : List ℕ) (slot : ℕ) → is_least x.answer ≡ true → length x.labels < w → slot ≡ pushed_slot w x.case.kind (length x.labels) → AreTallied w xs table → AreTallied w (xs ++ x ∷ []) (set table slot (get_or table slot 0 + 1))
tallied-push w xs x table slot holds few at are = record {
  long = length-set table slot (get_or table slot 0 + 1) ∙ are.long;
  each = λ kind labels lt.
      let within : slot < length table = omega (arith, at, slot-within w x.case.kind (length x.labels) few, are.long) in
      ⊎_elim
      (λ (e : pushed_slot w kind labels ≡ slot).
      let one = slot-one w x.case.kind kind (length x.labels) labels few lt (sym at ∙ sym e) in
      let passes : pushes kind labels x ≡ true = pushes-from kind labels x holds one.0 one.1 in
      let more : ◌≡◌ {A = ℕ} (cond (pushes kind labels x) 1 0) 1 = rw passes refl in
      let here : get_or (set table slot (get_or table slot 0 + 1)) (pushed_slot w kind labels) 0 ≡ get_or table slot 0 + 1 = rw e (get_or-set_same table slot _ 0 within) in
      let old : get_or table slot 0 ≡ count_by (pushes kind labels) xs = ap (λ (s : ℕ). get_or table s 0) (sym e) ∙ are.each kind labels lt in
      omega (arith, here, old, more, count-push kind labels xs x))
      (λ (ne : pushed_slot w kind labels ≢ slot).
      let fails : pushes kind labels x ≡ false = ⊎_elim
      (λ (same : rank_of x.case.kind ≡ rank_of kind). pushes-many kind labels x (λ many. ne (ap (λ (r : ℕ). r * w + labels) (sym same) ∙ ap (λ (m : ℕ). rank_of x.case.kind * w + m) (sym many) ∙ sym at)))
      (λ other. pushes-rank kind labels x other)
      (cases_eq (rank_of x.case.kind) (rank_of kind)) in
      let none : ◌≡◌ {A = ℕ} (cond (pushes kind labels x) 1 0) 0 = rw fails refl in
      let there : get_or (set table slot (get_or table slot 0 + 1)) (pushed_slot w kind labels) 0 ≡ get_or table (pushed_slot w kind labels) 0 = get_or-set_other table slot (pushed_slot w kind labels) _ 0 ne in
      omega (arith, there, are.each kind labels lt, none, count-push kind labels xs x))
      (cases_eq (pushed_slot w kind labels) slot);
}

-- the count in a slot has room for one more
pub tallied-room : (w : ℕ) (items : List Item) (i : ℕ) (table : List ℕ) (kind : Kind) (labels : ℕ) → labels < w → i < length items → length items < 2 ^ 32 → AreTallied w (take i items) table → get_or table (pushed_slot w kind labels) 0 + 1 < 2 ^ 32
tallied-room w items i table kind labels lt within few are =
    omega (arith, are.each kind labels lt, count_by-le-length (pushes kind labels) (take i items), length-take-le i items (omega (arith, within)), within, few)

-- no rows of no slots
pub rows-none : (w : ℕ) (table : List ℕ) → AreRowsOf w table 0 []
rows-none w table = record {
  each = λ k row e. absurd (cc);
  ascending = λ j k a b lt ea eb. absurd (cc);
  all = λ slot lt some. absurd (omega arith);
}

-- a slot that is 0 has no row
pub rows-skip : (w : ℕ) (table : List ℕ) (m : ℕ) (rows : List StackCount) → get_or table m 0 ≡ 0 → AreRowsOf w table m rows → AreRowsOf w table (m + 1) rows
rows-skip w table m rows none are = record {
  each = λ k row e. let r = are.each k row e in (r.0, omega (arith, r.1), r.2, r.3);
  ascending = are.ascending;
  all = λ slot lt some. ⊎_elim
      (λ (low : slot < m). are.all slot low some)
      (λ (high : m ≤ slot). let same : slot ≡ m = omega (arith, high, lt) in absurd (omega (arith, some, ap (λ (s : ℕ). get_or table s 0) same, none)))
      (cases_lt slot m);
}

-- the one row of a list
only : (y : StackCount) (j : ℕ) (x : StackCount) → slice_get (y ∷ []) j ≡ Some x → (j ≡ 0) × (y ≡ x)
only y zero x e = (refl, same_Some y x e)
only y (suc j) x e = absurd (cc)

-- a row more is one of those before, or the last
last-or : (rows : List StackCount) (row : StackCount) (k : ℕ) (r : StackCount) → slice_get (rows ++ row ∷ []) k ≡ Some r → (slice_get rows k ≡ Some r) ⊎ ((k ≡ length rows) × (row ≡ r))
last-or rows row k r e = ⊎_elim
    (λ before. inl before.1)
    (λ after. let one = only row after.0 r after.2 in inr (omega (arith, after.1, one.0), one.1))
    (get-append rows (row ∷ []) k r e)

-- a slot that isn't 0 has a row
pub rows-push : (w : ℕ) (table : List ℕ) (m : ℕ) (rows : List StackCount) (row : StackCount) → row.labels < w → row_slot w row ≡ m → row.repairs ≡ get_or table m 0 → 0 < row.repairs → AreRowsOf w table m rows → AreRowsOf w table (m + 1) (rows ++ row ∷ [])
rows-push w table m rows row few at is some are = record {
  each = λ k r e. ⊎_elim
      (λ (old : slice_get rows k ≡ Some r). let o = are.each k r old in (o.0, omega (arith, o.1), o.2, o.3))
      (λ new. subst (λ (q : StackCount). (q.labels < w) × (row_slot w q < m + 1) × (q.repairs ≡ get_or table (row_slot w q) 0) × (0 < q.repairs)) new.1
      (few, omega (arith, at), is ∙ ap (λ (s : ℕ). get_or table s 0) (sym at), some))
      (last-or rows row k r e);
  ascending = λ j k a b lt ea eb. ⊎_elim
      (λ (old : slice_get rows k ≡ Some b). ⊎_elim
      (λ (first : slice_get rows j ≡ Some a). are.ascending j k a b lt first old)
      (λ late. absurd (omega (arith, late.0, lt, slice_get_within rows k b old)))
      (last-or rows row j a ea))
      (λ new. ⊎_elim
      (λ (first : slice_get rows j ≡ Some a). omega (arith, (are.each j a first).1, at, ap (λ (q : StackCount). row_slot w q) new.1))
      (λ late. absurd (omega (arith, late.0, lt, new.0)))
      (last-or rows row j a ea))
      (last-or rows row k b eb);
  all = λ slot lt here. ⊎_elim
      (λ (low : slot < m). let old = are.all slot low here in (old.0, old.1, get-left rows (row ∷ []) old.0 old.1 old.2, old.3))
      (λ (high : m ≤ slot). (length rows, row, get-right rows (row ∷ []) 0 (length rows) row (omega arith) refl, omega (arith, high, lt, at)))
      (cases_lt slot m);
}

-- each repair is counted
counts-it : (kind : Kind) (labels : ℕ) (items : List Item) (k : ℕ) (item : Item) → slice_get items k ≡ Some item → pushes kind labels item ≡ true → 0 < count_by (pushes kind labels) items
counts-it kind labels items k item e holds =
    let one : ◌≡◌ {A = ℕ} (cond (pushes kind labels item) 1 0) 1 = rw holds refl in
    let here : get_or items k item ≡ item = get_or_from_slice_get items k item item e in
    let at = get_or-le-sum_by (λ (i : Item). cond (pushes kind labels i) 1 0) items k item (slice_get_within items k item e) in
    let same = ap {B = ℕ} (λ (i : Item). cond (pushes kind labels i) 1 0) here in
    omega (arith, one, at, same)

-- the rows are those that are told
pub stacks-told : (w : ℕ) (items : List Item) (table : List ℕ) (rows : List StackCount) → AreNarrow items w → AreTallied w items table → AreRowsOf w table (3 * w) rows → AreStackCounts items rows
stacks-told w items table rows narrow tallied are = record {
  each = λ k row e. let r = are.each k row e in (r.2 ∙ tallied.each row.kind row.labels r.0, r.3);
  ascending = λ j k a b lt ea eb. slot-before w a.kind b.kind a.labels b.labels (are.each j a ea).0 (are.each k b eb).0 (are.ascending j k a b lt ea eb);
  all = λ k item e holds.
      let kind = item.case.kind in
      let labels = length item.labels in
      let few : labels < w = narrow k item e holds in
      let passes : pushes kind labels item ≡ true = pushes-from kind labels item holds refl refl in
      let some : 0 < get_or table (pushed_slot w kind labels) 0 = omega (arith, tallied.each kind labels few, counts-it kind labels items k item e passes) in
      let at = are.all (pushed_slot w kind labels) (slot-within w kind labels few) some in
      let one = slot-one w at.1.kind kind at.1.labels labels (are.each at.0 at.1 at.2).0 few at.3 in
      (at.0, at.1, at.2, pushes-from at.1.kind at.1.labels item holds (sym one.0) (sym one.1));
}
