-- The items of an audit have one list of groups, and their repairs one list of stack counts.
use Rattle.std.proofs.Common.{◌≡◌, ℕ, suc, ◌<◌, Bool, true, false, cond, List, [], ◌∷◌, refl, arith, ap, sym, ◌∙◌, subst, inl, inr, Some}
use Rattle.std.specs.Prelude.{count_by, slice_get}
use Rattle.std.proofs.lemmas.List.Sums.{sum_by-cons}
use Rattle.sr_model.specs.declared.audit.Counts.{Counts}
use Rattle.sr_model.specs.declared.audit.Item.{Item}
use Rattle.sr_model.specs.declared.case.Kind.{Kind}
use Rattle.sr_model.specs.declared.case.Kind.TheVariants.{Link, Node, Risk}
use Rattle.sr_model.specs.Audit.{counts_of, rank_of}
use Rattle.sr_model.specs.Graph.{Graph}
use Rattle.sr_laws.proofs.Ascending.{AreAmong, ascending-one}
use Rattle.sr_insight.specs.declared.group.Group.{Group}
use Rattle.sr_insight.specs.declared.grouping.Grouping.{Grouping}
use Rattle.sr_insight.specs.declared.stack_count.StackCount.{StackCount}
use Rattle.sr_insight.specs.Groups.{AreGroups, GroupBefore, items_in}
use Rattle.sr_insight.specs.Stacks.{AreStackCounts, StackBefore, pushes}
use Rattle.sr_coverage.proofs.PushesLemmas.{pushes-parts}

-- ---- groups

group-itself : (a : Group) → GroupBefore a a → ⊥
group-itself a (inl less) = omega (arith, less)
group-itself a (inr less) = omega (arith, less.1)

group-trans : (a b c : Group) → GroupBefore a b → GroupBefore b c → GroupBefore a c
group-trans a b c (inl x) (inl y) = inl (omega (arith, x, y))
group-trans a b c (inl x) (inr y) = inl (omega (arith, x, y.0))
group-trans a b c (inr x) (inl y) = inl (omega (arith, x.0, y))
group-trans a b c (inr x) (inr y) = inr (x.0 ∙ y.0, omega (arith, x.1, y.1))

-- a group is its number and its counts
group-is : (a b : Group) → a.number ≡ b.number → a.counts ≡ b.counts → a ≡ b
group-is a b number counts =
    ap (λ (n : ℕ). let z : Group = record { number = n; counts = a.counts } in z) number
    ∙ ap (λ (c : Counts). let z : Group = record { number = b.number; counts = c } in z) counts

groups-among : (grouping : Grouping) (g : Graph) (items : List Item) (one two : List Group) → AreGroups grouping g items one → AreGroups grouping g items two → AreAmong one two
groups-among grouping g items one two a b k group at =
    let here = a.each k group at in
    let there = b.all group.number here.0 in
    let also = b.each there.0 there.1 there.2 in
    (there.0, there.2 ∙ ap Some (group-is there.1 group there.3 (also.1 ∙ ap (λ (n : ℕ). counts_of (items_in grouping g items n)) there.3 ∙ sym here.1)))

pub groups-one : (grouping : Grouping) (g : Graph) (items : List Item) (one two : List Group) → AreGroups grouping g items one → AreGroups grouping g items two → one ≡ two
groups-one grouping g items one two a b =
    ascending-one GroupBefore group-itself group-trans one two a.ascending b.ascending (groups-among grouping g items one two a b) (groups-among grouping g items two one b a)

-- ---- stack counts

stack-itself : (a : StackCount) → StackBefore a a → ⊥
stack-itself a (inl less) = omega (arith, less)
stack-itself a (inr less) = omega (arith, less.1)

stack-trans : (a b c : StackCount) → StackBefore a b → StackBefore b c → StackBefore a c
stack-trans a b c (inl x) (inl y) = inl (omega (arith, x, y))
stack-trans a b c (inl x) (inr y) = inl (omega (arith, x, y.0))
stack-trans a b c (inr x) (inl y) = inl (omega (arith, x.0, y))
stack-trans a b c (inr x) (inr y) = inr (x.0 ∙ y.0, omega (arith, x.1, y.1))

-- kinds of one rank are one kind
kind-one : (a b : Kind) → rank_of a ≡ rank_of b → a ≡ b
kind-one Link Link e = refl
kind-one Link Node e = absurd (omega (arith, e))
kind-one Link Risk e = absurd (omega (arith, e))
kind-one Node Link e = absurd (omega (arith, e))
kind-one Node Node e = refl
kind-one Node Risk e = absurd (omega (arith, e))
kind-one Risk Link e = absurd (omega (arith, e))
kind-one Risk Node e = absurd (omega (arith, e))
kind-one Risk Risk e = refl

-- a stack count is its kind, its labels and its repairs
stack-is : (a b : StackCount) → a.kind ≡ b.kind → a.labels ≡ b.labels → a.repairs ≡ b.repairs → a ≡ b
stack-is a b kind labels repairs =
    ap (λ (k : Kind). let z : StackCount = record { kind = k; labels = a.labels; repairs = a.repairs } in z) kind
    ∙ ap (λ (n : ℕ). let z : StackCount = record { kind = b.kind; labels = n; repairs = a.repairs } in z) labels
    ∙ ap (λ (n : ℕ). let z : StackCount = record { kind = b.kind; labels = b.labels; repairs = n } in z) repairs

-- where some are counted, one is met
met : (p : Item → Bool) (items : List Item) → 0 < count_by p items → (n : ℕ) × (item : Item) × (slice_get items n ≡ Some item) × (p item ≡ true)
met p [] some = absurd (omega (arith, some))
met p (item ∷ items) some = by (p item) refl some (met p items)
  where
    by : (b : Bool) → p item ≡ b → 0 < count_by p (item ∷ items) → (0 < count_by p items → (n : ℕ) × (x : Item) × (slice_get items n ≡ Some x) × (p x ≡ true)) → (n : ℕ) × (x : Item) × (slice_get (item ∷ items) n ≡ Some x) × (p x ≡ true)
    by true is s rest = (0, item, refl, is)
    by false is s rest =
        let none : cond {A = ℕ} (p item) 1 0 ≡ 0 = ap (λ (b : Bool). cond {A = ℕ} b 1 0) is in
        let more = rest (omega (arith, s, none, sum_by-cons (λ (y : Item). cond {A = ℕ} (p y) 1 0) item items)) in
        (suc more.0, more.1, more.2, more.3)

stacks-among : (items : List Item) (one two : List StackCount) → AreStackCounts items one → AreStackCounts items two → AreAmong one two
stacks-among items one two a b k count at =
    let here = a.each k count at in
    let some = met (pushes count.kind count.labels) items (subst (λ (n : ℕ). 0 < n) here.0 here.1) in
    let mine = pushes-parts count.kind count.labels some.1 some.3 in
    let there = b.all some.0 some.1 some.2 mine.0 in
    let other = pushes-parts there.1.kind there.1.labels some.1 there.3 in
    let also = b.each there.0 there.1 there.2 in
    let kind : there.1.kind ≡ count.kind = kind-one there.1.kind count.kind (sym other.1 ∙ mine.1) in
    let labels : there.1.labels ≡ count.labels = sym other.2 ∙ mine.2 in
    let repairs : there.1.repairs ≡ count.repairs = also.0 ∙ ap (λ (x : Kind). count_by (pushes x there.1.labels) items) kind ∙ ap (λ (n : ℕ). count_by (pushes count.kind n) items) labels ∙ sym here.0 in
    (there.0, there.2 ∙ ap Some (stack-is there.1 count kind labels repairs))

pub stack-counts-one : (items : List Item) (one two : List StackCount) → AreStackCounts items one → AreStackCounts items two → one ≡ two
stack-counts-one items one two a b =
    ascending-one StackBefore stack-itself stack-trans one two a.ascending b.ascending (stacks-among items one two a b) (stacks-among items two one b a)
