-- The groups of an audit, and the numbers of labels that its repairs push, add up to it.
use Rattle.std.proofs.Common.{◌≡◌, ℕ, ◌<◌, ⊎_elim, ◌&&◌, Bool, true, false, cond, eqb, List, Some, slice_get, count_by, refl, sym, ap, ◌∙◌, arith}
use Rattle.std.specs.List.{sum_by}
use Rattle.std.proofs.lemmas.Bool.{and_parts, and_from, and_right, eqb-true, eq-eqb, cases_Bool}
use Rattle.sr_model.specs.declared.audit.Counts.{Counts}
use Rattle.sr_model.specs.declared.audit.Item.{Item}
use Rattle.sr_model.specs.declared.repair.Answer.{Answer}
use Rattle.sr_model.specs.Audit.{IsAudit, rank_of, is_least, is_no_path, is_no_list, is_too_deep, counts_of}
use Rattle.sr_model.specs.Graph.{Graph}
use Rattle.sr_model.specs.Label.{Net}
use Rattle.sr_model.specs.Rule.{IsNet}
use Rattle.sr_insight.specs.declared.group.Group.{Group}
use Rattle.sr_insight.specs.declared.grouping.Grouping.{Grouping}
use Rattle.sr_insight.specs.declared.stack_count.StackCount.{StackCount}
use Rattle.sr_insight.specs.Groups.{coverage, group_of, group_count, items_in, AreGroups, sum_of, GroupsAddUp}
use Rattle.sr_insight.specs.Stacks.{pushes, AreStackCounts, StackCountsAddUp}
use Rattle.sr_coverage.proofs.PushesLemmas.{pushes-parts, pushes-least}
use Rattle.sr_coverage.proofs.SumLemmas.{sum-same, sum-parts, count-none, count-one, count-filter, PassApart}
use Rattle.sr_coverage.proofs.WithinLemmas.{group-within}

-- the item is in the group, and its answer passes the test
abbrev picked : Grouping → Graph → (Answer → Bool) → Group → Item → Bool
picked grouping g test group item = eqb (group_of grouping g item) group.number && test item.answer

-- two groups of one number would stand before each other
groups-apart : (grouping : Grouping) (g : Graph) (items : List Item) (groups : List Group) → AreGroups grouping g items groups → (i j : ℕ) (a b : Group) → i < j → slice_get groups i ≡ Some a → slice_get groups j ≡ Some b → a.number ≡ b.number → ⊥
groups-apart grouping g items groups are i j a b lt ea eb same =
    let counts : a.counts ≡ b.counts = (are.each i a ea).1 ∙ ap (λ (k : ℕ). counts_of (items_in grouping g items k)) same ∙ sym (are.each j b eb).1 in
    let cover : coverage a.counts ≡ coverage b.counts = ap (λ (c : Counts). coverage c) counts in
    ⊎_elim
    (λ (less : coverage a.counts < coverage b.counts). omega (arith, less, cover))
    (λ tie. omega (arith, tie.1, same))
    (are.ascending i j a b lt ea eb)

-- each item whose answer passes is in just one group
picked-once : (grouping : Grouping) (g : Graph) (items : List Item) (groups : List Group) (test : Answer → Bool) → AreGroups grouping g items groups → (item : Item) → group_of grouping g item < group_count grouping g → count_by (λ (group : Group). picked grouping g test group item) groups ≡ cond (test item.answer) 1 0
picked-once grouping g items groups test are item within = ⊎_elim
    (λ (yes : test item.answer ≡ true).
    let at = are.all (group_of grouping g item) within in
    let here : picked grouping g test at.1 item ≡ true = and_from _ _ (eq-eqb _ _ (sym at.3)) yes in
    let apart : PassApart (λ (group : Group). picked grouping g test group item) groups = λ i j a b lt ea eb ta tb.
    groups-apart grouping g items groups are i j a b lt ea eb (sym (eqb-true _ _ (and_parts _ _ ta).0) ∙ eqb-true _ _ (and_parts _ _ tb).0) in
    count-one (λ (group : Group). picked grouping g test group item) groups at.0 at.1 at.2 here apart ∙ (rw yes refl))
    (λ (no : test item.answer ≡ false).
    count-none (λ (group : Group). picked grouping g test group item) groups (λ k c e. and_right _ _ no) ∙ (rw no refl))
    (cases_Bool (test item.answer))

-- how many answers pass a test in all groups together
adds-up : (n : Net) (grouping : Grouping) (items : List Item) (groups : List Group) (test : Answer → Bool) (count : Counts → ℕ) → ((xs : List Item) → count (counts_of xs) ≡ count_by (λ (i : Item). test i.answer) xs) → IsNet n → IsAudit n items → AreGroups grouping n.graph items groups → sum_by (λ (group : Group). count group.counts) groups ≡ count (counts_of items)
adds-up n grouping items groups test count counts net audit are =
    let each : (k : ℕ) (group : Group) → slice_get groups k ≡ Some group → count group.counts ≡ count_by (picked grouping n.graph test group) items = λ k group e.
    ap count (are.each k group e).1 ∙ counts (items_in grouping n.graph items group.number)
    ∙ count-filter (λ (item : Item). eqb (group_of grouping n.graph item) group.number) (λ (i : Item). test i.answer) items in
    sum-same (λ (group : Group). count group.counts) (λ (group : Group). count_by (picked grouping n.graph test group) items) groups each
    ∙ sum-parts (picked grouping n.graph test) (λ (i : Item). test i.answer) groups items (λ k item e. picked-once grouping n.graph items groups test are item (group-within n grouping item net (audit.each k item e)))
    ∙ sym (counts items)

pub groups-add-up : GroupsAddUp
groups-add-up n grouping items groups net audit are =
    let covered = adds-up n grouping items groups is_least (λ (c : Counts). c.covered) (λ xs. refl) net audit are in
    let nopath = adds-up n grouping items groups is_no_path (λ (c : Counts). c.nopath) (λ xs. refl) net audit are in
    let nolist = adds-up n grouping items groups is_no_list (λ (c : Counts). c.nolist) (λ xs. refl) net audit are in
    let toodeep = adds-up n grouping items groups is_too_deep (λ (c : Counts). c.toodeep) (λ xs. refl) net audit are in
    let same : sum_of groups ≡ record { covered = (counts_of items).covered; nopath = (counts_of items).nopath; nolist = (counts_of items).nolist; toodeep = (counts_of items).toodeep } = rw (covered, nopath, nolist, toodeep) refl in
    same

-- a row counts the item
abbrev counted : StackCount → Item → Bool
counted row item = pushes row.kind row.labels item

-- two rows that count one item would stand before each other
rows-apart : (items : List Item) (rows : List StackCount) → AreStackCounts items rows → (item : Item) → PassApart (λ (row : StackCount). counted row item) rows
rows-apart items rows are item i j a b lt ea eb ta tb =
    let pa = pushes-parts a.kind a.labels item ta in
    let pb = pushes-parts b.kind b.labels item tb in
    let rank : rank_of a.kind ≡ rank_of b.kind = sym pa.1 ∙ pb.1 in
    let labels : a.labels ≡ b.labels = sym pa.2 ∙ pb.2 in
    ⊎_elim
    (λ (less : rank_of a.kind < rank_of b.kind). omega (arith, less, rank))
    (λ tie. omega (arith, tie.1, labels))
    (are.ascending i j a b lt ea eb)

-- each repair is counted in just one row, and no other item is
counted-once : (items : List Item) (rows : List StackCount) → AreStackCounts items rows → (n : ℕ) (item : Item) → slice_get items n ≡ Some item → count_by (λ (row : StackCount). counted row item) rows ≡ cond (is_least item.answer) 1 0
counted-once items rows are n item e = ⊎_elim
    (λ (yes : is_least item.answer ≡ true).
    let at = are.all n item e yes in
    count-one (λ (row : StackCount). counted row item) rows at.0 at.1 at.2 at.3 (rows-apart items rows are item) ∙ (rw yes refl))
    (λ (no : is_least item.answer ≡ false).
    count-none (λ (row : StackCount). counted row item) rows (λ k c ec. pushes-least c.kind c.labels item no) ∙ (rw no refl))
    (cases_Bool (is_least item.answer))

pub stack-counts-add-up : StackCountsAddUp
stack-counts-add-up items rows are =
    sum-same (λ (row : StackCount). row.repairs) (λ (row : StackCount). count_by (counted row) items) rows (λ k row e. (are.each k row e).0)
    ∙ sum-parts counted (λ (i : Item). is_least i.answer) rows items (counted-once items rows are)
