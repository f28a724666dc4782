-- How items are counted by group, and that the groups in order are those that are told.
use Rattle.std.proofs.Common.{◌≡◌, ◌≢◌, ℕ, ◌^◌, ◌<◌, ◌≤◌, inl, inr, ⊎_elim, Bool, true, false, cond, eqb, List, [], ◌∷◌, ◌++◌, length, get_or, set, take, refl, sym, ap, ◌∙◌, subst, arith}
use Rattle.std.specs.List.Sorted.{IsPermutation, IsSortedBy}
use Rattle.std.specs.Ordering.{nat_cmp, ordering_then, is_lt}
use Rattle.std.specs.Cmp.{IsStrictWeakOrder}
use Rattle.std.proofs.lemmas.Bool.{eq-eqb, ne_eqb, cases_eq}
use Rattle.std.proofs.lemmas.Cmp.{then_total, on_total, nat_cmp_total}
use Rattle.std.proofs.lemmas.List.{append-nil, length-set, get_or-set_same, get_or-set_other, length-take-le}
use Rattle.std.proofs.lemmas.List.Elements.{filter-append}
use Rattle.std.proofs.lemmas.List.Sorted.{IsPermutation-sym, ranks_by, sorted_far}
use Rattle.std.proofs.lemmas.List.Sums.{sum_by_push, count_by-le-length, length-filter}
use Rattle.std.proofs.lemmas.Option.{slice_get_within, slice_get-get_or, get_or_from_slice_get}
use Rattle.sr_model.specs.declared.audit.Counts.{Counts}
use Rattle.sr_model.specs.declared.audit.Item.{Item}
use Rattle.sr_model.specs.declared.repair.Answer.{Answer}
use Rattle.sr_model.specs.Audit.{is_least, is_no_path, is_no_list, is_too_deep, counts_of, IsAudit}
use Rattle.sr_model.specs.Graph.{Graph}
use Rattle.sr_model.specs.Label.{Net}
use Rattle.sr_model.specs.Rule.{IsNet}
use Rattle.sr_labels.proofs.Places.{stands-moved, apart-moved, not_less}
use Rattle.sr_insight.specs.declared.group.Group.{Group}
use Rattle.sr_insight.specs.declared.grouping.Grouping.{Grouping}
use Rattle.sr_insight.specs.Groups.{coverage, group_of, items_in, AreGroups}
use Rattle.sr_coverage.specs.Counting.{CanCountMore, with_answer, AreInGroups, group_for, no_group, AreCounted, IsNoLaterGroup, AreGroupsInOrder}
use Rattle.sr_coverage.proofs.WithinLemmas.{group-within}
use Rattle.sr_audit.proofs.CountLemmas.{counts-one}

-- the counts of one item more
counts-push : (xs : List Item) (x : Item) → counts_of (xs ++ x ∷ []) ≡ with_answer (counts_of xs) x.answer
counts-push xs x = counts-one (counts_of (xs ++ x ∷ [])) (with_answer (counts_of xs) x.answer)
    (sum_by_push (λ (i : Item). cond (is_least i.answer) 1 0) xs x)
    (sum_by_push (λ (i : Item). cond (is_no_path i.answer) 1 0) xs x)
    (sum_by_push (λ (i : Item). cond (is_no_list i.answer) 1 0) xs x)
    (sum_by_push (λ (i : Item). cond (is_too_deep i.answer) 1 0) xs x)

-- one item more in its group
in-own : (grouping : Grouping) (g : Graph) (xs : List Item) (x : Item) (k : ℕ) → group_of grouping g x ≡ k → items_in grouping g (xs ++ x ∷ []) k ≡ items_in grouping g xs k ++ x ∷ []
in-own grouping g xs x k e =
    let own : eqb (group_of grouping g x) k ≡ true = eq-eqb _ _ e in
    filter-append (λ (i : Item). eqb (group_of grouping g i) k) xs (x ∷ []) ∙ (rw own refl)

-- and in another
in-other : (grouping : Grouping) (g : Graph) (xs : List Item) (x : Item) (k : ℕ) → group_of grouping g x ≢ k → items_in grouping g (xs ++ x ∷ []) k ≡ items_in grouping g xs k
in-other grouping g xs x k ne =
    let other : eqb (group_of grouping g x) k ≡ false = ne_eqb _ _ ne in
    filter-append (λ (i : Item). eqb (group_of grouping g i) k) xs (x ∷ []) ∙ (rw other (append-nil (items_in grouping g xs k)))

-- the group with one answer more
abbrev pub group_with : Group → Answer → Group
group_with group answer = record { number = group.number; counts = with_answer group.counts answer }

-- one item more is counted in its group
pub counted-push : (grouping : Grouping) (g : Graph) (xs : List Item) (x : Item) (groups : List Group) (place : ℕ) → AreCounted grouping g xs groups → place ≡ group_of grouping g x → place < length groups → AreCounted grouping g (xs ++ x ∷ []) (set groups place (group_with (get_or groups place no_group) x.answer))
counted-push grouping g xs x groups place are own within = record {
  long = length-set groups place _ ∙ are.long;
  each = λ k lt.
      let kw : k < length groups = omega (arith, lt, length-set groups place (group_with (get_or groups place no_group) x.answer)) in
      ⊎_elim
      (λ (e : k ≡ place).
      let here : get_or (set groups place (group_with (get_or groups place no_group) x.answer)) k no_group ≡ group_with (get_or groups place no_group) x.answer = rw e (get_or-set_same groups place _ no_group within) in
      let old : get_or groups place no_group ≡ group_for grouping g xs place = are.each place within in
      let counts : counts_of (items_in grouping g (xs ++ x ∷ []) place) ≡ with_answer (counts_of (items_in grouping g xs place)) x.answer = ap counts_of (in-own grouping g xs x place (sym own)) ∙ counts-push (items_in grouping g xs place) x in
      here ∙ ap (λ (a : Group). group_with a x.answer) old ∙ sym (ap (λ (c : Counts). record { number = place; counts = c }) counts) ∙ ap (λ (m : ℕ). group_for grouping g (xs ++ x ∷ []) m) (sym e))
      (λ (ne : k ≢ place).
      let there : get_or (set groups place (group_with (get_or groups place no_group) x.answer)) k no_group ≡ get_or groups k no_group = get_or-set_other groups place k _ no_group ne in
      let same : items_in grouping g (xs ++ x ∷ []) k ≡ items_in grouping g xs k = in-other grouping g xs x k (λ e. ne (sym e ∙ sym own)) in
      there ∙ are.each k kw ∙ ap (λ (l : List Item). record { number = k; counts = counts_of l }) (sym same))
      (cases_eq k place);
}

-- the counts of fewer than 2^32 items have room for one more
pub counts-room : (grouping : Grouping) (g : Graph) (items : List Item) (i k : ℕ) → i < length items → length items < 2 ^ 32 → CanCountMore (counts_of (items_in grouping g (take i items) k))
counts-room grouping g items i k lt few =
    let kept = items_in grouping g (take i items) k in
    let passed = λ (x : Item). eqb (group_of grouping g x) k in
    let long : length kept ≤ i = omega (arith, length-filter passed (take i items), count_by-le-length passed (take i items), length-take-le i items (omega (arith, lt))) in
    record {
      covered = omega (arith, count_by-le-length (λ (x : Item). is_least x.answer) kept, long, lt, few);
      nopath = omega (arith, count_by-le-length (λ (x : Item). is_no_path x.answer) kept, long, lt, few);
      nolist = omega (arith, count_by-le-length (λ (x : Item). is_no_list x.answer) kept, long, lt, few);
      toodeep = omega (arith, count_by-le-length (λ (x : Item). is_too_deep x.answer) kept, long, lt, few);
    }

-- the key by which groups are sorted
abbrev pub sort_key : Group → ℕ × ℕ
sort_key a = (coverage a.counts, a.number)

abbrev pub group_lt : Group → Group → Bool
group_lt a b = is_lt (ordering_then (nat_cmp (coverage a.counts) (coverage b.counts)) (nat_cmp a.number b.number))

group_order : IsStrictWeakOrder group_lt
group_order = ranks_by (then_total (on_total (λ (a : Group). coverage a.counts) nat_cmp_total) (on_total (λ (a : Group). a.number) nat_cmp_total)) (λ (a : Group). a)

-- groups that are sorted are in order
pub in_order-sorted : (list : List Group) → IsSortedBy group_lt list → AreGroupsInOrder list
in_order-sorted list sorted j k le w = not_less _ _ _ _ (sorted_far group_lt group_order list sorted j k no_group le w)

-- sorted, the groups of an audit are those that are told
pub groups-sorted : (grouping : Grouping) (g : Graph) (items : List Item) (xs ys : List Group) → AreCounted grouping g items xs → IsPermutation xs ys → AreGroupsInOrder ys → AreGroups grouping g items ys
groups-sorted grouping g items xs ys are moved order =
    let back : IsPermutation ys xs = IsPermutation-sym xs ys moved in
    record {
      each = λ k group e.
          let at = stands-moved no_group ys xs back k (slice_get_within ys k group e) in
          let same : group ≡ group_for grouping g items at.0 = sym (get_or_from_slice_get ys k group no_group e) ∙ sym at.2 ∙ are.each at.0 at.1 in
          let number : group.number ≡ at.0 = ap (λ (a : Group). a.number) same in
          (omega (arith, number, at.1, are.long), ap (λ (a : Group). a.counts) same ∙ ap (λ (m : ℕ). counts_of (items_in grouping g items m)) (sym number));
      ascending = λ j k a b lt ea eb.
          let kw : k < length ys = slice_get_within ys k b eb in
          let at = apart-moved no_group ys xs back j k (λ e. omega (arith, e, lt)) (slice_get_within ys j a ea) kw in
          let one : get_or ys j no_group ≡ a = get_or_from_slice_get ys j a no_group ea in
          let two : get_or ys k no_group ≡ b = get_or_from_slice_get ys k b no_group eb in
          let first : a.number ≡ at.0 = ap (λ (c : Group). c.number) (sym one ∙ sym at.5 ∙ are.each at.0 at.3) in
          let second : b.number ≡ at.1 = ap (λ (c : Group). c.number) (sym two ∙ sym at.6 ∙ are.each at.1 at.4) in
          let later : IsNoLaterGroup a b = subst (λ (c : Group). IsNoLaterGroup c b) one (subst (λ (c : Group). IsNoLaterGroup (get_or ys j no_group) c) two (order j k (omega (arith, lt)) kw)) in
          ⊎_elim
          (λ (less : coverage a.counts < coverage b.counts). inl less)
          (λ tie. inr (tie.0, let ne : a.number ≢ b.number = λ e. at.2 (sym first ∙ e ∙ second) in omega (arith, tie.1, ne)))
          later;
      all = λ number lt.
          let within : number < length xs = omega (arith, lt, are.long) in
          let at = stands-moved no_group xs ys moved number within in
          (at.0, get_or ys at.0 no_group, slice_get-get_or ys at.0 no_group at.1, ap (λ (c : Group). c.number) (at.2 ∙ are.each number within));
    }

-- the items of an audit are in groups
pub audit-within : (n : Net) (grouping : Grouping) (items : List Item) → IsNet n → IsAudit n items → AreInGroups grouping n.graph items
audit-within n grouping items net audit k item e = ((audit.each k item e).within, group-within n grouping item net (audit.each k item e))
