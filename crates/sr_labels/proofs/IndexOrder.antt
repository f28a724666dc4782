-- What the first neighbours with one index, and the first index past the least size, say of the nodes.
use Rattle.std.proofs.Common.{◌≡◌, ℕ, ◌+◌, ◌-◌, ◌<◌, ◌≤◌, ◌⊎◌, ⊎_elim, inl, inr, List, length, arith, ap, sym, ◌∙◌, subst, Some}
use Rattle.std.specs.declared.cmp.Ordering.{Ordering}
use Rattle.std.specs.Ordering.{is_lt}
use Rattle.std.specs.Cmp.{IsTotalOrder}
use Rattle.std.specs.List.Sorted.{IsPermutation, IsSorted}
use Rattle.std.proofs.lemmas.Bool.{cases_lt, cases_order}
use Rattle.std.proofs.lemmas.List.Sorted.{IsPermutation-sym, ranks_by, sorted_far}
use Rattle.sr_model.specs.Label.{Labels, label_of, sizes}
use Rattle.sr_model.specs.declared.label.AdjLabel.{AdjLabel}
use Rattle.sr_model.specs.declared.label.LabelRule.{LabelRule}
use Rattle.sr_model.specs.declared.label.LabelRule.TheVariants.{DuplicateIndex}
use Rattle.sr_model.specs.Rule.{IsFirstBroken, node_at, IsDuplicate, IsLeastDuplicate, NoDuplicate, IsLeastOutside, NoOutside}
use Rattle.sr_labels.specs.declared.indices.NodeIndex.{NodeIndex}
use Rattle.sr_labels.specs.contracts.indices.NodeIndexOrd.TheImpl as node_index
use Rattle.sr_labels.specs.contracts.indices.NodeIndexOrd.TheImpl.Laws.{total-law}
use Rattle.sr_labels.specs.Indices.{entry_at, IsIndexEntry, AreByNode, EntryLt, AreByIndex, IsTwin, NoTwins, IsFirstTwin, IsFirstWithout, AreAtLeast}
use Rattle.sr_labels.proofs.IndexLists.{IsInside, labelled}
use Rattle.sr_labels.proofs.Places.{stands-moved, apart-moved, not_less}

abbrev index_cmp : NodeIndex → NodeIndex → Ordering
index_cmp = node_index.cmp-value.it

index_total : IsTotalOrder index_cmp
index_total = total-law

abbrev no_entry : NodeIndex
no_entry = record { index = 0; node = 0 }

-- by index, then by node, where they may be the same
abbrev EntryLe : NodeIndex → NodeIndex → Type 0
EntryLe a b = (a.index < b.index) ⊎ ((a.index ≡ b.index) × (a.node ≤ b.node))

sorted-le : (list : List NodeIndex) → IsSorted index_cmp list → (j k : ℕ) → j < k → k < length list → EntryLe (entry_at list j) (entry_at list k)
sorted-le list sorted j k lt within = not_less _ _ _ _ (sorted_far (λ a b. is_lt (index_cmp a b)) (ranks_by index_total (λ (a : NodeIndex). a)) list sorted j k no_entry (omega arith) within)

-- sorted, the list of what nodes announce is in order
pub in-order : (nodes : List Labels) (xs ys : List NodeIndex) → AreByNode nodes xs → IsPermutation xs ys → IsSorted index_cmp ys → AreByIndex nodes ys
in-order nodes xs ys h p sorted =
    let back : IsPermutation ys xs = IsPermutation-sym xs ys p in (
      (
        (λ k w. let m = stands-moved no_entry ys xs back k w in subst (IsIndexEntry nodes) m.2 (h.0.0 m.0 m.1)),
        (λ entry l. let at = h.0.1 entry l in let m = stands-moved no_entry xs ys p at.0 at.1 in (m.0, m.1, m.2 ∙ at.2)),
      ),
      (λ j k lt w. ⊎_elim
          (λ less. inl less)
          (λ tie.
          let m = apart-moved no_entry ys xs back j k (λ e. omega arith) (omega arith) w in
          let le : (entry_at ys j).node ≤ (entry_at ys k).node = tie.1 in
          let ej : (entry_at xs m.0).node ≡ (entry_at ys j).node = ap (λ (a : NodeIndex). a.node) m.5 in
          let ek : (entry_at xs m.1).node ≡ (entry_at ys k).node = ap (λ (a : NodeIndex). a.node) m.6 in
          inr (
            tie.0,
            ⊎_elim
                (λ (same : m.0 ≡ m.1). absurd (m.2 same))
                (⊎_elim
                (λ below. let up : (entry_at xs m.0).node < (entry_at xs m.1).node = h.1 m.0 m.1 below m.4 in omega arith)
                (λ above. let up : (entry_at xs m.1).node < (entry_at xs m.0).node = h.1 m.1 m.0 above m.3 in absurd (omega arith)))
                (cases_order m.0 m.1),
          ))
          (sorted-le ys sorted j k lt w)),
    )

rises : (a b : NodeIndex) → EntryLt a b → (a.index ≤ b.index) × (a.index ≡ b.index → a.node < b.node)
rises a b lt = ⊎_elim (λ (low : a.index < b.index). (omega arith, λ e. absurd (omega arith))) (λ tie. let same : a.index ≡ b.index = tie.0 in (omega arith, λ e. tie.1)) lt

module _ (nodes : List Labels) (list : List NodeIndex) (h : AreByIndex nodes list) where
  at : (v i : ℕ) → v < length nodes → (node_at nodes v).index ≡ Some i → (k : ℕ) × (k < length list) × ((entry_at list k).index ≡ i) × ((entry_at list k).node ≡ v)
  at v i w is =
      let p = h.0.1 (record { index = i; node = v }) (w, is) in
      (p.0, p.1, ap (λ (a : NodeIndex). a.index) p.2, ap (λ (a : NodeIndex). a.node) p.2)

  up : (j k : ℕ) → j < k → k < length list → ((entry_at list j).index ≤ (entry_at list k).index) × ((entry_at list j).index ≡ (entry_at list k).index → (entry_at list j).node < (entry_at list k).node)
  up j k lt w = rises (entry_at list j) (entry_at list k) (h.1 j k lt w)

  up-le : (j k : ℕ) → j ≤ k → k < length list → ((entry_at list j).index ≤ (entry_at list k).index) × ((entry_at list j).index ≡ (entry_at list k).index → (entry_at list j).node ≤ (entry_at list k).node)
  up-le j k le w = ⊎_elim
      (λ (lt : j < k). let u = up j k lt w in (u.0, λ e. let n : (entry_at list j).node < (entry_at list k).node = u.1 e in omega arith))
      (λ (ge : k ≤ j). let same : j ≡ k = omega arith in let P : ℕ → Type 0 = λ m. ((entry_at list j).index ≤ (entry_at list m).index) × ((entry_at list j).index ≡ (entry_at list m).index → (entry_at list j).node ≤ (entry_at list m).node) in subst P same (omega arith, λ e. omega arith))
      (cases_lt j k)

  -- two nodes with one index stand at two places, and the first has a neighbour with it
  record Pair (j a b : ℕ) : Type 0 where
    p : ℕ
    q : ℕ
    order : p < q
    within : q < length list
    index_p : (entry_at list p).index ≡ j
    node_p : (entry_at list p).node ≡ a
    index_q : (entry_at list q).index ≡ j
    node_q : (entry_at list q).node ≡ b
    index_next : (entry_at list (p + 1)).index ≡ j
    twin : IsTwin list (p + 1)

  paired : (j a b p q : ℕ) → p < q → q < length list → (entry_at list p).index ≡ j → (entry_at list p).node ≡ a → (entry_at list q).index ≡ j → (entry_at list q).node ≡ b → Pair j a b
  paired j a b p q lt w ip np iq nq =
      let low : (entry_at list p).index ≤ (entry_at list (p + 1)).index = (up p (p + 1) (omega arith) (omega arith)).0 in
      let high : (entry_at list (p + 1)).index ≤ (entry_at list q).index = (up-le (p + 1) q (omega arith) w).0 in
      let next : (entry_at list (p + 1)).index ≡ j = omega arith in
      let back : p + 1 - 1 ≡ p = omega arith in
      record {
        p = p;
        q = q;
        order = lt;
        within = w;
        index_p = ip;
        node_p = np;
        index_q = iq;
        node_q = nq;
        index_next = next;
        twin = (omega arith, omega arith, next ∙ sym ip ∙ sym (ap (λ m. (entry_at list m).index) back));
      }

  pair : (j a b : ℕ) → IsDuplicate nodes j a b → Pair j a b
  pair j a b d =
      let order : a < b = d.order in
      let high : b < length nodes = d.within in
      let x = at a j (omega arith) d.low_has in
      let y = at b j high d.high_has in
      let ix : (entry_at list x.0).index ≡ j = x.2 in
      let iy : (entry_at list y.0).index ≡ j = y.2 in
      let nx : (entry_at list x.0).node ≡ a = x.3 in
      let ny : (entry_at list y.0).node ≡ b = y.3 in
      ⊎_elim
      (λ (same : x.0 ≡ y.0). absurd (let e : (entry_at list x.0).node ≡ (entry_at list y.0).node = ap (λ m. (entry_at list m).node) same in omega arith))
      (⊎_elim
      (λ lt. paired j a b x.0 y.0 lt y.1 x.2 x.3 y.2 y.3)
      (λ gt. absurd (let u : (entry_at list y.0).node < (entry_at list x.0).node = (up y.0 x.0 gt x.1).1 (y.2 ∙ sym x.2) in omega arith)))
      (cases_order x.0 y.0)

  pub no_duplicate : NoTwins list → NoDuplicate nodes
  no_duplicate none = λ i low high d. let t = pair i low high d in none (t.p + 1) t.twin

  module _ (k : ℕ) (first : IsFirstTwin list k) where
    abbrev i : ℕ
    i = (entry_at list k).index

    abbrev low : ℕ
    low = (entry_at list (k - 1)).node

    abbrev high : ℕ
    high = (entry_at list k).node

    is-duplicate : IsDuplicate nodes i low high
    is-duplicate =
        let above : 0 < k = first.0.0 in
        let kw : k < length list = first.0.1 in
        record {
          order = (up (k - 1) k (omega arith) kw).1 (sym first.0.2);
          within = (h.0.0 k kw).0;
          low_has = (h.0.0 (k - 1) (omega arith)).1 ∙ ap Some (sym first.0.2);
          high_has = (h.0.0 k kw).1;
        }

    least : (j a b : ℕ) → IsDuplicate nodes j a b → (i ≤ j) × (i ≡ j → low ≤ a) × (i ≡ j → low ≡ a → high ≤ b)
    least j a b d =
        let t = pair j a b d in
        let above : 0 < k = first.0.0 in
        let kw : k < length list = first.0.1 in
        let same : i ≡ (entry_at list (k - 1)).index = first.0.2 in
        let order : t.p < t.q = t.order in
        let tw : t.q < length list = t.within in
        let ip : (entry_at list t.p).index ≡ j = t.index_p in
        let np : (entry_at list t.p).node ≡ a = t.node_p in
        let iq : (entry_at list t.q).index ≡ j = t.index_q in
        let nq : (entry_at list t.q).node ≡ b = t.node_q in
        let le : k ≤ t.p + 1 = ⊎_elim (λ early. absurd (first.1 (t.p + 1) early t.twin)) (λ ge. ge) (cases_lt (t.p + 1) k) in
        let u = up-le (k - 1) t.p (omega arith) (omega arith) in
        let v = up-le k t.q (omega arith) tw in
        let low_index : (entry_at list (k - 1)).index ≤ (entry_at list t.p).index = u.0 in (
          omega arith,
          λ e. (let n : low ≤ (entry_at list t.p).node = u.1 (sym same ∙ e ∙ sym ip) in omega arith),
          λ e f. (let n : high ≤ (entry_at list t.q).node = v.1 (e ∙ sym iq) in omega arith),
        )

    pub least_duplicate : IsLeastDuplicate nodes i low high
    least_duplicate = record { duplicate = is-duplicate; least = least }

  -- ---- indices outside
  pub least_outside : (k : ℕ) → k < length list → (node : ℕ) → ((j : ℕ) → j < k → IsInside nodes (entry_at list j).index) → IsFirstWithout nodes (entry_at list k).index (Some node) → IsLeastOutside nodes (entry_at list k).index node
  least_outside k kw node before first = record {
    outside = record { announced = ((entry_at list k).node, (h.0.0 k kw).0, (h.0.0 k kw).1); within = first.0; outside = first.1 };
    least = λ j w o.
        let p = at o.announced.0 j o.announced.1 o.announced.2 in
        let ip : (entry_at list p.0).index ≡ j = p.2 in
        let le : k ≤ p.0 = ⊎_elim (λ early. absurd (before p.0 early w o.within (ap (label_of (node_at nodes w).srgb) ip ∙ o.outside))) (λ ge. ge) (cases_lt p.0 k) in
        let u : (entry_at list k).index ≤ (entry_at list p.0).index = (up-le k p.0 le p.1).0 in
        (omega arith, λ e. ⊎_elim (λ early. absurd (first.2 w early (ap (label_of (node_at nodes w).srgb) e ∙ o.outside))) (λ ge. ge) (cases_lt w node));
  }

  pub no_outside : (k : ℕ) → length list ≤ k → ((j : ℕ) → j < k → IsInside nodes (entry_at list j).index) → NoOutside nodes
  no_outside k le inside = λ i v o.
      let p = at o.announced.0 i o.announced.1 o.announced.2 in
      let pw : p.0 < length list = p.1 in
      inside p.0 (omega arith) v o.within (ap (label_of (node_at nodes v).srgb) p.2 ∙ o.outside)

-- each node has a label for an index below the least size
pub inside-below : (nodes : List Labels) (least i : ℕ) → AreAtLeast nodes least → i < least → IsInside nodes i
inside-below nodes least i h lt = λ v w. labelled (node_at nodes v).srgb i (let s : least ≤ sizes (node_at nodes v).srgb = h v w in omega arith)

-- the rule that the first neighbours with one index break
pub duplicate_broken : (nodes : List Labels) (adj : List AdjLabel) (list : List NodeIndex) → AreByIndex nodes list → (k : ℕ) → IsFirstTwin list k → (rule : LabelRule) → rule ≡ DuplicateIndex (entry_at list k).index (entry_at list (k - 1)).node (entry_at list k).node → IsFirstBroken nodes adj (Some rule)
duplicate_broken nodes adj list h k first rule is = subst (λ r. IsFirstBroken nodes adj (Some r)) (sym is) (least_duplicate nodes list h k first)
