-- What a visit and a pop keep, and that an empty queue leaves the row of distances.
use Rattle.std.proofs.Common.{◌≡◌, ◌≢◌, ℕ, ◌+◌, ◌*◌, ◌/◌, ◌%◌, ◌<◌, ◌≤◌, ◌⊎◌, ⊎_elim, inl, inr, Bool, true, false, cond, replicate, List, [], ◌∷◌, length, get_or, set, refl, arith, ap, sym, ◌∙◌, subst}
use Rattle.std.specs.Prelude.{nat_lt, Contains, IsPermutation}
use Rattle.std.specs.declared.cmp.Reverse.{Reverse}
use Rattle.std.proofs.lemmas.List.{length-set, get_or-set_same, get_or-set_other, length-replicate, get_or-replicate}
use Rattle.std.proofs.lemmas.Grind.{common_steps}
use Rattle.std.proofs.lemmas.Nat.{div-add-mod'}
use Rattle.std.proofs.lemmas.List.Sums.{get_or-le-sum_by}
use Rattle.std.proofs.lemmas.List.Elements.{All-cons, All-nil, All-head, All-tail, Contains-append_right, Contains-append_cases, Contains-push_cases}
use Rattle.std.proofs.lemmas.List.Sorted.{Contains-permutation, All-permutation}
use Rattle.std.proofs.lemmas.Bool.{ltb-true, cases_eq, cases_lt}
use Rattle.sr_model.specs.Graph.{Graph, node_count, link_count, tail, head, metric, has, carries, link_at, IsGraph, IsLink}
use Rattle.sr_model.specs.declared.link.TheConstants.{FAR}
use Rattle.sr_model.specs.Walk.{IsRow}
use Rattle.sr_spf.specs.Relax.{falls, relaxed, IsTentative, near_count}
use Rattle.sr_spf.specs.declared.dijkstra.TheConstants.{NUMBERS}
use Rattle.sr_spf.specs.Queue.{entry, IsNodeEntry, IsSettled, IsQueued}
use Rattle.sr_spf.proofs.RelaxLemmas.{IsStableBelow, relaxed-IsTentative, relaxed-stays, IsRow-from_stable}

-- the entries of the queue
abbrev Entries : Type 0
Entries = List (Reverse ℕ)

-- links that are not looked at: they begin elsewhere, are in x, or no walk from s may take them
pub queued-jump : (g : Graph) (x : List Bool) (s : ℕ) (cells : List ℕ) (entries : Entries) (u i j : ℕ) → IsQueued (record { graph = g; without = x; source = s }) cells entries u i → ((l : ℕ) → l < link_count g → l < j → tail g l ≡ u → has x l ≡ false → carries g s (tail g l) ≡ true → l < i) → IsQueued (record { graph = g; without = x; source = s }) cells entries u j
queued-jump g x s cells entries u i j q looked = record {
  kept = q.kept;
  inside = q.inside;
  waits = λ v inside near. ⊎_elim
      (λ w. inl w)
      (λ settled. inr (λ l within outside carry begins below. settled l within outside carry begins (λ e. looked l within (below e) (begins ∙ e) outside carry)))
      (q.waits v inside near);
}

-- one such link
pub queued-skip : (g : Graph) (x : List Bool) (s : ℕ) (cells : List ℕ) (entries : Entries) (u i : ℕ) → IsQueued (record { graph = g; without = x; source = s }) cells entries u i → (has x i ≡ true) → IsQueued (record { graph = g; without = x; source = s }) cells entries u (i + 1)
queued-skip g x s cells entries u i q inside =
    queued-jump g x s cells entries u i (i + 1) q (λ l within below begins outside carry.
    let ne : l ≢ i = λ f. (let o : has x i ≡ false = subst (λ k. has x k ≡ false) f outside in absurd (cc)) in omega arith)

-- a link that lowers nothing
pub queued-stays : (g : Graph) (x : List Bool) (s : ℕ) (cells : List ℕ) (entries : Entries) (u i : ℕ) → IsQueued (record { graph = g; without = x; source = s }) cells entries u i → falls (tail g i) (head g i) (metric g i) cells ≡ false → IsQueued (record { graph = g; without = x; source = s }) (relaxed (tail g i) (head g i) (metric g i) cells) entries u (i + 1)
queued-stays g x s cells entries u i q stays =
    rw (relaxed-stays g cells i stays).0 (record {
      kept = q.kept;
      inside = q.inside;
      waits = λ v inside near. ⊎_elim
          (λ w. inl w)
          (λ settled. inr (λ l within outside carry begins below. ⊎_elim
          (λ (f : l ≡ i). let P : ℕ → Type 0 = λ k. get_or cells (head g k) 0 ≤ get_or cells (tail g k) 0 + metric g k in subst P (sym f) (relaxed-stays g cells i stays).1)
          (λ (ne : l ≢ i). settled l within outside carry begins (λ e. let b : l < i + 1 = below e in omega arith))
          (cases_eq l i)))
          (q.waits v inside near);
    })

-- a link that lowers its end's cell: that node waits again. The row after it is `a`
module _ (g : Graph) (x : List Bool) (s : ℕ) (cells a : List ℕ) (entries entries' : Entries) (u i c : ℕ) (q : IsQueued (record { graph = g; without = x; source = s }) cells entries u i) (t : IsTentative g x s a) (within : i < link_count g) (is : c ≡ get_or cells (tail g i) 0 + metric g i) (lower : c < get_or cells (head g i) 0) (at : get_or a (head g i) 0 ≡ c) (others : (v : ℕ) → v ≢ head g i → get_or a v 0 ≡ get_or cells v 0) (perm : IsPermutation (entry (get_or a (head g i) 0) (head g i) ∷ entries) entries') where
  no_higher : (v : ℕ) → get_or a v 0 ≤ get_or cells v 0
  no_higher v = ⊎_elim (λ e. rw e (omega arith)) (λ ne. omega (arith, others v ne)) (cases_eq v (head g i))

  still_in : (e : Reverse ℕ) → Contains entries e → Contains entries' e
  still_in e w = Contains-permutation _ entries' e perm (Contains-append_right (entry (get_or a (head g i) 0) (head g i) ∷ []) entries e w)

  new_in : Contains entries' (entry (get_or a (head g i) 0) (head g i))
  new_in = Contains-permutation _ entries' _ perm (0, omega arith, refl)

  still_settled : (v : ℕ) → v ≢ head g i → IsSettled (record { graph = g; without = x; source = s }) cells u i v → IsSettled (record { graph = g; without = x; source = s }) a u (i + 1) v
  still_settled v apart settled l inside outside carry begins below =
      let same : get_or a (tail g l) 0 ≡ get_or cells (tail g l) 0 = others (tail g l) (λ e. apart (sym begins ∙ e)) in
      ⊎_elim
      (λ (f : l ≡ i). let P : ℕ → Type 0 = λ k. get_or a (tail g k) 0 ≡ get_or cells (tail g k) 0 → get_or a (head g k) 0 ≤ get_or a (tail g k) 0 + metric g k in subst P (sym f) (λ e. omega arith) same)
      (λ (ne : l ≢ i). let old : get_or cells (head g l) 0 ≤ get_or cells (tail g l) 0 + metric g l = settled l inside outside carry begins (λ e. let b : l < i + 1 = below e in omega arith) in omega (arith, no_higher (head g l)))
      (cases_eq l i)

  queued-lower : IsQueued (record { graph = g; without = x; source = s }) a entries' u (i + 1)
  queued-lower = record {
    kept = t;
    inside = let k : IsLink g (link_at g i) = q.kept.graph.each i within in All-permutation (IsNodeEntry g) _ entries' perm (All-cons (IsNodeEntry g) (entry (get_or a (head g i) 0) (head g i)) entries (get_or a (head g i) 0, head g i, k.1, refl) q.inside);
    waits = λ v inside near. ⊎_elim
        (λ e. inl (rw e new_in))
        (λ apart. let same : get_or a v 0 ≡ get_or cells v 0 = others v apart in
        rw same (⊎_elim
        (λ w. inl (still_in _ w))
        (λ settled. inr (still_settled v apart settled))
        (q.waits v inside (rw (← same) near))))
        (cases_eq v (head g i));
  }

pub queued-push : (g : Graph) (x : List Bool) (s : ℕ) (cells : List ℕ) (entries entries' : Entries) (u i : ℕ) → IsQueued (record { graph = g; without = x; source = s }) cells entries u i → i < link_count g → has x i ≡ false → carries g s (tail g i) ≡ true → falls (tail g i) (head g i) (metric g i) cells ≡ true → IsPermutation (entry (get_or cells (tail g i) 0 + metric g i) (head g i) ∷ entries) entries' → IsQueued (record { graph = g; without = x; source = s }) (relaxed (tail g i) (head g i) (metric g i) cells) entries' u (i + 1)
queued-push g x s cells entries entries' u i q within outside carry fell perm =
    let t : IsTentative g x s (relaxed (tail g i) (head g i) (metric g i) cells) = relaxed-IsTentative g x s cells i q.kept within outside carry in
    let e : relaxed (tail g i) (head g i) (metric g i) cells ≡ set cells (head g i) (get_or cells (tail g i) 0 + metric g i) = rw fell refl in
    let k : IsLink g (link_at g i) = q.kept.graph.each i within in
    let at_head : head g i < length cells = omega (arith, q.kept.long) in
    let c_at : get_or (relaxed (tail g i) (head g i) (metric g i) cells) (head g i) 0 ≡ get_or cells (tail g i) 0 + metric g i = rw e (get_or-set_same cells (head g i) _ 0 at_head) in
    queued-lower g x s cells (relaxed (tail g i) (head g i) (metric g i) cells) entries entries' u i (get_or cells (tail g i) 0 + metric g i) q t within refl (ltb-true _ _ fell) c_at
    (λ v ne. rw e (get_or-set_other cells (head g i) v _ 0 ne))
    (subst (λ k. IsPermutation (entry k (head g i) ∷ entries) entries') (sym c_at) perm)

-- what a pop leaves of the entries
left_in : (entries entries' : Entries) (c w : ℕ) (e : Reverse ℕ) → IsPermutation entries (entry c w ∷ entries') → Contains entries e → (entry c w ≡ e) ⊎ Contains entries' e
left_in entries entries' c w e perm i =
    ⊎_elim (λ o. inl (⊎_elim (λ n. absurd (omega (arith, n.1))) (λ same. same) (Contains-push_cases [] (entry c w) e o))) (λ r. inr r) (Contains-append_cases (entry c w ∷ []) entries' e (Contains-permutation entries _ e perm i))

-- an entry tells its cell and its node
pub entry-parts : (c w d v : ℕ) → w < NUMBERS → v < NUMBERS → entry c w ≡ entry d v → (c ≡ d) × (w ≡ v)
entry-parts c w d v lt lv same =
    let sums : c * NUMBERS + w ≡ d * NUMBERS + v = ap (λ (e : Reverse ℕ). e.0) same in
    (omega (arith, sums), omega (arith, sums))

-- what is popped is the entry of its parts
pub popped-split : (entries entries' : Entries) (e : Reverse ℕ) → IsPermutation entries (e ∷ entries') → IsPermutation entries (entry (e.0 / NUMBERS) (e.0 % NUMBERS) ∷ entries')
popped-split entries entries' e perm = subst (λ (m : ℕ). IsPermutation entries (record { 0 = m } ∷ entries')) (sym (div-add-mod' e.0 NUMBERS)) perm

-- an entry is a node's
pub popped-inside : (g : Graph) (x : List Bool) (s : ℕ) (cells : List ℕ) (entries entries' : Entries) (u c w : ℕ) → IsQueued (record { graph = g; without = x; source = s }) cells entries u (link_count g) → w < NUMBERS → IsPermutation entries (entry c w ∷ entries') → w < node_count g
popped-inside g x s cells entries entries' u c w q low perm =
    let is : IsNodeEntry g (entry c w) = All-head (IsNodeEntry g) (entry c w) entries' (All-permutation (IsNodeEntry g) entries (entry c w ∷ entries') perm q.inside) in
    let few : node_count g ≤ 256 = q.kept.graph.few_nodes in
    let same : w ≡ is.1 = (entry-parts c w is.0 is.1 low (omega (arith, is.2)) is.3).1 in
    subst (λ k. k < node_count g) (sym same) is.2

-- an entry whose cell is out of date is let go
pub popped-stale : (g : Graph) (x : List Bool) (s : ℕ) (cells : List ℕ) (entries entries' : Entries) (u i c w : ℕ) → IsQueued (record { graph = g; without = x; source = s }) cells entries u i → w < NUMBERS → IsPermutation entries (entry c w ∷ entries') → c ≢ get_or cells w 0 → IsQueued (record { graph = g; without = x; source = s }) cells entries' u i
popped-stale g x s cells entries entries' u i c w q low perm old = record {
  kept = q.kept;
  inside = All-tail (IsNodeEntry g) (entry c w) entries' (All-permutation (IsNodeEntry g) entries (entry c w ∷ entries') perm q.inside);
  waits = λ v inside near. ⊎_elim
      (λ h. ⊎_elim
      (λ e.
      let few : node_count g ≤ 256 = q.kept.graph.few_nodes in
      let parts = entry-parts c w (get_or cells v 0) v low (omega arith) e in
      absurd (old (parts.0 ∙ ap (λ k. get_or cells k 0) (sym parts.1))))
      (λ r. inl r)
      (left_in entries entries' c w _ perm h))
      (λ settled. inr settled)
      (q.waits v inside near);
}

-- a node whose entry is its cell is visited from its first link on
pub popped-fresh : (g : Graph) (x : List Bool) (s : ℕ) (cells : List ℕ) (entries entries' : Entries) (u c w : ℕ) → IsQueued (record { graph = g; without = x; source = s }) cells entries u (link_count g) → w < NUMBERS → IsPermutation entries (entry c w ∷ entries') → IsQueued (record { graph = g; without = x; source = s }) cells entries' w 0
popped-fresh g x s cells entries entries' u c w q low perm = record {
  kept = q.kept;
  inside = All-tail (IsNodeEntry g) (entry c w) entries' (All-permutation (IsNodeEntry g) entries (entry c w ∷ entries') perm q.inside);
  waits = λ v inside near. ⊎_elim
      (λ (same : v ≡ w). inr (λ l within outside carry begins below. let b : l < 0 = below same in absurd (omega arith)))
      (λ apart. ⊎_elim
      (λ h. ⊎_elim
      (λ e.
      let few : node_count g ≤ 256 = q.kept.graph.few_nodes in
      absurd (apart (sym (entry-parts c w (get_or cells v 0) v low (omega arith) e).1)))
      (λ r. inl r)
      (left_in entries entries' c w _ perm h))
      (λ settled. inr (λ l within outside carry begins below. settled l within outside carry begins (λ _. within)))
      (q.waits v inside near))
      (cases_eq v w);
}

-- after a whole visit it does not matter whose it was
pub queued-idle : (g : Graph) (x : List Bool) (s : ℕ) (cells : List ℕ) (entries : Entries) (u w : ℕ) → IsQueued (record { graph = g; without = x; source = s }) cells entries u (link_count g) → IsQueued (record { graph = g; without = x; source = s }) cells entries w (link_count g)
queued-idle g x s cells entries u w q = record {
  kept = q.kept;
  inside = q.inside;
  waits = λ v inside near. ⊎_elim (λ h. inl h) (λ settled. inr (λ l within outside carry begins below. settled l within outside carry begins (λ _. within))) (q.waits v inside near);
}

-- with no entry left, the row is the row of distances
pub IsRow-from_empty : (g : Graph) (x : List Bool) (s : ℕ) (cells : List ℕ) (u : ℕ) → IsQueued (record { graph = g; without = x; source = s }) cells [] u (link_count g) → IsRow g x s cells
IsRow-from_empty g x s cells u q =
    let stable : IsStableBelow g x s (link_count g) cells = λ l within outside carry.
    (let k : IsLink g (link_at g l) = q.kept.graph.each l within in
    ⊎_elim
    (λ near. ⊎_elim
    (λ h. let z : h.0 < 0 = h.1 in absurd (omega arith))
    (λ settled. settled l within outside carry refl (λ _. within))
    (q.waits (tail g l) k.0 near))
    (λ far. omega (arith, q.kept.top (head g l)))
    (cases_lt (get_or cells (tail g l) 0) FAR)) in
    IsRow-from_stable g x s cells q.kept stable

-- before the first pop only the source has a walk, and it waits
pub queued-start : (g : Graph) (x : List Bool) (s : ℕ) (cells : List ℕ) (entries : Entries) → IsTentative g x s cells → ((v : ℕ) → v < node_count g → v ≢ s → FAR ≤ get_or cells v 0) → IsPermutation (entry 0 s ∷ []) entries → IsQueued (record { graph = g; without = x; source = s }) cells entries s (link_count g)
queued-start g x s cells entries t far perm = record {
  kept = t;
  inside = All-permutation (IsNodeEntry g) (entry 0 s ∷ []) entries perm (All-cons (IsNodeEntry g) (entry 0 s) [] (0, s, t.within, refl) (All-nil (IsNodeEntry g)));
  waits = λ v inside near. ⊎_elim
      (λ e. let P : ℕ → Type 0 = λ k. Contains entries (entry k s) in inl (rw e (subst P (sym t.source) (Contains-permutation (entry 0 s ∷ []) entries (entry 0 s) perm (0, omega arith, refl)))))
      (λ ne. absurd (omega (arith, far v inside ne)))
      (cases_eq v s);
}

-- a row with FAR but at the source
pub IsTentative-start : (g : Graph) (x : List Bool) (s : ℕ) (cells : List ℕ) → IsGraph g → s < node_count g → cells ≡ set (replicate (node_count g) FAR) s 0 → IsTentative g x s cells × ((v : ℕ) → v < node_count g → v ≢ s → FAR ≤ get_or cells v 0)
IsTentative-start g x s cells graph within is =
    let long : length (replicate (node_count g) FAR) ≡ node_count g = length-replicate (node_count g) FAR in
    let at : get_or cells s 0 ≡ 0 = rw is (get_or-set_same (replicate (node_count g) FAR) s 0 0 (omega arith)) in
    let other : (v : ℕ) → v < node_count g → v ≢ s → FAR ≤ get_or cells v 0 = λ v inside ne. rw is (rw (get_or-set_other (replicate (node_count g) FAR) s v 0 0 ne) (rw (get_or-replicate (node_count g) v FAR 0 inside) (omega arith))) in (
      record {
        graph = graph;
        long = rw is (length-set (replicate (node_count g) FAR) s 0 ∙ long);
        source = at;
        within = within;
        top = λ v. grind (arith, common_steps);
        reached = λ v inside near. ⊎_elim
            (λ e. rw e ([], refl, sym at))
            (λ ne. absurd (omega (arith, other v inside ne)))
            (cases_eq v s);
        bound = λ v inside near.
            let one : 1 ≤ near_count cells = subst (λ k. cond (nat_lt k FAR) 1 0 ≤ near_count cells) at (get_or-le-sum_by (λ k. cond (nat_lt k FAR) 1 0) cells s 0 (omega (arith, ap length is, length-set (replicate (node_count g) FAR) s 0))) in
            ⊎_elim
            (λ (e : v ≡ s). let z : get_or cells v 0 ≡ 0 = rw e at in omega arith)
            (λ ne. absurd (omega (arith, other v inside ne)))
            (cases_eq v s);
      },
      other,
    )
