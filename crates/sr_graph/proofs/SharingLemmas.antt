-- Links that share a group, found in the list of groups and links.
use Rattle.std.proofs.Common.{◌≡◌, ◌≢◌, ◌↔◌, ℕ, ◌+◌, ◌-◌, ◌<◌, ◌≤◌, ◌⊎◌, inl, inr, ⊎_elim, List, [], ◌++◌, map, length, get_or, refl, arith, ap, sym, ◌∙◌, subst}
use Rattle.std.specs.Prelude.{Contains}
use Rattle.std.specs.List.Sorted.{IsPermutation}
use Rattle.std.proofs.lemmas.Bool.{cases_eq, cases_lt}
use Rattle.std.proofs.lemmas.List.{length-append, length-map, get_or-map, get_or_append_left, get_or-append_right, get_or_default, get_or_past}
use Rattle.std.proofs.lemmas.List.Elements.{Contains-get_or}
use Rattle.std.proofs.lemmas.List.Sorted.{IsPermutation-sym, Contains-permutation}
use Rattle.sr_model.specs.declared.link.LinkNo.{LinkNo}
use Rattle.sr_model.specs.Graph.{Graph, link_count, IsGrouped}
use Rattle.sr_model.specs.Case.{ShareGroup}
use Rattle.sr_graph.specs.Bits.{IsIn}
use Rattle.sr_graph.specs.Sharing.{set_at, AreSharing}
use Rattle.sr_graph.specs.declared.sharing.Holding.{Holding}
use Rattle.sr_graph.specs.Holdings.{held_by, holding_at, group_at, holder_at, AreHoldings, IsGroupRun, HasHolder, StandTogether, AreJoined}
use Rattle.sr_graph.proofs.BitsLemmas.{not_in_zero}

-- what stands for an entry past the end of the list
abbrev none : Holding
none = record { group = 0; link = record { 0 = 0 } }

-- the groups of the links, listed one link after another
module _ (groups : List (List ℕ)) where
  -- what an entry tells is so
  abbrev IsHeld : ℕ → Holding → Type 0
  IsHeld n holding = (holding.link.0 < n) × Contains (get_or groups holding.link.0 []) holding.group

  module _ (n : ℕ) (row : List ℕ) (list : List Holding) (is : row ≡ get_or groups n []) (k : AreHoldings groups n list) where
    abbrev link : LinkNo
    link = record { 0 = n }

    abbrev more : List Holding
    more = list ++ map (held_by link) row

    more-length : length more ≡ length list + length row
    more-length = length-append list (map (held_by link) row) ∙ ap (λ m. length list + m) (length-map row (held_by link))

    more-left : (i : ℕ) → i < length list → holding_at more i ≡ holding_at list i
    more-left i lt = get_or_append_left list (map (held_by link) row) _ i lt

    more-right : (i : ℕ) → i < length row → holding_at more (length list + i) ≡ held_by link (get_or row i 0)
    more-right i lt =
        get_or-append_right list (map (held_by link) row) (length list) (length list + i) none refl (omega arith)
        ∙ ap (λ j. get_or (map (held_by link) row) j none) (let e : length list + i - length list ≡ i = omega arith in e)
        ∙ get_or-map (held_by link) row i 0 none lt

    new-held : (i : ℕ) → i < length row → IsHeld (n + 1) (holding_at more (length list + i))
    new-held i lt = subst (IsHeld (n + 1)) (sym (more-right i lt)) (omega arith, subst (λ (gs : List ℕ). Contains gs (get_or row i 0)) is (Contains-get_or row i 0 lt))

    more-each : (i : ℕ) → i < length more → IsHeld (n + 1) (holding_at more i)
    more-each i lt = ⊎_elim
        (λ (old : i < length list). let held : IsHeld n (holding_at list i) = k.each i old in subst (IsHeld (n + 1)) (sym (more-left i old)) (omega (arith, held.0), held.1))
        (λ (new : length list ≤ i).
        let at : length list + (i - length list) ≡ i = omega arith in
        let P : ℕ → Type 0 = λ j. IsHeld (n + 1) (holding_at more j) in
        subst P at (new-held (i - length list) (omega (arith, more-length))))
        (cases_lt i (length list))

    more-all : (l r : ℕ) → l < n + 1 → Contains (get_or groups l []) r → (i : ℕ) × (i < length more) × (holder_at more i ≡ l) × (group_at more i ≡ r)
    more-all l r lt held = ⊎_elim
        (λ (e : l ≡ n).
        let there : Contains row r = subst (λ (gs : List ℕ). Contains gs r) (ap (λ j. get_or groups j []) e ∙ sym is) held in
        let at : holding_at more (length list + there.0) ≡ held_by link (get_or row there.0 0) = more-right there.0 there.1 in (
          length list + there.0,
          omega (arith, there.1, more-length),
          ap (λ (h : Holding). h.link.0) at ∙ sym e,
          ap (λ (h : Holding). h.group) at ∙ get_or_default row there.0 0 r there.1 ∙ there.2,
        ))
        (λ (ne : l ≢ n).
        let found : (i : ℕ) × (i < length list) × (holder_at list i ≡ l) × (group_at list i ≡ r) = k.all l r (omega arith) held in
        let at : holding_at more found.0 ≡ holding_at list found.0 = more-left found.0 found.1 in
        (found.0, omega (arith, found.1, more-length), ap (λ (h : Holding). h.link.0) at ∙ found.2, ap (λ (h : Holding). h.group) at ∙ found.3))
        (cases_eq l n)

    -- the groups of one link more
    pub holdings-more : AreHoldings groups (n + 1) more
    holdings-more = record { each = more-each; all = more-all }

  -- in another order
  module _ (n : ℕ) (xs ys : List Holding) (same : IsPermutation xs ys) (k : AreHoldings groups n xs) where
    found-in : (one other : List Holding) (i : ℕ) → IsPermutation one other → i < length one → (j : ℕ) × (j < length other) × (holding_at other j ≡ holding_at one i)
    found-in one other i moved lt =
        let there : Contains other (holding_at one i) = Contains-permutation one other (holding_at one i) moved (Contains-get_or one i _ lt) in
        (there.0, there.1, get_or_default other there.0 _ (holding_at one i) there.1 ∙ there.2)

    pub holdings-moved : AreHoldings groups n ys
    holdings-moved = record {
      each = λ i lt.
          let there = found-in ys xs i (IsPermutation-sym xs ys same) lt in
          subst (IsHeld n) there.2 (k.each there.0 there.1);
      all = λ l r lt held.
          let old = k.all l r lt held in
          let there = found-in xs ys old.0 same old.1 in
          (there.0, there.1, ap (λ (h : Holding). h.link.0) there.2 ∙ old.2, ap (λ (h : Holding). h.group) there.2 ∙ old.3);
    }

module _ (list : List Holding) where
  -- the links were added to the sets of those that stand from place i to below place j
  pub record AreAdded (links : List ℕ) (i j : ℕ) (before after : List (List ℕ)) : Type 0 where
    pub long : length after ≡ length before
    pub each : (p l : ℕ) → IsIn (set_at after p) l ↔ (IsIn (set_at before p) l ⊎ (HasHolder list i j p × IsIn links l))

  -- no group stands before the place and from there on
  pub record ArePartedAt (n : ℕ) : Type 0 where
    pub apart : (i j : ℕ) → i < n → n ≤ j → j < length list → group_at list i ≢ group_at list j

  pub parted-more : (i j : ℕ) → IsGroupRun list i j → ArePartedAt i → ArePartedAt j
  parted-more i j run k = record {
    apart = λ a b lt le within. ⊎_elim
        (λ (old : a < i). k.apart a b old (omega (arith, run.forth)) within)
        (λ (new : i ≤ a) same.
        let low : group_at list i < group_at list b = run.later b le within in
        let here : group_at list a ≡ group_at list i = run.same a new lt in
        omega (arith, low, here, same))
        (cases_lt a i);
  }

  -- the links of one group more were joined
  module _ (i j : ℕ) (common : List ℕ) (before after : List (List ℕ)) (run : IsGroupRun list i j) (parted : ArePartedAt i) (collected : (l : ℕ) → IsIn common l ↔ HasHolder list i j l) (k : AreJoined list i before) (added : (p l : ℕ) → IsIn (set_at after p) l ↔ (IsIn (set_at before p) l ⊎ (HasHolder list i j p × IsIn common l))) where
    together : (p l : ℕ) → HasHolder list i j p → HasHolder list i j l → StandTogether list j p l
    together p l one other = record {
      i = one.0;
      j = other.0;
      first = one.2;
      second = other.2;
      group = run.same one.0 one.1 one.2 ∙ sym (run.same other.0 other.1 other.2);
      p_is = one.3;
      l_is = other.3;
    }

    longer : (p l : ℕ) → StandTogether list i p l → StandTogether list j p l
    longer p l t = record {
      i = t.i;
      j = t.j;
      first = omega (arith, t.first, run.forth);
      second = omega (arith, t.second, run.forth);
      group = t.group;
      p_is = t.p_is;
      l_is = t.l_is;
    }

    -- two that stand with one group stand before the run, or both in it
    parts : (p l : ℕ) → StandTogether list j p l → StandTogether list i p l ⊎ (HasHolder list i j p × HasHolder list i j l)
    parts p l t =
        let first : t.i < length list = omega (arith, t.first, run.inside) in
        let second : t.j < length list = omega (arith, t.second, run.inside) in
        ⊎_elim
        (λ (one : t.i < i). ⊎_elim
        (λ (other : t.j < i). inl (record { i = t.i; j = t.j; first = one; second = other; group = t.group; p_is = t.p_is; l_is = t.l_is }))
        (λ (beyond : i ≤ t.j). absurd (parted.apart t.i t.j one beyond second t.group))
        (cases_lt t.j i))
        (λ (here : i ≤ t.i). ⊎_elim
        (λ (other : t.j < i). absurd (parted.apart t.j t.i other here first (sym t.group)))
        (λ (beyond : i ≤ t.j). inr ((t.i, here, t.first, t.p_is), (t.j, beyond, t.second, t.l_is)))
        (cases_lt t.j i))
        (cases_lt t.i i)

    pub joined-more : AreJoined list j after
    joined-more = record {
      each = λ p l. (
        λ is. ⊎_elim
            (λ old. longer p l ((k.each p l).0 old))
            (λ new. together p l new.0 ((collected l).0 new.1))
            ((added p l).0 is),
        λ t. (added p l).1 (⊎_elim
            (λ old. inl ((k.each p l).1 old))
            (λ both. inr (both.0, (collected l).1 both.1))
            (parts p l t)),
      );
    }

-- links that stand with one group share it
pub sharing-from_joined : (groups sets : List (List ℕ)) (list : List Holding) → AreHoldings groups (length groups) list → AreJoined list (length list) sets → AreSharing groups sets
sharing-from_joined groups sets list held k = record {
  each = λ p l in_p in_l. (
    λ is.
        let t : StandTogether list (length list) p l = (k.each p l).0 is in
        let one : Contains (get_or groups p []) (group_at list t.i) = subst (λ m. Contains (get_or groups m []) (group_at list t.i)) t.p_is (held.each t.i t.first).1 in
        let other : Contains (get_or groups l []) (group_at list t.j) = subst (λ m. Contains (get_or groups m []) (group_at list t.j)) t.l_is (held.each t.j t.second).1 in
        (group_at list t.j, other, subst (λ r. Contains (get_or groups p []) r) t.group one),
    λ common.
        let one = held.all p common.0 in_p common.2 in
        let other = held.all l common.0 in_l common.1 in
        (k.each p l).1 (record { i = one.0; j = other.0; first = one.1; second = other.1; group = one.3 ∙ sym other.3; p_is = one.2; l_is = other.2 }),
  );
}

-- where no link has a group, none shares one
pub sharing-none : (groups : List (List ℕ)) (list : List Holding) → length list ≡ 0 → AreHoldings groups (length groups) list → AreSharing groups []
sharing-none groups list none held = record {
  each = λ p l in_p in_l. (
    λ is. absurd (not_in_zero [] l refl is),
    λ common. absurd (let found : (held.all l common.0 in_l common.1).0 < length list = (held.all l common.0 in_l common.1).1 in omega (arith, found)),
  );
}

-- the set of a link of the graph g, which is seen as h
module _ (g h : Graph) (sets : List (List ℕ)) (p l : ℕ) (seen : g ≡ h) (grouped : IsGrouped g) (k : AreSharing g.groups sets) (in_p : p < link_count h) (in_l : l < link_count h) where
  shares-at : IsIn (set_at sets p) l ↔ ShareGroup h l p
  shares-at =
      let P : Graph → Type 0 = λ x. p < link_count x → l < link_count x → IsIn (set_at sets p) l ↔ ShareGroup x l p in
      subst P seen (λ in_p' in_l'. k.each p l (omega (arith, in_p', grouped.long)) (omega (arith, in_l', grouped.long))) in_p in_l

  pub shares-read : (read : List ℕ) → p < length sets → read ≡ get_or sets p read → IsIn read l ↔ ShareGroup h l p
  shares-read read within is = let P : List ℕ → Type 0 = λ x. IsIn x l ↔ ShareGroup h l p in subst P (get_or_default sets p [] read within ∙ sym is) shares-at

  pub shares-past : length sets ≤ p → ShareGroup h l p → ⊥
  shares-past past shared =
      let none : set_at sets p ≡ [] = get_or_past sets p [] past in
      let P : List ℕ → Type 0 = λ x. IsIn x l in
      not_in_zero [] l refl (subst P none (shares-at.1 shared))
