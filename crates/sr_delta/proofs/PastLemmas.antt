-- Nodes past the ends of changed links, as the changes are gone through.
use Rattle.std.proofs.Common.{◌≡◌, ◌↔◌, ℕ, ◌+◌, ◌<◌, ◌≤◌, ⊎_elim, inl, inr, Bool, true, false, List, [], ◌∷◌, ◌++◌, length, refl, arith, ap, sym, ◌∙◌, subst}
use Rattle.std.specs.Prelude.{not, ◌&&◌, ◌||◌, ◌==◌, nat_lt, Some, slice_get, slice_index}
use Rattle.std.proofs.lemmas.Bool.{cases_lt, and_parts, and_from, or_cases, or_left, or_right, lt-ltb, ltb-true, eqb-true, eq-eqb, cases_Bool, true≢false}
use Rattle.std.proofs.lemmas.List.{length_push}
use Rattle.std.proofs.lemmas.Option.{slice_get_within}
use Rattle.sr_seq.proofs.ListLemmas.{get-push}
use Rattle.sr_lanes.specs.Bits.{is_in, IsWithout}
use Rattle.sr_lanes.specs.Passes.{has_distance, is_tight}
use Rattle.sr_lanes.specs.declared.words.NodeBits.{NodeBits}
use Rattle.sr_lanes.proofs.SizeLemmas.{without-other, without-inside}
use Rattle.sr_model.specs.declared.link.TheConstants.{FAR}
use Rattle.sr_model.specs.Graph.{Graph, node_count, carries, has}
use Rattle.sr_spf.specs.Trees.{row_at}
use Rattle.sr_delta.specs.declared.change.Change.{Change}
use Rattle.sr_delta.specs.Changed.{change_at}
use Rattle.sr_delta.specs.Idle.{IsIdleChange}
use Rattle.sr_delta.specs.Lost.{IsPast, IsPastOneOf, AreLostToFirst, AreLostToChanges, AreLostSetsBelow}

-- a node is past w just where the sum is tight and w lets through
pub past-told : (g : Graph) (rows : List (List ℕ)) (u w v : ℕ) → v < length (row_at rows u) → (is_tight (row_at rows u) (slice_index (row_at rows u) w) (row_at rows w) v && carries g v w) ≡ true ↔ IsPast g rows u w v
past-told g rows u w v lt =
    let row : List ℕ = row_at rows u in
    let sum : ℕ = slice_index row w + slice_index (row_at rows w) v in (
      λ yes.
          let two = and_parts (is_tight row (slice_index row w) (row_at rows w) v) (carries g v w) yes in
          let told = and_parts (nat_lt v (length row)) (sum == slice_index row v) two.0 in
          record { carry = two.1; sum = eqb-true sum (slice_index row v) told.1 },
      λ past.
          and_from (is_tight row (slice_index row w) (row_at rows w) v) (carries g v w)
          (and_from (nat_lt v (length row)) (sum == slice_index row v) (lt-ltb v (length row) lt) (eq-eqb sum (slice_index row v) past.sum))
          past.carry,
    )

module _ (g : Graph) (rows : List (List ℕ)) (links : List Change) (u : ℕ) where
  -- of no change
  pub lost-none : (set : NodeBits) → length (row_at rows u) ≡ node_count g → ((v : ℕ) → is_in set v ≡ (nat_lt v (node_count g) && not (has_distance (row_at rows u) v))) → AreLostToFirst g rows links 0 u set
  lost-none set long tests =
      let row : List ℕ = row_at rows u in
      record {
        within = λ v is. ltb-true v (node_count g) (and_parts (nat_lt v (node_count g)) (not (has_distance row v)) (sym (tests v) ∙ is)).0;
        each = λ v lt.
            let below : nat_lt v (length row) ≡ true = lt-ltb v (length row) (omega (arith, long)) in (
              λ is.
                  let no : not (has_distance row v) ≡ true = (and_parts (nat_lt v (node_count g)) (not (has_distance row v)) (sym (tests v) ∙ is)).1 in
                  ⊎_elim
                  (λ (near : slice_index row v < FAR). absurd (true≢false (sym no ∙ ap not (and_from (nat_lt v (length row)) (nat_lt (slice_index row v) FAR) below (lt-ltb (slice_index row v) FAR near)))))
                  (λ (far : FAR ≤ slice_index row v). inl far)
                  (cases_lt (slice_index row v) FAR),
              λ lost. ⊎_elim
                  (λ (far : FAR ≤ slice_index row v).
                  let no : has_distance row v ≡ false = ⊎_elim
                  (λ (yes : has_distance row v ≡ true). absurd {0} (let low : slice_index row v < FAR = ltb-true (slice_index row v) FAR (and_parts (nat_lt v (length row)) (nat_lt (slice_index row v) FAR) yes).1 in omega (arith, far)))
                  (λ (no : has_distance row v ≡ false). no)
                  (cases_Bool (has_distance row v)) in
                  tests v ∙ and_from (nat_lt v (node_count g)) (not (has_distance row v)) (lt-ltb v (node_count g) lt) (ap not no))
                  (λ past. absurd (omega (arith, past.1)))
                  lost,
            );
      }

  -- an idle change loses nothing
  pub lost-idle : (n : ℕ) (set : NodeBits) → AreLostToFirst g rows links n u set → IsIdleChange (row_at rows u) (change_at links n) → AreLostToFirst g rows links (n + 1) u set
  lost-idle n set r idle = record {
    within = r.within;
    each = λ v lt. (
      λ is. ⊎_elim (λ far. inl far) (λ (p : IsPastOneOf g rows links n u v). inr (p.0, (let low = p.1 in omega arith), p.2, p.3)) ((r.each v lt).0 is),
      λ lost. (r.each v lt).1 (⊎_elim
          (λ far. inl far)
          (λ (p : IsPastOneOf g rows links (n + 1) u v). ⊎_elim
          (λ (low : p.0 < n). inr (p.0, low, p.2, p.3))
          (λ (up : n ≤ p.0). let at : n ≡ p.0 = let lt = p.1 in omega arith in absurd (p.2 (subst (λ k. IsIdleChange (row_at rows u) (change_at links k)) at idle)))
          (cases_lt p.0 n))
          lost),
    );
  }

  -- another loses the nodes past its end
  pub lost-more : (n : ℕ) (set past more : NodeBits) → AreLostToFirst g rows links n u set → (IsIdleChange (row_at rows u) (change_at links n) → ⊥) → ((v : ℕ) → is_in past v ≡ true → v < node_count g) → ((v : ℕ) → v < node_count g → (is_in past v ≡ true) ↔ IsPast g rows u (change_at links n).to.0 v) → ((v : ℕ) → is_in more v ≡ (is_in set v || is_in past v)) → AreLostToFirst g rows links (n + 1) u more
  lost-more n set past more r busy within each both = record {
    within = λ v is. ⊎_elim (λ a. r.within v a) (λ b. within v b) (or_cases (is_in set v) (is_in past v) (sym (both v) ∙ is));
    each = λ v lt. (
      λ is. ⊎_elim
          (λ a. ⊎_elim (λ far. inl far) (λ (p : IsPastOneOf g rows links n u v). inr (p.0, (let low = p.1 in omega arith), p.2, p.3)) ((r.each v lt).0 a))
          (λ b. inr (n, omega arith, busy, (each v lt).0 b))
          (or_cases (is_in set v) (is_in past v) (sym (both v) ∙ is)),
      λ lost. ⊎_elim
          (λ far. both v ∙ or_left (is_in set v) (is_in past v) ((r.each v lt).1 (inl far)))
          (λ (p : IsPastOneOf g rows links (n + 1) u v). ⊎_elim
          (λ (low : p.0 < n). both v ∙ or_left (is_in set v) (is_in past v) ((r.each v lt).1 (inr (p.0, low, p.2, p.3))))
          (λ (up : n ≤ p.0).
          let at : p.0 ≡ n = let lt = p.1 in omega arith in
          let here : is_in past v ≡ true = (each v lt).1 (subst (λ k. IsPast g rows u (change_at links k).to.0 v) at p.3) in
          both v ∙ or_right (is_in set v) (is_in past v) here)
          (cases_lt p.0 n))
          lost,
    );
  }

  -- u itself isn't lost
  pub lost-over : (set less : NodeBits) → AreLostToFirst g rows links (length links) u set → IsWithout set less u → AreLostToChanges g rows links u less
  lost-over set less r taken = record {
    within = λ v is. r.within v (without-inside set less u v taken is).1;
    each = λ v lt. (
      λ is.
          let both = without-inside set less u v taken is in
          (both.0, (r.each v lt).0 both.1),
      λ lost. without-other set less u v taken lost.0 ∙ (r.each v lt).1 lost.1,
    );
  }

module _ (g : Graph) (rows : List (List ℕ)) (links : List Change) (marks : List Bool) where
  -- of no node
  pub sets-none : AreLostSetsBelow g rows links marks 0 []
  sets-none = record { long = refl; each = λ u set lt. absurd (omega arith) }

  -- of one node more
  pub sets-push : (n : ℕ) (sets : List NodeBits) (set : NodeBits) → AreLostSetsBelow g rows links marks n sets → (has marks n ≡ false → AreLostToChanges g rows links n set) → AreLostSetsBelow g rows links marks (n + 1) (sets ++ set ∷ [])
  sets-push n sets set r is = record {
    long = length_push sets set ∙ omega (arith, r.long);
    each = λ u other lt off at. ⊎_elim
        (λ (low : slice_get sets u ≡ Some other).
        let below : u < n = let within = slice_get_within sets u other low in omega (arith, within, r.long) in
        r.each u other below off low)
        (λ o.
        let last : u ≡ n = omega (arith, o.0, r.long) in
        let P : ℕ → NodeBits → Type 0 = λ k s. AreLostToChanges g rows links k s in
        subst (λ k. P k other) (sym last) (subst (λ s. P n s) o.1 (is (subst (λ k. has marks k ≡ false) last off))))
        (get-push sets set u other at);
  }
