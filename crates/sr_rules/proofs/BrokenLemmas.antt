-- Broken rules: one verdict after the other, and that the facts determine them.
use Rattle.std.proofs.Common.{◌≡◌, ℕ, ◌+◌, ◌<◌, ◌≤◌, ◌⊎◌, inl, inr, ⊎_elim, List, [], ◌∷◌, ◌++◌, length, get_or, arith, ap, sym, ◌∙◌, subst, None, Some}
use Rattle.std.specs.Prelude.{Contains, All}
use Rattle.std.specs.List.Sorted.{IsStrictlyIncreasing}
use Rattle.std.proofs.lemmas.Bool.{cases_eq, cases_lt}
use Rattle.std.proofs.lemmas.List.{map_push, length-append, length-map, get_or-map, get_or-append-add, get_or_append_left}
use Rattle.std.proofs.lemmas.List.Elements.{All-push, All-contains, Contains-append_left, Contains-push}
use Rattle.std.proofs.lemmas.Map.Keys.{sorted_from_strictly_increasing, below_from_sorted}
use Rattle.std.proofs.lemmas.Option.{slice_get-get_or, slice_get_within, get_or_from_slice_get}
use Rattle.sr_model.specs.declared.rule.DomainRule.{DomainRule}
use Rattle.sr_model.specs.declared.rule.DomainRule.TheVariants.{TooManyNodes}
use Rattle.sr_laws.proofs.Ascending.{Ascends, AreAmong, ascending-one}
use Rattle.sr_lsdb.specs.declared.facts.Facts.{Facts}
use Rattle.sr_domain.specs.Rules.{IsRuleBroken, Keeps, AreKept, IsFirstBrokenRule, rank}
use Rattle.sr_domain.proofs.KeptLemmas.{keeps-same}
use Rattle.sr_domain.proofs.DeterminedRules.{broken-one, broken-not_kept, rank-below}
use Rattle.sr_domain.proofs.MemberLemmas.{here, later, cases, nowhere, mapped-from}
use Rattle.sr_rules.specs.Broken.{ranks, AreBrokenRules, AreBrokenBelow, IsFinding}

-- ---- one verdict after the other
-- a rule that is kept whatever it names
pub verdict-none : (facts : Facts) (before : ℕ) (rule : DomainRule) → rank rule ≡ before → Keeps facts rule → IsFinding facts before None
verdict-none facts before rule is keeps = λ other e. keeps-same facts rule other (is ∙ sym e) keeps

pub broken-start : (facts : Facts) → AreBrokenBelow facts 0 []
broken-start facts = record {
  broken = λ k d lt. absurd (omega arith);
  order = λ k lt. absurd (omega arith);
  below = λ k d lt. absurd (omega arith);
  kept = λ rule lt none. absurd (omega arith);
}

pub broken-skip : (facts : Facts) (count : ℕ) (rules : List DomainRule) → AreBrokenBelow facts count rules → IsFinding facts count None → AreBrokenBelow facts (count + 1) rules
broken-skip facts count rules before verdict = record {
  broken = before.broken;
  order = before.order;
  below = λ k d lt. (let up : rank (get_or rules k d) < count = before.below k d lt in omega arith);
  kept = λ rule lt none. ⊎_elim
      (λ (low : rank rule < count). before.kept rule low none)
      (λ (high : count ≤ rank rule). verdict rule (omega arith))
      (cases_lt (rank rule) count);
}

increasing-push : (xs : List ℕ) (x : ℕ) → IsStrictlyIncreasing xs → ((k : ℕ) → k < length xs → get_or xs k 0 < x) → IsStrictlyIncreasing (xs ++ x ∷ [])
increasing-push xs x up below k lt = ⊎_elim
    (λ (last : length xs ≤ k + 1).
    let end : length xs + 0 ≡ k + 1 = omega (arith, length-append xs (x ∷ [])) in
    let P : ℕ → Type 0 = λ n. get_or (xs ++ x ∷ []) k 0 < get_or (xs ++ x ∷ []) n 0 in
    subst P end (rw (get_or-append-add xs (x ∷ []) 0 0, get_or_append_left xs (x ∷ []) 0 k (omega arith)) (below k (omega arith))))
    (λ (inner : k + 1 < length xs). rw (get_or_append_left xs (x ∷ []) 0 k (omega arith), get_or_append_left xs (x ∷ []) 0 (k + 1) inner) (up k inner))
    (cases_le (length xs) (k + 1))
  where
    cases_le : (a b : ℕ) → (a ≤ b) ⊎ (b < a)
    cases_le a b = ⊎_elim (λ lt. inr lt) (λ ge. inl ge) (cases_lt b a)

ranks-below : (rules : List DomainRule) (count : ℕ) → All (λ (rule : DomainRule). rank rule < count) rules → (k : ℕ) → k < length (ranks rules) → get_or (ranks rules) k 0 < count
ranks-below rules count below k lt =
    let d : DomainRule = TooManyNodes 0 in
    let within : k < length rules = omega (arith, length-map rules rank) in
    let low : rank (get_or rules k d) < count = below k d within in
    omega (arith, get_or-map rank rules k d 0 within)

pub broken-push : (facts : Facts) (count : ℕ) (rules : List DomainRule) (rule : DomainRule) → AreBrokenBelow facts count rules → IsFinding facts count (Some rule) → AreBrokenBelow facts (count + 1) (rules ++ rule ∷ [])
broken-push facts count rules rule before verdict =
    let are : ranks (rules ++ rule ∷ []) ≡ ranks rules ++ rank rule ∷ [] = map_push rank rules rule in
    let is : rank rule ≡ count = verdict.1 in
    record {
      broken = All-push (IsRuleBroken facts) rules rule before.broken verdict.0;
      order = subst (λ (l : List ℕ). IsStrictlyIncreasing l) (sym are) (increasing-push (ranks rules) (rank rule) before.order (λ k lt. let low : get_or (ranks rules) k 0 < count = ranks-below rules count before.below k lt in omega arith));
      below = All-push (λ (r : DomainRule). rank r < count + 1) rules rule (λ k d lt. (let up : rank (get_or rules k d) < count = before.below k d lt in omega arith)) (omega arith);
      kept = λ other lt none. ⊎_elim
          (λ (low : rank other < count). before.kept other low (λ there. none (subst (λ (l : List ℕ). Contains l (rank other)) (sym are) (Contains-append_left (ranks rules) (rank rule ∷ []) (rank other) there))))
          (λ (high : count ≤ rank other).
          let same : rank rule ≡ rank other = omega arith in
          absurd (none (subst (λ n. Contains (ranks (rules ++ rule ∷ [])) n) same (subst (λ (l : List ℕ). Contains l (rank rule)) (sym are) (Contains-push (ranks rules) (rank rule))))))
          (cases_lt (rank other) count);
    }

pub broken-all : (facts : Facts) (count : ℕ) (rules : List DomainRule) → 9 ≤ count → AreBrokenBelow facts count rules → AreBrokenRules facts rules
broken-all facts count rules all below = record {
  broken = below.broken;
  order = below.order;
  kept = λ rule none. below.kept rule (let low : rank rule < 9 = rank-below rule in omega arith) none;
}

-- ---- the first is refused
pub nothing-told : (facts : Facts) → AreBrokenRules facts [] → AreKept facts 9
nothing-told facts told = λ rule lt. told.kept rule (λ there. nowhere (rank rule) there)

pub first-refused : (facts : Facts) (rule : DomainRule) (others : List DomainRule) → AreBrokenRules facts (rule ∷ others) → IsFirstBrokenRule facts rule
first-refused facts rule others told = record {
  broken = told.broken 0 rule (omega arith);
  earlier = λ other lt. told.kept other (λ there. not_there other lt there.0 there.1 there.2);
}
  where
    not_there : (other : DomainRule) → rank other < rank rule → (k : ℕ) → k < length (ranks (rule ∷ others)) → get_or (ranks (rule ∷ others)) k (rank other) ≡ rank other → ⊥
    not_there other lt k within is = ⊎_elim
        (λ (first : k ≡ 0).
        let P : ℕ → Type 0 = λ m. get_or (ranks (rule ∷ others)) m (rank other) ≡ rank other in
        let head : rank rule ≡ rank other = subst P first is in
        omega arith)
        (λ later.
        let up : rank rule < get_or (ranks (rule ∷ others)) k (rank other) = below_from_sorted (ranks (rule ∷ others)) 0 k (rank other) (sorted_from_strictly_increasing (ranks (rule ∷ others)) told.order) (omega arith) within in
        omega arith)
        (cases_eq k 0)

-- ---- the facts determine the broken rules
stands-or-not : (xs : List ℕ) (n : ℕ) → Contains xs n ⊎ (Contains xs n → ⊥)
stands-or-not [] n = inr (nowhere n)
stands-or-not (x ∷ xs) n = ⊎_elim
    (λ (same : x ≡ n). inl (subst (λ m. Contains (x ∷ xs) m) same (here x xs)))
    (λ differ. ⊎_elim
    (λ there. inl (later x xs n there))
    (λ none. inr (λ there. ⊎_elim differ none (cases x xs n there)))
    (stands-or-not xs n))
    (cases_eq x n)

-- the earlier one has fewer rules before it
abbrev ComesBefore : DomainRule → DomainRule → Type 0
ComesBefore one other = rank one < rank other

ranks-ascend : (rules : List DomainRule) → IsStrictlyIncreasing (ranks rules) → Ascends ComesBefore rules
ranks-ascend rules up i j a b lt at_i at_j =
    let within : j < length rules = slice_get_within rules j b at_j in
    let low : get_or rules i a ≡ a = get_or_from_slice_get rules i a a at_i in
    let high : get_or rules j b ≡ b = get_or_from_slice_get rules j b b at_j in
    let less : get_or (ranks rules) i 0 < get_or (ranks rules) j 0 = below_from_sorted (ranks rules) i j 0 (sorted_from_strictly_increasing (ranks rules) up) lt (omega (arith, length-map rules rank)) in
    omega (arith, get_or-map rank rules i a 0 (omega arith), get_or-map rank rules j b 0 within, ap rank low, ap rank high)

module _ (facts : Facts) (one other : List DomainRule) (a : AreBrokenRules facts one) (b : AreBrokenRules facts other) where
  there : (rule : DomainRule) → Contains one rule → Contains other rule
  there rule in_one =
      let broken : IsRuleBroken facts rule = All-contains (IsRuleBroken facts) one rule a.broken in_one in
      ⊎_elim
      (λ (told : Contains (ranks other) (rank rule)).
      let from = mapped-from rank other (rank rule) told in
      subst (λ (r : DomainRule). Contains other r) (broken-one facts from.0 rule from.2 (All-contains (IsRuleBroken facts) other from.0 b.broken from.1) broken) from.1)
      (λ none. absurd (broken-not_kept facts rule broken (b.kept rule none)))
      (stands-or-not (ranks other) (rank rule))

  among : AreAmong one other
  among k rule is =
      let c : Contains other rule = there rule (k, slice_get_within one k rule is, get_or_from_slice_get one k rule rule is) in
      (c.0, slice_get-get_or other c.0 rule c.1 ∙ ap Some c.2)

pub broken-determined : (facts : Facts) (one other : List DomainRule) → AreBrokenRules facts one → AreBrokenRules facts other → one ≡ other
broken-determined facts one other a b =
    ascending-one ComesBefore (λ rule lt. omega arith) (λ x y z lt le. omega arith) one other
    (ranks-ascend one a.order)
    (ranks-ascend other b.order)
    (among facts one other a b)
    (among facts other one b a)
