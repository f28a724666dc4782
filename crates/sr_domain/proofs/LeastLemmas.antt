-- The least node of which a fact holds, found by going through ascending nodes.
use Rattle.std.proofs.Common.{◌≡◌, ℕ, ◌<◌, ◌≤◌, ◌+◌, List, length, get_or, arith, subst, sym, ◌∙◌, ⊎_elim}
use Rattle.std.specs.List.Sorted.{IsStrictlyIncreasing}
use Rattle.std.proofs.lemmas.Bool.{cases_lt}
use Rattle.std.proofs.lemmas.List.{get_or_default}
use Rattle.std.proofs.lemmas.Map.Keys.{sorted_from_strictly_increasing, below_from_sorted}
use Rattle.sr_domain.specs.Rules.{IsLeastNode, HoldsNowhere}

-- the fact holds of none of the first m nodes
pub record NoneBelow (nodes : List ℕ) (P : ℕ → Type 0) (count : ℕ) : Type 0 where
  pub none : (k : ℕ) → k < count → P (get_or nodes k 0) → ⊥

pub none-yet : (nodes : List ℕ) (P : ℕ → Type 0) → NoneBelow nodes P 0
none-yet nodes P = record { none = λ k lt. absurd (omega arith) }

pub none-all : (nodes : List ℕ) (P : ℕ → Type 0) (count : ℕ) → length nodes ≤ count → NoneBelow nodes P count → HoldsNowhere nodes P
none-all nodes P count all below = λ node there holds.
    let at : get_or nodes there.0 0 ≡ node = get_or_default nodes there.0 0 node there.1 ∙ there.2 in
    below.none there.0 (let lt : there.0 < length nodes = there.1 in omega arith) (subst P (sym at) holds)

pub least-at : (nodes : List ℕ) (P : ℕ → Type 0) (i node : ℕ) → IsStrictlyIncreasing nodes → i < length nodes → node ≡ get_or nodes i node → NoneBelow nodes P i → P node → IsLeastNode nodes P node
least-at nodes P i node up within is below holds = record {
  among = (i, within, sym is);
  holds = holds;
  least = λ other there here. ⊎_elim
      (λ (before : there.0 < i). absurd (below.none there.0 before (let at : get_or nodes there.0 0 ≡ other = get_or_default nodes there.0 0 other there.1 ∙ there.2 in subst P (sym at) here)))
      (λ (after : i ≤ there.0). not_less other there.0 there.1 there.2 after)
      (cases_lt there.0 i);
}
  where
    not_less : (other k : ℕ) → k < length nodes → get_or nodes k other ≡ other → i ≤ k → node ≤ other
    not_less other k lt e le = ⊎_elim
        (λ (more : i < k).
        let far : get_or nodes i other < get_or nodes k other = below_from_sorted nodes i k other (sorted_from_strictly_increasing nodes up) more lt in
        let same : get_or nodes i other ≡ node = get_or_default nodes i other node within ∙ sym is in
        omega arith)
        (λ (less : k ≤ i).
        let eq : k ≡ i = omega arith in
        let same : get_or nodes i other ≡ node = get_or_default nodes i other node within ∙ sym is in
        let P : ℕ → Type 0 = λ m. get_or nodes m other ≡ other in
        let here : get_or nodes i other ≡ other = subst P eq e in
        omega arith)
        (cases_lt i k)

pub none-more : (nodes : List ℕ) (P : ℕ → Type 0) (i node : ℕ) → i < length nodes → node ≡ get_or nodes i node → NoneBelow nodes P i → (P node → ⊥) → NoneBelow nodes P (i + 1)
none-more nodes P i node within is below not = record {
  none = λ k lt holds. ⊎_elim
      (λ (before : k < i). below.none k before holds)
      (λ (after : i ≤ k).
      let eq : k ≡ i = omega arith in
      let Q : ℕ → Type 0 = λ m. P (get_or nodes m 0) in
      not (subst P (get_or_default nodes i 0 node within ∙ sym is) (subst Q eq holds)))
      (cases_lt k i);
}
