-- A relaxation keeps what the search keeps, and a stable row is the row of distances.
use Rattle.std.proofs.Common.{◌≡◌, ◌≢◌, ℕ, ◌+◌, ◌*◌, ◌<◌, ◌≤◌, ⊎_elim, Bool, true, false, cond, List, [], ◌∷◌, ◌++◌, length, get_or, set, refl, arith, ◌∙◌, subst}
use Rattle.std.specs.Prelude.{sum, nat_lt, slice_index}
use Rattle.std.proofs.lemmas.List.{length-set, get_or-set_same, get_or-set_other}
use Rattle.std.proofs.lemmas.List.Sums.{sum_by-set, count_by-le-length}
use Rattle.std.proofs.lemmas.Bool.{cond_both, ltb-true, ltb-false, cases_eq, cases_lt}
use Rattle.std.proofs.lemmas.Bool.Decides.{nat_tests}
use Rattle.sr_model.specs.Graph.{Graph, link_count, tail, head, metric, has, carries, link_at, IsLink}
use Rattle.sr_model.specs.declared.link.TheConstants.{FAR}
use Rattle.sr_model.specs.Walk.{IsWalk, cost, IsRow}
use Rattle.sr_walks.proofs.Walks.{IsWalk-push, cost-append, carries-cases, begins-self, stable-cost, stable-near}
use Rattle.sr_spf.specs.Relax.{falls, relaxed, near_count, IsTentative}

-- none of the links below n that a walk from s may take would lower a cell
abbrev pub IsStableBelow : Graph → List Bool → ℕ → ℕ → List ℕ → Type 0
IsStableBelow g x s n cells = (l : ℕ) → l < n → has x l ≡ false → carries g s (tail g l) ≡ true → slice_index cells (head g l) ≤ slice_index cells (tail g l) + metric g l

-- one if the number is near
abbrev one_near : ℕ → ℕ
one_near c = cond (nat_lt c FAR) 1 0

near-more : (cells : List ℕ) (i c : ℕ) → i < length cells → c < FAR → near_count cells ≤ near_count (set cells i c)
near-more cells i c within near =
    let e : near_count (set cells i c) + one_near (get_or cells i 0) ≡ near_count cells + one_near c = sum_by-set one_near cells i c 0 within in
    grind (arith, nat_tests)

near-new : (cells : List ℕ) (i c : ℕ) → i < length cells → c < FAR → FAR ≤ get_or cells i 0 → near_count (set cells i c) ≡ near_count cells + 1
near-new cells i c within near far =
    let e : near_count (set cells i c) + one_near (get_or cells i 0) ≡ near_count cells + one_near c = sum_by-set one_near cells i c 0 within in
    grind (arith, nat_tests)

module _ (g : Graph) (x : List Bool) (s : ℕ) (cells : List ℕ) (t : IsTentative g x s cells) (l : ℕ) (within : l < link_count g) (outside : has x l ≡ false) (carry : carries g s (tail g l) ≡ true) (c : ℕ) (is : c ≡ get_or cells (tail g l) 0 + metric g l) (lower : c < get_or cells (head g l) 0) where
  tentative-set : IsTentative g x s (set cells (head g l) c)
  tentative-set =
      let k : IsLink g (link_at g l) = t.graph.each l within in
      let top_head : get_or cells (head g l) 0 ≤ FAR = t.top (head g l) in
      let tail_near : get_or cells (tail g l) 0 < FAR = omega arith in
      let c_near : c < FAR = omega arith in
      let at_head : head g l < length cells = omega (arith, t.long) in
      let same : get_or (set cells (head g l) c) (head g l) 0 ≡ c = get_or-set_same cells (head g l) c 0 at_head in
      let others = λ (v : ℕ) (ne : v ≢ head g l). get_or-set_other cells (head g l) v c 0 ne in
      let more : near_count cells ≤ near_count (set cells (head g l) c) = near-more cells (head g l) c at_head c_near in
      let tail_bound : get_or cells (tail g l) 0 + 16777214 ≤ 16777214 * near_count cells = t.bound (tail g l) k.0 tail_near in
      record {
        graph = t.graph;
        long = length-set cells (head g l) c ∙ t.long;
        source = let ne : s ≢ head g l = λ e. (let z : get_or cells (head g l) 0 ≡ 0 = subst (λ v. get_or cells v 0 ≡ 0) e t.source in absurd (omega arith)) in others s ne ∙ t.source;
        within = t.within;
        top = λ v. ⊎_elim (λ e. rw e (rw same (omega arith))) (λ ne. rw (others v ne) (t.top v)) (cases_eq v (head g l));
        reached = λ v inside near. ⊎_elim
            (λ e. let r : (p : List ℕ) × IsWalk g x s p (tail g l) × (cost g p ≡ get_or cells (tail g l) 0) = t.reached (tail g l) k.0 tail_near in
            rw e (rw same (⊎_elim
            (λ own. let z : get_or cells (tail g l) 0 ≡ 0 = rw own t.source in (l ∷ [], (within, outside, own, refl, tt), omega arith))
            (λ clear. (r.0 ++ l ∷ [], IsWalk-push g x s r.0 l within outside clear r.1, omega (arith, cost-append g r.0 (l ∷ []), r.2)))
            (carries-cases g s (tail g l) carry))))
            (λ ne. rw (others v ne) (t.reached v inside (rw (← others v ne) near)))
            (cases_eq v (head g l));
        bound = λ v inside near. ⊎_elim
            (λ e. rw e (rw same (⊎_elim
            (λ was. let b : get_or cells (head g l) 0 + 16777214 ≤ 16777214 * near_count cells = t.bound (head g l) k.1 was in omega arith)
            (λ far. let new : near_count (set cells (head g l) c) ≡ near_count cells + 1 = near-new cells (head g l) c at_head c_near far in omega arith)
            (cases_lt (get_or cells (head g l) 0) FAR))))
            (λ ne. let b : get_or cells v 0 + 16777214 ≤ 16777214 * near_count cells = t.bound v inside (rw (← others v ne) near) in rw (others v ne) (omega arith))
            (cases_eq v (head g l));
      }

  sum-lower : sum (set cells (head g l) c) < sum cells
  sum-lower =
      let k : IsLink g (link_at g l) = t.graph.each l within in
      let at_head : head g l < length cells = omega (arith, t.long) in
      omega (arith, sum_by-set (λ y. y) cells (head g l) c 0 at_head)

-- a relaxation by a link outside x keeps what the search keeps
pub relaxed-IsTentative : (g : Graph) (x : List Bool) (s : ℕ) (cells : List ℕ) (l : ℕ) → IsTentative g x s cells → l < link_count g → has x l ≡ false → carries g s (tail g l) ≡ true → IsTentative g x s (relaxed (tail g l) (head g l) (metric g l) cells)
relaxed-IsTentative g x s cells l t within outside carry =
    cond_both (falls (tail g l) (head g l) (metric g l) cells) (set cells (head g l) (get_or cells (tail g l) 0 + metric g l)) cells (IsTentative g x s)
    (λ yes. tentative-set g x s cells t l within outside carry (get_or cells (tail g l) 0 + metric g l) refl (ltb-true _ _ yes))
    (λ no. t)

-- it lowers the sum where it says so, and else nothing changes and the link is stable
pub relaxed-falls : (g : Graph) (x : List Bool) (s : ℕ) (cells : List ℕ) (l : ℕ) → IsTentative g x s cells → l < link_count g → has x l ≡ false → carries g s (tail g l) ≡ true → falls (tail g l) (head g l) (metric g l) cells ≡ true → sum (relaxed (tail g l) (head g l) (metric g l) cells) < sum cells
relaxed-falls g x s cells l t within outside carry fell =
    rw fell (sum-lower g x s cells t l within outside carry (get_or cells (tail g l) 0 + metric g l) refl (ltb-true _ _ fell))

pub relaxed-stays : (g : Graph) (cells : List ℕ) (l : ℕ) → falls (tail g l) (head g l) (metric g l) cells ≡ false → (relaxed (tail g l) (head g l) (metric g l) cells ≡ cells) × (get_or cells (head g l) 0 ≤ get_or cells (tail g l) 0 + metric g l)
relaxed-stays g cells l stays = (rw stays refl, ltb-false _ _ stays)

-- with no link left to relax, the row is the row of distances
pub IsRow-from_stable : (g : Graph) (x : List Bool) (s : ℕ) (cells : List ℕ) → IsTentative g x s cells → IsStableBelow g x s (link_count g) cells → IsRow g x s cells
IsRow-from_stable g x s cells t stable = record {
  long = t.long;
  each = λ v inside. record {
    top = t.top v;
    near = λ near. record {
      reached = t.reached v inside near;
      least = λ p a. let b : get_or cells v 0 ≤ get_or cells s 0 + cost g p = stable-cost g x s cells stable s p v a (begins-self g s p) in omega (arith, t.source);
    };
    far = λ far p a.
        let near : get_or cells v 0 < FAR = stable-near g x s cells FAR
        (λ l within outside carry tail_near.
        let k : IsLink g (link_at g l) = t.graph.each l within in
        let b : get_or cells (tail g l) 0 + 16777214 ≤ 16777214 * near_count cells = t.bound (tail g l) k.0 tail_near in
        let few : near_count cells ≤ length cells = count_by-le-length (λ c. nat_lt c FAR) cells in
        let low : get_or cells (head g l) 0 ≤ get_or cells (tail g l) 0 + metric g l = stable l within outside carry in
        omega (arith, t.long, t.graph.few_nodes))
        s p v a (begins-self g s p) (omega (arith, t.source)) in
        absurd (omega arith);
  };
}
