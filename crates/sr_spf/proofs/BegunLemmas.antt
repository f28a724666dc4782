-- Known distances are what a search keeps, and each lost node that is entered leaves one fewer.
use Rattle.std.proofs.Common.{◌≡◌, ◌≢◌, ℕ, zero, suc, ◌+◌, ◌*◌, ◌<◌, ◌≤◌, ◌⊎◌, ⊎_elim, inl, inr, Bool, true, false, cond, List, [], ◌∷◌, ◌++◌, length, get_or, set, refl, arith, ap, sym, ◌∙◌, subst, below_more}
use Rattle.std.specs.Prelude.{nat_lt, Contains, IsPermutation, count_by}
use Rattle.std.specs.declared.cmp.Reverse.{Reverse}
use Rattle.std.proofs.lemmas.List.{get_or_default, get_or-set_same, get_or-set_other}
use Rattle.std.proofs.lemmas.List.Sums.{sum_by-set, sum_by-le-sum_by}
use Rattle.std.proofs.lemmas.List.Elements.{All-cons, All-nil, Contains-append_right}
use Rattle.std.proofs.lemmas.List.Sorted.{Contains-permutation, All-permutation}
use Rattle.std.proofs.lemmas.Bool.{lt-ltb, cases_eq, cases_lt}
use Rattle.std.proofs.lemmas.Bool.Decides.{nat_tests}
use Rattle.sr_model.specs.Graph.{Graph, node_count, link_count, tail, head, metric, has, carries, link_at, IsLink}
use Rattle.sr_model.specs.declared.link.NodeNo.{NodeNo}
use Rattle.sr_model.specs.declared.link.LinkNo.{LinkNo}
use Rattle.sr_model.specs.declared.link.TheConstants.{FAR}
use Rattle.sr_model.specs.Walk.{IsWalk, cost}
use Rattle.sr_walks.proofs.Walks.{IsWalk-push, cost-append, carries-cases}
use Rattle.sr_spf.specs.Relax.{falls, relaxed, IsTentative, near_count}
use Rattle.sr_spf.specs.Queue.{entry, IsNodeEntry, IsQueued}
use Rattle.sr_spf.specs.Begun.{IsBegun, StandsFrom, IsSettledBefore, IsEntered, IsLeastWay}
use Rattle.sr_graph.specs.Members.{number_at}
use Rattle.sr_graph.specs.Ranges.{EndAt}
use Rattle.sr_spf.proofs.RelaxLemmas.{relaxed-IsTentative}

-- the entries of the queue
abbrev Entries : Type 0
Entries = List (Reverse ℕ)

-- one if the number is below b
abbrev one_below : ℕ → ℕ → ℕ
one_below b c = cond (nat_lt c b) 1 0

-- how many numbers are below b
abbrev below_count : ℕ → List ℕ → ℕ
below_count b cells = count_by (λ c. nat_lt c b) cells

one_below-le : (a b : ℕ) → a ≤ b → (c : ℕ) → one_below a c ≤ one_below b c
one_below-le a b le c = grind (arith, nat_tests)

-- a number from a up to below b makes the count larger
below_count-more : (cells : List ℕ) (a b i : ℕ) → i < length cells → a ≤ get_or cells i 0 → get_or cells i 0 < b → below_count a cells + 1 ≤ below_count b cells
below_count-more cells a b i within from to =
    let low : below_count a (set cells i b) + one_below a (get_or cells i 0) ≡ below_count a cells + one_below a b = sum_by-set (one_below a) cells i b 0 within in
    let high : below_count b (set cells i b) + one_below b (get_or cells i 0) ≡ below_count b cells + one_below b b = sum_by-set (one_below b) cells i b 0 within in
    let le : below_count a (set cells i b) ≤ below_count b (set cells i b) = sum_by-le-sum_by (one_below a) (one_below b) (set cells i b) (one_below-le a b (omega arith)) in
    grind (arith, nat_tests)

-- a cell is what a walk costs
begun-reached : (g : Graph) (x : List Bool) (s : ℕ) (cells : List ℕ) (lost : List NodeNo) → IsBegun g x s cells lost → (b v : ℕ) → v < node_count g → get_or cells v 0 < FAR → get_or cells v 0 < b → (p : List ℕ) × IsWalk g x s p v × (cost g p ≡ get_or cells v 0)
begun-reached g x s cells lost t zero v inside near low = absurd (omega arith)
begun-reached g x s cells lost t (suc b) v inside near low =
    ⊎_elim
    (λ (e : v ≡ s). ([], sym e, sym (ap (λ k. get_or cells k 0) e ∙ t.source)))
    (λ (l, within, outside, carry, from_near, ends, sum).
    let k : IsLink g (link_at g l) = t.graph.each l within in
    let r : (p : List ℕ) × IsWalk g x s p (tail g l) × (cost g p ≡ get_or cells (tail g l) 0) = begun-reached g x s cells lost t b (tail g l) k.0 from_near (omega arith) in
    ⊎_elim
    (λ (own : tail g l ≡ s). let z : get_or cells (tail g l) 0 ≡ 0 = ap (λ k. get_or cells k 0) own ∙ t.source in (l ∷ [], (within, outside, own, ends, tt), omega arith))
    (λ clear. (r.0 ++ l ∷ [], subst (λ w. IsWalk g x s (r.0 ++ l ∷ []) w) ends (IsWalk-push g x s r.0 l within outside clear r.1), omega (arith, cost-append g r.0 (l ∷ []), r.2)))
    (carries-cases g s (tail g l) carry))
    (t.ways v inside near)

-- a cell is no more than the nodes with lesser cells allow
begun-bound : (g : Graph) (x : List Bool) (s : ℕ) (cells : List ℕ) (lost : List NodeNo) → IsBegun g x s cells lost → (b v : ℕ) → v < node_count g → get_or cells v 0 < FAR → get_or cells v 0 < b → get_or cells v 0 ≤ 16777214 * below_count (get_or cells v 0) cells
begun-bound g x s cells lost t zero v inside near low = absurd (omega arith)
begun-bound g x s cells lost t (suc b) v inside near low =
    ⊎_elim
    (λ (e : v ≡ s). let z : get_or cells v 0 ≡ 0 = ap (λ k. get_or cells k 0) e ∙ t.source in omega arith)
    (λ (l, within, outside, carry, from_near, ends, sum).
    let k : IsLink g (link_at g l) = t.graph.each l within in
    let before : get_or cells (tail g l) 0 ≤ 16777214 * below_count (get_or cells (tail g l) 0) cells = begun-bound g x s cells lost t b (tail g l) k.0 from_near (omega arith) in
    let more : below_count (get_or cells (tail g l) 0) cells + 1 ≤ below_count (get_or cells v 0) cells = below_count-more cells (get_or cells (tail g l) 0) (get_or cells v 0) (tail g l) (omega (arith, t.long)) (omega arith) (omega arith) in
    omega arith)
    (t.ways v inside near)

-- known distances are what a search keeps
begun-IsTentative : (g : Graph) (x : List Bool) (s : ℕ) (cells : List ℕ) (lost : List NodeNo) → IsBegun g x s cells lost → IsTentative g x s cells
begun-IsTentative g x s cells lost t = record {
  graph = t.graph;
  long = t.long;
  source = t.source;
  within = t.within;
  top = t.top;
  reached = λ v inside near. begun-reached g x s cells lost t FAR v inside near near;
  bound = λ v inside near.
      let before : get_or cells v 0 ≤ 16777214 * below_count (get_or cells v 0) cells = begun-bound g x s cells lost t FAR v inside near near in
      let more : below_count (get_or cells v 0) cells + 1 ≤ near_count cells = below_count-more cells (get_or cells v 0) FAR v (omega (arith, t.long)) (omega arith) near in
      omega arith;
}

-- before the first lost node is entered, no node waits
pub entered-start : (g : Graph) (x : List Bool) (s : ℕ) (cells : List ℕ) (entries : Entries) (lost : List NodeNo) → IsBegun g x s cells lost → entries ≡ [] → IsEntered (record { graph = g; without = x; source = s }) cells entries lost 0
entered-start g x s cells entries lost t none = record {
  kept = begun-IsTentative g x s cells lost t;
  inside = rw none (All-nil (IsNodeEntry g));
  waits = λ v inside near. inr (λ l within outside carry begins.
      let k : IsLink g (link_at g l) = t.graph.each l within in
      ⊎_elim
      (λ to_near. inr (t.stable l within outside carry (rw begins near) to_near))
      (λ far. let c : Contains lost (record { 0 = head g l }) = t.listed (head g l) k.1 far in inl (c.0, omega arith, c.1, c.2))
      (cases_lt (get_or cells (head g l) 0) FAR));
}

-- after the last one the search may go on
pub queued-entered : (g : Graph) (x : List Bool) (s : ℕ) (cells : List ℕ) (entries : Entries) (lost : List NodeNo) → IsEntered (record { graph = g; without = x; source = s }) cells entries lost (length lost) → IsQueued (record { graph = g; without = x; source = s }) cells entries s (link_count g)
queued-entered g x s cells entries lost t = record {
  kept = t.kept;
  inside = t.inside;
  waits = λ v inside near. ⊎_elim
      (λ w. inl w)
      (λ settled. inr (λ l within outside carry begins below. ⊎_elim
      (λ stands. absurd (omega (arith, stands.1, stands.2)))
      (λ stable. stable)
      (settled l within outside carry begins)))
      (t.waits v inside near);
}

-- where a node stands from place i on, it stands there or behind
stands-next : (lost : List NodeNo) (i v w : ℕ) → i < length lost → get_or lost i (record { 0 = v }) ≡ record { 0 = v } → StandsFrom lost i w → (w ≡ v) ⊎ StandsFrom lost (i + 1) w
stands-next lost i v w within at (j, from, below, is) =
    ⊎_elim
    (λ (e : j ≡ i).
    let one : get_or lost i (record { 0 = w }) ≡ record { 0 = w } = subst (λ k. get_or lost k (record { 0 = w }) ≡ record { 0 = w }) e is in
    inl (ap (λ (n : NodeNo). n.0) (sym one ∙ get_or_default lost i (record { 0 = w }) (record { 0 = v }) within ∙ at)))
    (λ (ne : j ≢ i). inr (j, omega arith, below, is))
    (cases_eq j i)

-- a lost node whose cell no way lowers
pub entered-stays : (g : Graph) (x : List Bool) (s : ℕ) (cells : List ℕ) (entries : Entries) (lost : List NodeNo) (i w c : ℕ) → IsEntered (record { graph = g; without = x; source = s }) cells entries lost i → i < length lost → get_or lost i (record { 0 = w }) ≡ record { 0 = w } → IsLeastWay g x s cells w c → get_or cells w 0 ≤ c → IsEntered (record { graph = g; without = x; source = s }) cells entries lost (i + 1)
entered-stays g x s cells entries lost i w c t within place least stays = record {
  kept = t.kept;
  inside = t.inside;
  waits = λ v inside near. ⊎_elim
      (λ h. inl h)
      (λ (settled : IsSettledBefore (record { graph = g; without = x; source = s }) cells lost i v). inr (λ l below outside carry begins. ⊎_elim
      (λ (stands : StandsFrom lost i (head g l)). ⊎_elim
      (λ (e : head g l ≡ w). let le : c ≤ get_or cells (tail g l) 0 + metric g l = least.least l below outside carry e in inr (rw (ap (λ k. get_or cells k 0) e) (omega arith)))
      (λ behind. inl behind)
      (stands-next lost i w (head g l) within place stands))
      (λ (stable : get_or cells (head g l) 0 ≤ get_or cells (tail g l) 0 + metric g l). inr stable)
      (settled l below outside carry begins)))
      (t.waits v inside near);
}

-- a lost node whose cell falls to c, so that it waits. The row after it is `a`
module _ (g : Graph) (x : List Bool) (s : ℕ) (cells a : List ℕ) (entries entries' : Entries) (lost : List NodeNo) (i w c : ℕ) (t : IsEntered (record { graph = g; without = x; source = s }) cells entries lost i) (kept : IsTentative g x s a) (within : i < length lost) (place : get_or lost i (record { 0 = w }) ≡ record { 0 = w }) (node : w < node_count g) (least : IsLeastWay g x s cells w c) (lower : c < get_or cells w 0) (low : get_or a w 0 ≡ c) (others : (v : ℕ) → v ≢ w → get_or a v 0 ≡ get_or cells v 0) (perm : IsPermutation (entry c w ∷ entries) entries') where
  no_higher : (v : ℕ) → get_or a v 0 ≤ get_or cells v 0
  no_higher v = ⊎_elim (λ e. rw e (omega arith)) (λ ne. omega (arith, others v ne)) (cases_eq v w)

  still_in : (e : Reverse ℕ) → Contains entries e → Contains entries' e
  still_in e h = Contains-permutation _ entries' e perm (Contains-append_right (entry c w ∷ []) entries e h)

  new_in : Contains entries' (entry c w)
  new_in = Contains-permutation _ entries' _ perm (0, omega arith, refl)

  still_settled : (v : ℕ) → v ≢ w → IsSettledBefore (record { graph = g; without = x; source = s }) cells lost i v → IsSettledBefore (record { graph = g; without = x; source = s }) a lost (i + 1) v
  still_settled v apart settled l below outside carry begins =
      let same : get_or a (tail g l) 0 ≡ get_or cells (tail g l) 0 = others (tail g l) (λ e. apart (sym begins ∙ e)) in
      ⊎_elim
      (λ (stands : StandsFrom lost i (head g l)). ⊎_elim
      (λ (e : head g l ≡ w). let le : c ≤ get_or cells (tail g l) 0 + metric g l = least.least l below outside carry e in inr (rw (ap (λ k. get_or a k 0) e) (omega arith)))
      (λ behind. inl behind)
      (stands-next lost i w (head g l) within place stands))
      (λ (stable : get_or cells (head g l) 0 ≤ get_or cells (tail g l) 0 + metric g l). inr (omega (arith, no_higher (head g l))))
      (settled l below outside carry begins)

  entered-lower : IsEntered (record { graph = g; without = x; source = s }) a entries' lost (i + 1)
  entered-lower = record {
    kept = kept;
    inside = All-permutation (IsNodeEntry g) _ entries' perm (All-cons (IsNodeEntry g) (entry c w) entries (c, w, node, refl) t.inside);
    waits = λ v inside near. ⊎_elim
        (λ (e : v ≡ w). inl (rw e (rw low new_in)))
        (λ apart. let same : get_or a v 0 ≡ get_or cells v 0 = others v apart in
        rw same (⊎_elim
        (λ h. inl (still_in _ h))
        (λ settled. inr (still_settled v apart settled))
        (t.waits v inside (rw (← same) near))))
        (cases_eq v w);
  }

-- the row in which a node's cell falls to the length of a way
pub fallen-IsTentative : (g : Graph) (x : List Bool) (s : ℕ) (cells : List ℕ) (w c : ℕ) → IsTentative g x s cells → IsLeastWay g x s cells w c → c < get_or cells w 0 → IsTentative g x s (set cells w c)
fallen-IsTentative g x s cells w c t least lower =
    let (l, within, outside, carry, ends, is) = least.way lower in
    let fell : falls (tail g l) (head g l) (metric g l) cells ≡ true = rw (ends, is) (lt-ltb c (get_or cells w 0) lower) in
    let r : relaxed (tail g l) (head g l) (metric g l) cells ≡ set cells w c = rw fell (rw (ends, is) refl) in
    subst (IsTentative g x s) r (relaxed-IsTentative g x s cells l t within outside carry)

pub entered-push : (g : Graph) (x : List Bool) (s : ℕ) (cells : List ℕ) (entries entries' : Entries) (lost : List NodeNo) (i w c : ℕ) → IsEntered (record { graph = g; without = x; source = s }) cells entries lost i → i < length lost → get_or lost i (record { 0 = w }) ≡ record { 0 = w } → w < node_count g → IsLeastWay g x s cells w c → c < get_or cells w 0 → IsPermutation (entry c w ∷ entries) entries' → IsEntered (record { graph = g; without = x; source = s }) (set cells w c) entries' lost (i + 1)
entered-push g x s cells entries entries' lost i w c t within place node least lower perm =
    entered-lower g x s cells (set cells w c) entries entries' lost i w c t (fallen-IsTentative g x s cells w c t.kept least lower) within place node least lower
    (get_or-set_same cells w c 0 (omega (arith, t.kept.long)))
    (λ v ne. get_or-set_other cells w v c 0 ne) perm

-- the least way to node v by the links that stand before place i
pub record IsLeastSoFar (g : Graph) (x : List Bool) (s : ℕ) (cells : List ℕ) (links : List LinkNo) (i v c : ℕ) : Type 0 where
  pub cell : c ≤ get_or cells v 0
  pub least : (j : ℕ) → j < i → has x (number_at links j) ≡ false → carries g s (tail g (number_at links j)) ≡ true → c ≤ get_or cells (tail g (number_at links j)) 0 + metric g (number_at links j)
  pub way : c < get_or cells v 0 → (l : ℕ) × (l < link_count g) × (has x l ≡ false) × (carries g s (tail g l) ≡ true) × (head g l ≡ v) × (get_or cells (tail g l) 0 + metric g l ≡ c)

-- before the first link
pub least-start : (g : Graph) (x : List Bool) (s : ℕ) (cells : List ℕ) (links : List LinkNo) (v c : ℕ) → c ≡ get_or cells v 0 → IsLeastSoFar g x s cells links 0 v c
least-start g x s cells links v c is = record { cell = omega arith; least = λ j below outside carry. absurd (omega arith); way = λ lower. absurd (omega arith) }

-- a link that leads no shorter way, or that no walk from s may take
pub least-skip : (g : Graph) (x : List Bool) (s : ℕ) (cells : List ℕ) (links : List LinkNo) (i v c : ℕ) → IsLeastSoFar g x s cells links i v c → (has x (number_at links i) ≡ false → carries g s (tail g (number_at links i)) ≡ true → c ≤ get_or cells (tail g (number_at links i)) 0 + metric g (number_at links i)) → IsLeastSoFar g x s cells links (i + 1) v c
least-skip g x s cells links i v c t skip = record {
  cell = t.cell;
  least = below_more _ i t.least skip;
  way = t.way;
}

-- a link that leads a shorter way
pub least-lower : (g : Graph) (x : List Bool) (s : ℕ) (cells : List ℕ) (links : List LinkNo) (i v c d : ℕ) → IsLeastSoFar g x s cells links i v c → EndAt g v links → i < length links → has x (number_at links i) ≡ false → carries g s (tail g (number_at links i)) ≡ true → get_or cells (tail g (number_at links i)) 0 + metric g (number_at links i) ≡ d → d < c → IsLeastSoFar g x s cells links (i + 1) v d
least-lower g x s cells links i v c d t ends within outside carry is lower = record {
  cell = omega (arith, t.cell);
  least = below_more _ i (λ j below out carries. omega (arith, t.least j below out carries)) (λ out carries. omega arith);
  way = λ low. (number_at links i, (ends.each i within).0, outside, carry, (ends.each i within).1, is);
}

-- after the last one
pub least-whole : (g : Graph) (x : List Bool) (s : ℕ) (cells : List ℕ) (links : List LinkNo) (v c : ℕ) → IsLeastSoFar g x s cells links (length links) v c → EndAt g v links → IsLeastWay g x s cells v c
least-whole g x s cells links v c t ends = record {
  cell = t.cell;
  least = λ l within outside carry into.
      let (j, below, at) = ends.all l within into in
      let P : ℕ → Type 0 = λ k. has x k ≡ false → carries g s (tail g k) ≡ true → c ≤ get_or cells (tail g k) 0 + metric g k in
      subst P at (t.least j below) outside carry;
  way = t.way;
}
