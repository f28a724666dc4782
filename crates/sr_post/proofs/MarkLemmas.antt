-- The nodes on the shortest walks, found by following links back from the destinations.
use Rattle.std.proofs.Common.{◌≡◌, ◌≢◌, ℕ, zero, suc, ◌+◌, ◌<◌, ◌≤◌, ◌⊎◌, ⊎_elim, inl, inr, Bool, true, false, [], ◌∷◌, not, ◌&&◌, ◌||◌, ◌==◌, List, length, ◌++◌, refl, arith, ap, sym, ◌∙◌, subst}
use Rattle.std.specs.Prelude.{IsTrue, ◌↔◌, slice_index, nat_lt}
use Rattle.std.proofs.lemmas.Bool.{and_from, and_parts, cases_Bool, cases_eq, eq-eqb, eqb-true, lt-ltb, ltb-true, or_cases, or_left, or_parts, or_right, true≢false}
use Rattle.sr_model.specs.declared.case.Case.{Case}
use Rattle.sr_model.specs.declared.link.LinkNo.{LinkNo}
use Rattle.sr_model.specs.declared.link.TheConstants.{FAR}
use Rattle.sr_model.specs.Graph.{Graph, IsGraph, IsLink, IsNamed, has, node_count, tail, head, link_at}
use Rattle.sr_model.specs.Label.{Net}
use Rattle.sr_model.specs.Walk.{IsRow, IsOnWay}
use Rattle.sr_model.specs.Case.{IsAffected, IsOnRepairWay, IsFailedSet, IsCase, source_of}
use Rattle.sr_graph.specs.Members.{number_at}
use Rattle.sr_graph.specs.Ranges.{EndAt}
use Rattle.sr_lanes.specs.declared.words.NodeBits.{NodeBits}
use Rattle.sr_lanes.specs.Bits.{is_in, count_below, IsWithout}
use Rattle.sr_lanes.specs.Passes.{has_distance}
use Rattle.sr_lanes.proofs.SizeLemmas.{without-same, without-other, without-inside}
use Rattle.sr_walks.proofs.Walks.{walk-within}
use Rattle.sr_laws.proofs.Failures.{failed-one}
use Rattle.sr_post.specs.Marks.{AreFound, AreWalks, HasNodesBefore, HasTails, IsOneBefore, LeadsAlong}
use Rattle.sr_post.proofs.OutsideLemmas.{along-outside, source-zero}
use Rattle.sr_post.proofs.WayLemmas.{IsAlong, near_walk, along-from_way, way-from_along, along-here, along-on, along-cut}
use Rattle.sr_lanes.proofs.SizeLemmas.{count_below-less}

-- a link that leads along the row to a node begins at one that is reached
pub nodes-before : (g : Graph) (x : List Bool) (s : ℕ) (cells : List ℕ) (v : ℕ) (tails reached before : NodeBits) → IsGraph g → IsRow g x s cells
    → HasTails g v tails → ((u : ℕ) → is_in reached u ≡ has_distance cells u) → ((u : ℕ) → is_in before u ≡ (is_in tails u && is_in reached u))
    → HasNodesBefore g s cells v before
nodes-before g x s cells v tails reached before graph row has near both u one =
    let k : IsLink g (link_at g one.link) = graph.each one.link one.within in
    let top : slice_index cells (head g one.link) ≤ FAR = (row.each (head g one.link) k.1).top in
    let tail_near : slice_index cells (tail g one.link) < FAR = omega (arith, one.along.tight, top, k.2) in
    let tail_in : tail g one.link < length cells = omega (arith, k.0, row.long) in
    let far : has_distance cells (tail g one.link) ≡ true = and_from (nat_lt (tail g one.link) (length cells)) (nat_lt (slice_index cells (tail g one.link)) FAR) (lt-ltb (tail g one.link) (length cells) tail_in) (lt-ltb (slice_index cells (tail g one.link)) FAR tail_near) in
    let found : is_in before (tail g one.link) ≡ true = both (tail g one.link) ∙ and_from (is_in tails (tail g one.link)) (is_in reached (tail g one.link)) (has one.link one.within one.ends) (near (tail g one.link) ∙ far) in
    subst (λ w. is_in before w ≡ true) one.begins found

-- from the node nothing has been followed back: it isn't found, or is pending
abbrev pub is_open : NodeBits → NodeBits → ℕ → Bool
is_open found pending v = not (is_in found v && not (is_in pending v))

-- how many such nodes there are
abbrev pub open_count : NodeBits → NodeBits → ℕ
open_count found pending = count_below (is_open found pending) 256

-- the nodes before node v, of which v is no longer pending, are found; those that weren't become pending
pub record IsFollowed (v : ℕ) (found pending found' pending' : NodeBits) : Type 0 where
  pub was : is_in pending v ≡ true
  pub less : NodeBits
  pub taken : IsWithout pending less v
  pub more : NodeBits
  pub new : (k : ℕ) → is_in more k ≡ (is_in found' k && not (is_in found k))
  pub stay : (k : ℕ) → is_in found k ≡ true → is_in found' k ≡ true
  pub pending_is : (k : ℕ) → is_in pending' k ≡ (is_in less k || is_in more k)

-- a node that is put with those found is put with those pending too
open_other : (f f' p : Bool) → (p ≡ true → f ≡ true) → (f ≡ true → f' ≡ true) → not (f' && not (p || (f' && not f))) ≡ not (f && not p)
open_other true true true h stay = refl
open_other true true false h stay = refl
open_other true false p h stay = absurd (true≢false (sym (stay refl)))
open_other false f' true h stay = absurd (true≢false (sym (h refl)))
open_other false true false h stay = refl
open_other false false false h stay = refl

-- v was found before, and isn't pending
open_here : (f f' : Bool) → f ≡ true → (f ≡ true → f' ≡ true) → not (f' && not (false || (f' && not f))) ≡ false
open_here true true h stay = refl
open_here true false h stay = absurd (true≢false (sym (stay refl)))
open_here false f' h stay = absurd (true≢false (sym h))

-- what is in the first set, of which nothing is left without the second, is in the second
pub left-none : (a b : Bool) → a ≡ true → (a && not b) ≡ false → b ≡ true
left-none true true is none = refl
left-none true false is none = absurd (true≢false none)
left-none false b is none = absurd (true≢false (sym is))

module _ (v : ℕ) (found pending found' pending' : NodeBits) (d : IsFollowed v found pending found' pending') (inside : (k : ℕ) → is_in pending k ≡ true → is_in found k ≡ true) where
  open-here : is_open found' pending' v ≡ false
  open-here = rw (d.pending_is v, d.new v, without-same pending d.less v d.taken) (open_here (is_in found v) (is_in found' v) (inside v d.was) (d.stay v))

  open-other : (k : ℕ) → k ≢ v → is_open found' pending' k ≡ is_open found pending k
  open-other k ne = rw (d.pending_is k, d.new k, without-other pending d.less v k d.taken ne) (open_other (is_in found k) (is_in found' k) (is_in pending k) (inside k) (d.stay k))

  -- there are less such nodes
  pub open-less : v < 256 → open_count found' pending' < open_count found pending
  open-less within = count_below-less (is_open found pending) (is_open found' pending') 256 v within (rw (inside v d.was, d.was) refl) open-here open-other

-- a set and a node more
pub with-one : (set more : NodeBits) (v : ℕ) (P Q : ℕ → Type 0) → ((k : ℕ) → IsTrue (is_in set k) ↔ P k) → ((k : ℕ) → is_in more k ≡ (k == v || is_in set k))
    → ((k : ℕ) → P k → Q k) → Q v → ((k : ℕ) → Q k → (k ≡ v) ⊎ P k) → (k : ℕ) → IsTrue (is_in more k) ↔ Q k
with-one set more v P Q tells is up here down k = (
  λ yes. ⊎_elim
      (λ (same : (k == v) ≡ true). subst Q (sym (eqb-true k v same)) here)
      (λ (old : is_in set k ≡ true). up k ((tells k).0 old))
      (or_cases (k == v) (is_in set k) (sym (is k) ∙ yes)),
  λ q. is k ∙ ⊎_elim
      (λ (same : k ≡ v). or_left (k == v) (is_in set k) (eq-eqb k v same))
      (λ (p : P k). or_right (k == v) (is_in set k) ((tells k).1 p))
      (down k q),
)

-- an affected destination is a node
pub affected-within : (n : Net) (case : Case) (d : ℕ) → IsGraph n.graph → IsCase n.graph case → IsAffected n case d → d < node_count n.graph
affected-within n case d graph is a =
    let ends : IsLink n.graph (link_at n.graph case.link.0) = graph.each case.link.0 is in
    walk-within n.graph [] (source_of n.graph case) (case.link.0 ∷ a.hop.more) d graph ends.0 a.hop.shortest.0

-- the affected destinations below a number
abbrev pub IsAffectedBelow : Net → Case → ℕ → ℕ → Type 0
IsAffectedBelow n case m k = (k < m) × IsAffected n case k

-- one of the first links leads along the row from u
abbrev pub IsBeforeBy : Graph → ℕ → List ℕ → List LinkNo → ℕ → ℕ → Type 0
IsBeforeBy g s cells links m u = (j : ℕ) × (j < m) × (tail g (number_at links j) ≡ u) × LeadsAlong g s cells (number_at links j)

-- all links to v are gone through
pub before-all : (g : Graph) (s : ℕ) (cells : List ℕ) (v : ℕ) (links : List LinkNo) (u : ℕ) → EndAt g v links
    → IsBeforeBy g s cells links (length links) u ↔ IsOneBefore g s cells v u
before-all g s cells v links u ends = (
  λ b. let at = ends.each b.0 b.1 in record { link = number_at links b.0; within = at.0; begins = b.2; ends = at.1; along = b.3 },
  λ b. let at = ends.all b.link b.within b.ends in (
    at.0,
    at.1,
    subst (λ l. tail g l ≡ u) (sym at.2) b.begins,
    subst (λ l. LeadsAlong g s cells l) (sym at.2) b.along,
  ),
)

-- the node is found, or one of the first links leads along the row from it
abbrev pub IsFoundBy : Graph → ℕ → List ℕ → List LinkNo → NodeBits → ℕ → ℕ → Type 0
IsFoundBy g s cells links found m u = (is_in found u ≡ true) ⊎ IsBeforeBy g s cells links m u

module _ (g : Graph) (s : ℕ) (cells : List ℕ) (links : List LinkNo) (found : NodeBits) (i : ℕ) (set : NodeBits) (tells : (u : ℕ) → IsTrue (is_in set u) ↔ IsFoundBy g s cells links found i u) where
  grown : (u : ℕ) → IsFoundBy g s cells links found i u → IsFoundBy g s cells links found (i + 1) u
  grown u given = ⊎_elim (λ is. inl is) (λ b. inr (b.0, (let lt : b.0 < i = b.1 in omega arith), b.2, b.3)) given

  -- link number i leads along the row, so that its beginning is put in
  pub before-put : (more : NodeBits) (v : ℕ) → v ≡ tail g (number_at links i) → ((k : ℕ) → is_in more k ≡ (k == v || is_in set k))
      → LeadsAlong g s cells (number_at links i) → (u : ℕ) → IsTrue (is_in more u) ↔ IsFoundBy g s cells links found (i + 1) u
  before-put more v at is along =
      with-one set more v (IsFoundBy g s cells links found i) (IsFoundBy g s cells links found (i + 1)) tells is grown
      (inr (i, (omega arith), sym at, along))
      (λ u given. ⊎_elim
      (λ is'. inr (inl is'))
      (λ b. ⊎_elim
      (λ (last : b.0 ≡ i). inl (sym b.2 ∙ ap (λ j. tail g (number_at links j)) last ∙ sym at))
      (λ (ne : b.0 ≢ i). inr (inr (b.0, (let lt : b.0 < i + 1 = b.1 in omega arith), b.2, b.3)))
      (cases_eq b.0 i))
      given)

  -- or it doesn't, or begins at a node that is in already
  pub before-pass : (is_in set (tail g (number_at links i)) ≡ false → LeadsAlong g s cells (number_at links i) → ⊥) → (u : ℕ) → IsTrue (is_in set u) ↔ IsFoundBy g s cells links found (i + 1) u
  before-pass fails u = (
    λ yes. grown u ((tells u).0 yes),
    λ given. ⊎_elim
        (λ is. (tells u).1 (inl is))
        (λ b. ⊎_elim
        (λ (last : b.0 ≡ i). ⊎_elim
        (λ yes. yes)
        (λ (out : is_in set u ≡ false). absurd (fails
        (subst (λ k. is_in set k ≡ false) (sym b.2 ∙ ap (λ j. tail g (number_at links j)) last) out)
        (subst (λ j. LeadsAlong g s cells (number_at links j)) last b.3)))
        (cases_Bool (is_in set u)))
        (λ (ne : b.0 ≢ i). (tells u).1 (inr (b.0, (let lt : b.0 < i + 1 = b.1 in omega arith), b.2, b.3)))
        (cases_eq b.0 i))
        given,
  )

module _ (n : Net) (case : Case) (x : List Bool) (cells : List ℕ) (graph : IsGraph n.graph) (is : IsCase n.graph case) (row : IsRow n.graph x (source_of n.graph case) cells) where
  source_in : source_of n.graph case < node_count n.graph
  source_in = let k : IsLink n.graph (link_at n.graph case.link.0) = graph.each case.link.0 is in k.0

  -- what is on the walks is a node
  pub way-within : (v : ℕ) → IsOnRepairWay n case x v → v < node_count n.graph
  way-within v w = walk-within n.graph x (source_of n.graph case) w.2.before v graph source_in w.2.to

  -- the affected destinations with a walk are found first
  pub found-start : (affected near found : NodeBits) → ((v : ℕ) → IsTrue (is_in affected v) ↔ IsAffected n case v)
      → ((v : ℕ) → is_in near v ≡ has_distance cells v) → ((v : ℕ) → is_in found v ≡ (is_in affected v && is_in near v))
      → AreFound n case x cells found found
  found-start affected near found tells far both = record {
    inside = λ v yes. yes;
    sound = λ v yes.
        let parts = and_parts (is_in affected v) (is_in near v) (sym (both v) ∙ yes) in
        let two = and_parts (nat_lt v (length cells)) (nat_lt (slice_index cells v) FAR) (sym (far v) ∙ parts.1) in
        let close : slice_index cells v < FAR = ltb-true (slice_index cells v) FAR two.1 in
        let a : IsAffected n case v = (tells v).0 parts.0 in
        let within : v < node_count n.graph = affected-within n case v graph is a in
        (v, a, way-from_along n.graph x (source_of n.graph case) cells graph row source_in v v within (along-here n.graph x (source_of n.graph case) cells graph row source_in v close));
    ends = λ d a close.
        let within : d < length cells = omega (arith, row.long, affected-within n case d graph is a) in
        both d ∙ and_from (is_in affected d) (is_in near d) ((tells d).1 a) (far d ∙ and_from (nat_lt d (length cells)) (nat_lt (slice_index cells d) FAR) (lt-ltb d (length cells) within) (lt-ltb (slice_index cells d) FAR close));
    closed = λ v u yes no. absurd (true≢false (sym yes ∙ no));
  }

  -- the source is on each walk
  source_way : (v : ℕ) → IsOnRepairWay n case x v → IsOnRepairWay n case x (source_of n.graph case)
  source_way v w = (w.0, w.1, record { before = []; after = w.2.before ++ w.2.after; to = refl; from = w.2.shortest.0; shortest = w.2.shortest })

  -- the affected destinations with a walk are found first, with the source, if there are any
  pub found-first : IsNamed n.graph → IsFailedSet n.graph case x → (pending found : NodeBits) (d : ℕ) → AreFound n case x cells pending pending → is_in pending d ≡ true
      → ((k : ℕ) → is_in found k ≡ (k == source_of n.graph case || is_in pending k)) → AreFound n case x cells found pending
  found-first named failed pending found d f some more = record {
    inside = λ v yes. more v ∙ or_right (v == source_of n.graph case) (is_in pending v) yes;
    sound = λ v yes. ⊎_elim
        (λ (same : (v == source_of n.graph case) ≡ true). subst (λ k. IsOnRepairWay n case x k) (sym (eqb-true v (source_of n.graph case) same)) (source_way d (f.sound d some)))
        (λ old. f.sound v old)
        (or_cases (v == source_of n.graph case) (is_in pending v) (sym (more v) ∙ yes));
    ends = λ v a near. more v ∙ or_right (v == source_of n.graph case) (is_in pending v) (f.ends v a near);
    closed = λ v u yes no b. ⊎_elim
        (λ (same : (v == source_of n.graph case) ≡ true).
        let ends : IsLink n.graph (link_at n.graph b.link) = graph.each b.link b.within in
        let here : head n.graph b.link ≡ source_of n.graph case = b.ends ∙ eqb-true v (source_of n.graph case) same in
        let none : slice_index cells (head n.graph b.link) ≡ 0 = ap (λ k. slice_index cells k) here ∙ source-zero n.graph case x cells graph named is failed row in
        absurd (omega (arith, none, b.along.tight, ends.2)))
        (λ old. absurd (true≢false (sym old ∙ no)))
        (or_cases (v == source_of n.graph case) (is_in pending v) (sym (more v) ∙ yes));
  }

  -- a node before one that is on the walks is on them too
  before-way : IsNamed n.graph → IsFailedSet n.graph case x → (v u : ℕ) → IsOnRepairWay n case x v → IsOneBefore n.graph (source_of n.graph case) cells v u → IsOnRepairWay n case x u
  before-way named failed v u w b = ⊎_elim
      (λ (here : u ≡ source_of n.graph case). subst (λ k. IsOnRepairWay n case x k) (sym here) (source_way v w))
      (λ (other : u ≢ source_of n.graph case). before_other named failed v u w b other)
      (cases_eq u (source_of n.graph case))
    where
      before_other : IsNamed n.graph → IsFailedSet n.graph case x → (v u : ℕ) → IsOnRepairWay n case x v → IsOneBefore n.graph (source_of n.graph case) cells v u → u ≢ source_of n.graph case → IsOnRepairWay n case x u
      before_other named failed v u w b other =
          let s : ℕ = source_of n.graph case in
          let g : Graph = n.graph in
          let ends : IsLink g (link_at g b.link) = graph.each b.link b.within in
          let rest : IsAlong g x s cells v w.0 = along-from_way g x s cells graph row source_in w.0 v w.2 in
          let rest' : IsAlong g x s cells (head g b.link) w.0 = subst (λ k. IsAlong g x s cells k w.0) (sym b.ends) rest in
          let near : slice_index cells (tail g b.link) < FAR = omega (arith, b.along.tight, rest'.near) in
          let outside : has x b.link ≡ false = along-outside g case x cells graph named is failed row b.link b.within (λ e. other (sym b.begins ∙ e)) b.along.tight rest'.near in
          let more : IsAlong g x s cells (tail g b.link) w.0 = along-on g x s cells graph row source_in b.link w.0 b.within outside b.along.carry near b.along.tight rest' in
          let way : IsOnWay g x s w.0 (tail g b.link) = way-from_along g x s cells graph row source_in w.0 (tail g b.link) ends.0 more in
          (w.0, w.1, subst (λ k. IsOnWay g x s w.0 k) b.begins way)

  -- the nodes before a pending one are found
  pub found-next : IsNamed n.graph → IsFailedSet n.graph case x → (v : ℕ) (found pending found' pending' : NodeBits) → AreFound n case x cells found pending
      → IsFollowed v found pending found' pending'
      → ((u : ℕ) → IsTrue (is_in found' u) ↔ ((is_in found u ≡ true) ⊎ IsOneBefore n.graph (source_of n.graph case) cells v u))
      → AreFound n case x cells found' pending'
  found-next named failed v found pending found' pending' f d tells = record {
    inside = λ k yes. ⊎_elim
        (λ left. d.stay k (f.inside k (without-inside pending d.less v k d.taken left).1))
        (λ new. (and_parts (is_in found' k) (not (is_in found k)) (sym (d.new k) ∙ new)).0)
        (or_cases (is_in d.less k) (is_in d.more k) (sym (d.pending_is k) ∙ yes));
    sound = λ k yes. ⊎_elim (λ was. f.sound k was) (λ b. before-way named failed v k (f.sound v (f.inside v d.was)) b) ((tells k).0 yes);
    ends = λ k a near. d.stay k (f.ends k a near);
    closed = λ k u yes no b. ⊎_elim
        (λ (same : k ≡ v). (tells u).1 (inr (subst (λ j. IsOneBefore n.graph (source_of n.graph case) cells j u) same b)))
        (λ (ne : k ≢ v).
        let parts = or_parts (is_in d.less k) (is_in d.more k) (sym (d.pending_is k) ∙ no) in
        let gone : is_in pending k ≡ false = sym (without-other pending d.less v k d.taken ne) ∙ parts.0 in
        let was : is_in found k ≡ true = ⊎_elim
        (λ yes'. yes')
        (λ (out : is_in found k ≡ false). absurd (true≢false (sym (d.new k ∙ and_from (is_in found' k) (not (is_in found k)) yes (ap not out)) ∙ parts.1)))
        (cases_Bool (is_in found k)) in
        d.stay u (f.closed k u was gone b))
        (cases_eq k v);
  }

  -- where the nodes found are on the walks, and each node that is reached is among them, they are the nodes on the walks
  pub found-all : (found : NodeBits) → ((v : ℕ) → is_in found v ≡ true → IsOnRepairWay n case x v)
      → ((v : ℕ) → has_distance cells v ≡ true → is_in found v ≡ true) → IsFailedSet n.graph case x → AreWalks n case found
  found-all found sound all failed = record {
    marks = λ y other v.
        subst (λ z. IsTrue (is_in found v) ↔ IsOnRepairWay n case z v) (failed-one n.graph case x y failed other) (
          λ yes. sound v yes,
          λ w.
              let k : IsAlong n.graph x (source_of n.graph case) cells v w.0 = along-from_way n.graph x (source_of n.graph case) cells graph row source_in w.0 v w.2 in
              let within : v < length cells = omega (arith, row.long, way-within v w) in
              all v (and_from (nat_lt v (length cells)) (nat_lt (slice_index cells v) FAR) (lt-ltb v (length cells) within) (lt-ltb (slice_index cells v) FAR k.near)),
        );
  }

  module _ (found pending : NodeBits) (f : AreFound n case x cells found pending) (over : (v : ℕ) → is_in pending v ≡ false) where
    -- a node is found from which a walk leads along the row to a found one
    found-along : (m d v : ℕ) → slice_index cells d ≤ slice_index cells v + m → IsAlong n.graph x (source_of n.graph case) cells v d → is_in found d ≡ true → is_in found v ≡ true
    found-along zero d v le k given =
        ⊎_elim
        (λ (same : v ≡ d). subst (λ j. is_in found j ≡ true) (sym same) given)
        (λ c.
        let ends : IsLink n.graph (link_at n.graph c.link) = graph.each c.link c.within in
        absurd (omega (arith, ends.2, c.tight, c.more.sum)))
        (along-cut n.graph x (source_of n.graph case) cells graph row source_in v d k)
    found-along (suc m) d v le k given =
        ⊎_elim
        (λ (same : v ≡ d). subst (λ j. is_in found j ≡ true) (sym same) given)
        (λ c.
        let ends : IsLink n.graph (link_at n.graph c.link) = graph.each c.link c.within in
        let there : is_in found (head n.graph c.link) ≡ true = found-along m d (head n.graph c.link) (omega (arith, ends.2, c.tight)) c.more given in
        f.closed (head n.graph c.link) v there (over (head n.graph c.link)) (record {
          link = c.link;
          within = c.within;
          begins = c.from;
          ends = refl;
          along = record { carry = rw c.from c.carry; tight = rw c.from c.tight };
        }))
        (along-cut n.graph x (source_of n.graph case) cells graph row source_in v d k)

    -- once none is pending, the nodes found are those on the walks
    pub found-over : IsFailedSet n.graph case x → AreWalks n case found
    found-over failed = record {
      marks = λ y other v.
          subst (λ z. IsTrue (is_in found v) ↔ IsOnRepairWay n case z v) (failed-one n.graph case x y failed other) (
            λ yes. f.sound v yes,
            λ w.
                let s : ℕ = source_of n.graph case in
                let k : IsAlong n.graph x s cells v w.0 = along-from_way n.graph x s cells graph row source_in w.0 v w.2 in
                let d_in : w.0 < node_count n.graph = affected-within n case w.0 graph is w.1 in
                let near : slice_index cells w.0 < FAR = near_walk n.graph x s cells graph row source_in (w.2.before ++ w.2.after) w.0 d_in w.2.shortest.0 in
                found-along (slice_index cells w.0) w.0 v (omega arith) k (f.ends w.0 w.1 near),
          );
    }
