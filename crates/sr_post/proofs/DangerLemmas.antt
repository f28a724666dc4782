-- The nodes that may be lost: those of which it isn't known that some next hop still leads there.
use Rattle.std.proofs.Common.{◌≡◌, ◌≢◌, ℕ, ◌+◌, ◌<◌, ◌≤◌, ⊎_elim, ◌↔◌, IsTrue, true, false, not, ◌&&◌, ◌||◌, List, [], ◌∷◌, length, Bool, arith, sym, ◌∙◌, subst}
use Rattle.std.specs.Prelude.{nat_lt, slice_index}
use Rattle.std.proofs.lemmas.Bool.{cases_eq, cases_Bool, true≢false, and_parts, and_from, or_cases, or_left, or_right, not-true, not_from_false, lt-ltb, ltb-true}
use Rattle.sr_lanes.specs.declared.words.NodeBits.{NodeBits}
use Rattle.sr_lanes.specs.Bits.{is_in, IsWithout}
use Rattle.sr_lanes.specs.Passes.{has_distance}
use Rattle.sr_lanes.proofs.SizeLemmas.{without-other, without-inside}
use Rattle.sr_model.specs.declared.link.TheConstants.{FAR}
use Rattle.sr_model.specs.declared.link.LinkNo.{LinkNo}
use Rattle.sr_model.specs.Graph.{Graph, IsGraph, IsLink, has, link_at, metric, node_count}
use Rattle.sr_model.specs.Walk.{IsDistance, IsNextHop, IsRow, IsWalk, cost}
use Rattle.sr_graph.specs.Members.{AreMembers, number_at}
use Rattle.sr_walks.proofs.Walks.{walk-within}
use Rattle.sr_walks.proofs.Distances.{IsShortest-from_cost}
use Rattle.sr_post.specs.Kept.{AreDoubtful, AreEndangered, LeadsTo, LosesHop}

-- a next hop leads to a node of the graph that isn't where it begins
pub hop-within : (g : Graph) (s v h : ℕ) → IsGraph g → s < node_count g → IsNextHop g [] s v h → (v < node_count g) × (v ≢ s)
hop-within g s v h graph inside hop =
    let some : IsLink g (link_at g h) = graph.each h hop.shortest.0.0 in (
      walk-within g [] s (h ∷ hop.more) v graph inside hop.shortest.0,
      λ (e : v ≡ s).
          let none : cost g (h ∷ hop.more) ≤ cost g [] = hop.shortest.1 [] (sym e) in
          let above : 0 < metric g h = some.2 in
          omega (arith, none, above),
    )

-- a walk of that cost begins with a next hop, unless it ends where it begins
hop-of : (g : Graph) (s v c : ℕ) → v ≢ s → IsDistance g [] s v c → (p : List ℕ) → IsWalk g [] s p v → cost g p ≡ c → (h : ℕ) × IsNextHop g [] s v h
hop-of g s v c ne d [] walk costs = absurd (ne (sym walk))
hop-of g s v c ne d (h ∷ more) walk costs = (h, record { more = more; shortest = IsShortest-from_cost g [] s v c (h ∷ more) d walk costs })

-- towards another node that is reached there is a next hop
pub first-hop : (g : Graph) (s v c : ℕ) → v ≢ s → IsDistance g [] s v c → (h : ℕ) × IsNextHop g [] s v h
first-hop g s v c ne d = hop-of g s v c ne d d.reached.0 d.reached.1 d.reached.2

-- the set has the nodes towards which one of the first k links of the list, which fail, is a next hop of s
pub record AreLosingAmong (g : Graph) (x : List Bool) (s : ℕ) (links : List LinkNo) (k : ℕ) (set : NodeBits) : Type 0 where
  pub each : (v : ℕ) → is_in set v ≡ true → LosesHop g x s v
  pub all : (v i : ℕ) → i < k → IsNextHop g [] s v (number_at links i) → is_in set v ≡ true

module _ (g : Graph) (x : List Bool) (s : ℕ) (links : List LinkNo) where
  -- one link more, with the nodes towards which it is a next hop
  pub losing-next : (k : ℕ) (set behind more : NodeBits) → AreLosingAmong g x s links k set → has x (number_at links k) ≡ true
      → ((v : ℕ) → IsTrue (is_in behind v) ↔ IsNextHop g [] s v (number_at links k))
      → ((v : ℕ) → is_in more v ≡ (is_in set v || is_in behind v)) → AreLosingAmong g x s links (k + 1) more
  losing-next k set behind more r failed told joined = record {
    each = λ v is. ⊎_elim
        (λ old. r.each v old)
        (λ now. (number_at links k, (told v).0 now, failed))
        (or_cases (is_in set v) (is_in behind v) (sym (joined v) ∙ is));
    all = λ v i lt hop. ⊎_elim
        (λ (e : i ≡ k). joined v ∙ or_right (is_in set v) (is_in behind v) ((told v).1 (subst (λ j. IsNextHop g [] s v (number_at links j)) e hop)))
        (λ (ne : i ≢ k). joined v ∙ or_left (is_in set v) (is_in behind v) (r.all v i (omega arith) hop))
        (cases_eq i k);
  }

  -- after the last link, where the list has the links of x
  pub losing-over : (k : ℕ) (set : NodeBits) → AreMembers x links → length links ≤ k → AreLosingAmong g x s links k set → (v : ℕ) → IsTrue (is_in set v) ↔ LosesHop g x s v
  losing-over k set members le r v = (
    λ is. r.each v is,
    λ loses.
        let at = members.all loses.0 loses.2 in
        let low : at.0 < k = omega (arith, at.1, le) in
        r.all v at.0 low (subst (λ h. IsNextHop g [] s v h) (sym at.2) loses.1),
  )

-- these nodes have a distance, aren't doubtful, and lose no next hop
pub record AreSafe (row : List ℕ) (doubtful losing safe : NodeBits) : Type 0 where
  pub known : (v : ℕ) → is_in safe v ≡ true → has_distance row v ≡ true
  pub sure : (v : ℕ) → is_in safe v ≡ true → is_in doubtful v ≡ false
  pub whole : (v : ℕ) → is_in safe v ≡ true → is_in losing v ≡ false

-- it is so where the sets are taken one from another
pub safe-from : (row : List ℕ) (doubtful losing reached certain safe : NodeBits) → ((v : ℕ) → is_in reached v ≡ has_distance row v) → ((v : ℕ) → is_in certain v ≡ (is_in reached v && not (is_in doubtful v))) → ((v : ℕ) → is_in safe v ≡ (is_in certain v && not (is_in losing v))) → AreSafe row doubtful losing safe
safe-from row doubtful losing reached certain safe near less least =
    let of : (v : ℕ) → is_in safe v ≡ true → (is_in certain v ≡ true) × (is_in losing v ≡ false) = λ v is.
    let both = and_parts (is_in certain v) (not (is_in losing v)) (sym (least v) ∙ is) in
    (both.0, not-true (is_in losing v) both.1) in
    let on : (v : ℕ) → is_in safe v ≡ true → (is_in reached v ≡ true) × (is_in doubtful v ≡ false) = λ v is.
    let both = and_parts (is_in reached v) (not (is_in doubtful v)) (sym (less v) ∙ (of v is).0) in
    (both.0, not-true (is_in doubtful v) both.1) in
    record {
      known = λ v is. sym (near v) ∙ (on v is).0;
      sure = λ v is. (on v is).1;
      whole = λ v is. (of v is).1;
    }

module _ (g : Graph) (x : List Bool) (s : ℕ) (row : List ℕ) (doubtful losing safe : NodeBits) (graph : IsGraph g) (inside : s < node_count g) (is : IsRow g [] s row) (doubt : AreDoubtful g x s doubtful) (loses : (v : ℕ) → IsTrue (is_in losing v) ↔ LosesHop g x s v) (are : AreSafe row doubtful losing safe) where
  -- a safe node has a next hop, which hasn't failed, and so leads there
  safe-led : (v : ℕ) → v < node_count g → v ≢ s → is_in safe v ≡ true → (l : ℕ) × LeadsTo g x s v l
  safe-led v lt ne member =
      let known = and_parts (nat_lt v (length row)) (nat_lt (slice_index row v) FAR) (are.known v member) in
      let near : slice_index row v < FAR = ltb-true (slice_index row v) FAR known.1 in
      let first = first-hop g s v (slice_index row v) ne ((is.each v lt).near near) in
      let hop : IsNextHop g [] s v first.0 = first.1 in
      let outside : has x first.0 ≡ false = ⊎_elim
      (λ (failed : has x first.0 ≡ true). absurd (true≢false (sym ((loses v).1 (first.0, hop, failed)) ∙ are.whole v member)))
      (λ stands. stands)
      (cases_Bool (has x first.0)) in
      (first.0, doubt.sure v first.0 (are.sure v member) hop outside)

  -- all but s, and but the safe ones, are endangered
  pub endangered-rest : (all others set : NodeBits) → ((v : ℕ) → is_in all v ≡ nat_lt v (node_count g)) → IsWithout all others s → ((v : ℕ) → is_in set v ≡ (is_in others v && not (is_in safe v))) → AreEndangered g x s set
  endangered-rest all others set below without rest = record {
    within = λ v member.
        let both = and_parts (is_in others v) (not (is_in safe v)) (sym (rest v) ∙ member) in
        let out = without-inside all others s v without both.0 in
        (ltb-true v (node_count g) (sym (below v) ∙ out.1), out.0);
    losing = λ v lost.
        let at = hop-within g s v lost.0 graph inside lost.1 in
        let other : is_in others v ≡ true = without-other all others s v without at.1 ∙ below v ∙ lt-ltb v (node_count g) at.0 in
        let no : is_in safe v ≡ false = ⊎_elim
        (λ (yes : is_in safe v ≡ true). absurd (true≢false (sym ((loses v).1 lost) ∙ are.whole v yes)))
        (λ out. out)
        (cases_Bool (is_in safe v)) in
        rest v ∙ and_from (is_in others v) (not (is_in safe v)) other (not_from_false (is_in safe v) no);
    safe = λ v lt ne out.
        let other : is_in others v ≡ true = without-other all others s v without ne ∙ below v ∙ lt-ltb v (node_count g) lt in
        ⊎_elim
        (λ (yes : is_in safe v ≡ true). safe-led v lt ne yes)
        (λ (no : is_in safe v ≡ false). absurd (true≢false (sym (rest v ∙ and_from (is_in others v) (not (is_in safe v)) other (not_from_false (is_in safe v) no)) ∙ out)))
        (cases_Bool (is_in safe v));
  }
