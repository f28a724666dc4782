-- How a search looks on from a waypoint.
use Rattle.std.proofs.Common.{◌≡◌, ◌≢◌, ℕ, ◌+◌, ◌<◌, ◌≤◌, ◌↔◌, ⊎_elim, true, false, List, [], ◌∷◌, ◌++◌, length, IsTrue, arith, ap, sym, ◌∙◌, subst}
use Rattle.std.proofs.lemmas.Bool.{cases_lt, cases_Bool, true≢false}
use Rattle.std.proofs.lemmas.List.{get_or_append_left}
use Rattle.sr_model.specs.declared.link.LinkNo.{LinkNo}
use Rattle.sr_model.specs.declared.link.NodeNo.{NodeNo}
use Rattle.sr_model.specs.declared.repair.Segment.TheVariants.{Node, Adj}
use Rattle.sr_model.specs.Graph.{node_count, head, is_overloaded}
use Rattle.sr_lanes.specs.declared.words.NodeBits.{NodeBits}
use Rattle.sr_lanes.specs.Bits.{is_in, IsFirstIn, IsWithout}
use Rattle.sr_encode.specs.declared.waypoint.Waypoint.{Waypoint}
use Rattle.sr_encode.specs.declared.met.Met.{Met}
use Rattle.sr_encode.specs.Waypoints.{no_waypoint, waypoint_at, waypoint_node, met_from, Extends}
use Rattle.sr_encode.specs.Aftermath.{Aftermath, IsAftermath, AreInside}
use Rattle.sr_encode.specs.Search.{segment_numbered, StepsTo, IsSearching, LooksFrom, HasRoom}
use Rattle.sr_lanes.proofs.SizeLemmas.{without-inside, without-other}
use Rattle.sr_encode.proofs.SearchLemmas.{leads-within}
use Rattle.sr_encode.proofs.QueueLemmas.{step-node, step-link, segment-node, segment-link, searching-over, searching-push, searching-short}

-- the nodes that a search hasn't met are nodes of the graph
pub unmet-inside : (after : Aftermath) (queue : List Waypoint) (unmet : NodeBits) (i cur : ℕ)
    → IsSearching after queue unmet i cur → AreInside after unmet
unmet-inside after queue unmet i cur r v is = let lt = r.agrees.inside v is in omega (arith, r.search.long, lt)

-- the numbers of a queue's places are small
place-small : (after : Aftermath) (queue : List Waypoint) (unmet : NodeBits) (i cur k : ℕ) → IsAftermath after
    → IsSearching after queue unmet i cur → k < length queue → k < 256
place-small after queue unmet i cur k is r lt = omega (arith, searching-short after queue unmet i cur r, is.graph.few_nodes)

depth-small : (after : Aftermath) (queue : List Waypoint) (unmet : NodeBits) (i cur k : ℕ) → IsAftermath after
    → IsSearching after queue unmet i cur → k < length queue → (waypoint_at queue k).depth < 65535
depth-small after queue unmet i cur k is r lt =
    let deep : (waypoint_at queue k).depth ≤ k = (r.agrees.parents k lt).1 in
    omega (arith, place-small after queue unmet i cur k is r lt)

pub has-room : (after : Aftermath) (queue : List Waypoint) (unmet : NodeBits) (i cur : ℕ) → IsAftermath after
    → IsSearching after queue unmet i cur → i < length queue → HasRoom queue i
has-room after queue unmet i cur is r inside = record {
  place = inside;
  parent = omega (arith, place-small after queue unmet i cur i is r inside);
  depth = omega (arith, depth-small after queue unmet i cur i is r inside);
}

-- the search looks on from its waypoint as the queue grows
pub looks-longer : (after : Aftermath) (before met : Met) (i cur next : ℕ) → LooksFrom after before i cur
    → Extends before.queue.items met.queue.items → IsSearching after met.queue.items met.unmet i next
    → LooksFrom after met i next
looks-longer after before met i cur next r e search = record {
  search = search;
  place = omega (arith, e.longer, r.place);
  clear = ap (λ (w : Waypoint). is_overloaded after.net.graph w.node.0) (e.same i r.place) ∙ r.clear;
}

-- the search stands before the nodes that are left, which are those that weren't met and to which a segment leads on
pub record AreAhead (after : Aftermath) (queue : List Waypoint) (unmet : NodeBits) (i : ℕ) (ends : NodeBits) : Type 0 where
  pub cur : ℕ
  pub search : IsSearching after queue unmet i cur
  pub upto : cur ≤ node_count after.net.graph
  pub ahead : (v : ℕ) → is_in ends v ≡ true → (cur ≤ v) × (v < node_count after.net.graph) × (is_in unmet v ≡ true) × StepsTo after (waypoint_node queue i) (Node (record { 0 = v })) v
  pub all : (v : ℕ) → cur ≤ v → is_in unmet v ≡ true → StepsTo after (waypoint_node queue i) (Node (record { 0 = v })) v → is_in ends v ≡ true

pub ahead-start : (after : Aftermath) (queue : List Waypoint) (unmet : NodeBits) (i : ℕ) (ends : NodeBits)
    → IsSearching after queue unmet i 0
    → ((v : ℕ)
    → IsTrue (is_in ends v) ↔ ((is_in unmet v ≡ true) × StepsTo after (waypoint_node queue i) (Node (record { 0 = v })) v))
    → AreAhead after queue unmet i ends
ahead-start after queue unmet i ends r these = record {
  cur = 0;
  search = r;
  upto = omega arith;
  ahead = λ v is. let q = (these v).0 is in (omega arith, unmet-inside after queue unmet i 0 r v q.0, q.0, q.1);
  all = λ v up is step. (these v).1 (is, step);
}

-- past nodes that aren't left, the search goes on
ahead-over : (after : Aftermath) (queue : List Waypoint) (unmet : NodeBits) (i : ℕ) (ends : NodeBits) (next : ℕ)
    → (r : AreAhead after queue unmet i ends) → i < length queue → r.cur ≤ next → next ≤ node_count after.net.graph
    → ((v : ℕ) → v < next → is_in ends v ≡ false) → IsSearching after queue unmet i next
ahead-over after queue unmet i ends next r inside up within none =
    searching-over after queue unmet i r.cur r.search inside next up
    (λ key v at below step.
    let lt : key < node_count after.net.graph = omega arith in
    let step' : StepsTo after (waypoint_node queue i) (Node (record { 0 = key })) v = subst (λ t. StepsTo after (waypoint_node queue i) t v) (segment-node after.net.graph (record { 0 = key }) lt) step in
    let same : v ≡ key = step-node after (waypoint_node queue i) (record { 0 = key }) v step' in
    let there : StepsTo after (waypoint_node queue i) (Node (record { 0 = key })) key = subst (λ k. StepsTo after (waypoint_node queue i) (Node (record { 0 = key })) k) same step' in
    let met : is_in unmet key ≡ false = ⊎_elim (λ yes. absurd (true≢false (sym (r.all key at yes there) ∙ none key below))) (λ gone. gone) (cases_Bool (is_in unmet key)) in
    (omega arith, subst (λ k. is_in unmet k ≡ false) (sym same) met))

-- the least of those that are left is met
pub ahead-next : (after : Aftermath) (queue : List Waypoint) (unmet less : NodeBits) (i v : ℕ) (ends left : NodeBits)
    → IsAftermath after → AreAhead after queue unmet i ends → i < length queue → IsFirstIn ends v
    → IsWithout ends left v → IsWithout unmet less v
    → AreAhead after (queue ++ met_from queue i (record { 0 = v }) (Node (record { 0 = v })) ∷ []) less i left
ahead-next after queue unmet less i v ends left is r inside first taken met =
    let here = r.ahead v first.member in
    let node : NodeNo = record { 0 = v } in
    let at : IsSearching after queue unmet i v = ahead-over after queue unmet i ends v r inside here.0 (omega (arith, here.1)) first.least in
    let pushed : IsSearching after (queue ++ met_from queue i node (Node node) ∷ []) less i (v + 1) =
    searching-push after queue unmet i v at inside (Node node) node less is.row (segment-node after.net.graph node here.1) here.1 here.2 met here.3 (λ u step. step-node after (waypoint_node queue i) node u step) in
    let kept : waypoint_node (queue ++ met_from queue i node (Node node) ∷ []) i ≡ waypoint_node queue i = ap (λ (w : Waypoint). w.node.0) (get_or_append_left queue (met_from queue i node (Node node) ∷ []) no_waypoint i inside) in
    record {
      cur = v + 1;
      search = pushed;
      upto = omega (arith, here.1);
      ahead = λ k yes.
          let q = without-inside ends left v k taken yes in
          let old = r.ahead k q.1 in
          let up : v ≤ k = ⊎_elim (λ (lt : k < v). absurd (true≢false (sym q.1 ∙ first.least k lt))) (λ le. le) (cases_lt k v) in
          let apart : k ≢ v = q.0 in (
            omega (arith, up, apart),
            old.1,
            without-other unmet less v k met q.0 ∙ old.2,
            subst (λ w. StepsTo after w (Node (record { 0 = k })) k) (sym kept) old.3,
          );
      all = λ k up yes step.
          let q = without-inside unmet less v k met yes in
          without-other ends left v k taken q.0
          ∙ r.all k (omega (arith, here.0, up)) q.1 (subst (λ w. StepsTo after w (Node (record { 0 = k })) k) kept step);
    }

-- once none are left, the search stands before the links
pub ahead-end : (after : Aftermath) (queue : List Waypoint) (unmet : NodeBits) (i : ℕ) (ends : NodeBits)
    → AreAhead after queue unmet i ends → i < length queue → ((v : ℕ) → is_in ends v ≡ false)
    → IsSearching after queue unmet i (node_count after.net.graph)
ahead-end after queue unmet i ends r inside none = ahead-over after queue unmet i ends (node_count after.net.graph) r inside r.upto (omega arith) (λ v lt. none v)

-- an adjacency segment leads to a node
pub link-within : (after : Aftermath) (l : LinkNo) (v w : ℕ) → IsAftermath after → StepsTo after w (Adj l) v
    → v < node_count after.net.graph
link-within after l v w is step = leads-within after.net after.failed is.graph v w step.cost (Adj l) step.leads

-- the segment of a link that leads nowhere, or to a node that was met
pub link-passed : (after : Aftermath) (queue : List Waypoint) (unmet : NodeBits) (i : ℕ) (l : LinkNo)
    → IsAftermath after → IsSearching after queue unmet i (node_count after.net.graph + l.0) → i < length queue
    → ((v : ℕ) → StepsTo after (waypoint_node queue i) (Adj l) v → is_in unmet v ≡ false)
    → IsSearching after queue unmet i (node_count after.net.graph + (l.0 + 1))
link-passed after queue unmet i l is r inside met =
    searching-over after queue unmet i (node_count after.net.graph + l.0) r inside (node_count after.net.graph + (l.0 + 1)) (omega arith)
    (λ key v at below step.
    let same : key ≡ node_count after.net.graph + l.0 = omega arith in
    let key_is : segment_numbered after.net.graph key ≡ Adj l = ap (λ k. segment_numbered after.net.graph k) same ∙ segment-link after.net.graph l in
    let step' : StepsTo after (waypoint_node queue i) (Adj l) v = subst (λ t. StepsTo after (waypoint_node queue i) t v) key_is step in
    (leads-within after.net after.failed is.graph v (waypoint_node queue i) step'.cost (Adj l) step'.leads, met v step'))

-- and of one that leads to a node that wasn't
pub link-met : (after : Aftermath) (queue : List Waypoint) (unmet less : NodeBits) (i : ℕ) (l : LinkNo) (v : NodeNo)
    → IsAftermath after → IsSearching after queue unmet i (node_count after.net.graph + l.0) → i < length queue
    → StepsTo after (waypoint_node queue i) (Adj l) v.0 → is_in unmet v.0 ≡ true → IsWithout unmet less v.0
    → IsSearching after (queue ++ met_from queue i v (Adj l) ∷ []) less i (node_count after.net.graph + (l.0 + 1))
link-met after queue unmet less i l v is r inside step apart taken =
    let within : v.0 < node_count after.net.graph = leads-within after.net after.failed is.graph v.0 (waypoint_node queue i) step.cost (Adj l) step.leads in
    let end : v.0 ≡ head after.net.graph l.0 = step-link after (waypoint_node queue i) l v.0 step in
    let pushed : IsSearching after (queue ++ met_from queue i v (Adj l) ∷ []) less i ((node_count after.net.graph + l.0) + 1) =
    searching-push after queue unmet i (node_count after.net.graph + l.0) r inside (Adj l) v less is.row (segment-link after.net.graph l) within apart taken step
    (λ u other. step-link after (waypoint_node queue i) l u other ∙ sym end) in
    let e : (node_count after.net.graph + l.0) + 1 ≡ node_count after.net.graph + (l.0 + 1) = omega arith in
    subst (λ k. IsSearching after (queue ++ met_from queue i v (Adj l) ∷ []) less i k) e pushed
