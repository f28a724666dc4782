-- What a queue of waypoints keeps as it grows.
use Rattle.std.proofs.Common.{◌≡◌, ◌≢◌, ℕ, zero, suc, ◌+◌, ◌-◌, ◌<◌, ◌≤◌, ⊎_elim, true, false, List, [], ◌∷◌, ◌++◌, length, reverse, set, refl, arith, ap, sym, ◌∙◌, subst, Option, Some, None, replicate}
use Rattle.std.specs.Prelude.{is_some, nat_lt, not, slice_index, slice_index_or}
use Rattle.std.proofs.lemmas.Bool.{cond_both, ltb-true, ltb-false, lt-ltb, not-true, not-false, cases_eq, cases_lt}
use Rattle.std.proofs.lemmas.List.{length-append, length-set, length-replicate, get_or-set_same, get_or-set_other, get_or_push, get_or_append_left, reverse-append, append_assoc}
use Rattle.sr_model.specs.declared.link.LinkNo.{LinkNo}
use Rattle.sr_model.specs.declared.link.NodeNo.{NodeNo}
use Rattle.sr_model.specs.declared.repair.Segment.{Segment}
use Rattle.sr_model.specs.declared.repair.Segment.TheVariants.{Node, Adj}
use Rattle.sr_model.specs.Graph.{Graph, IsGraph, node_count, link_count, tail, head, is_overloaded}
use Rattle.sr_lanes.specs.declared.words.NodeBits.{NodeBits}
use Rattle.sr_lanes.specs.Bits.{is_in, IsWithout}
use Rattle.sr_model.specs.Walk.{IsRow}
use Rattle.sr_model.specs.Repair.{Path}
use Rattle.sr_laws.proofs.Answers.{path_is}
use Rattle.sr_laws.proofs.Order.{push}
use Rattle.sr_laws.proofs.Exact.{IsExact, Knows}
use Rattle.sr_encode.specs.declared.waypoint.Waypoint.{Waypoint}
use Rattle.sr_encode.specs.Waypoints.{no_waypoint, waypoint_at, waypoint_node, segments_to, path_to, AreParents, Extends, met_from, met_first}
use Rattle.sr_encode.specs.Aftermath.{Aftermath}
use Rattle.sr_encode.specs.Search.{segment_numbered, key_count, StepsTo, Agrees, IsSearching, IsStarting}
use Rattle.sr_lanes.proofs.SizeLemmas.{without-same, without-other, without-inside}
use Rattle.sr_encode.proofs.SearchLemmas.{leads-within, search-over, search-push, search-next, search-pass, search-past, search-upto, search-short, search-from_start, start-more, start-push, start-jump, start-empty, none-replicate}

-- the last segment of a list, put before the rest in reverse
pub chain-step : (queue : List Waypoint) (m at : ℕ) (whole list : List Segment) (t : Segment)
    → whole ≡ segments_to queue (suc m) at ++ reverse list → t ≡ (waypoint_at queue at).segment
    → whole ≡ segments_to queue m (waypoint_at queue at).parent ++ reverse (list ++ t ∷ [])
chain-step queue m at whole list t e is =
    let turned : reverse (list ++ t ∷ []) ≡ t ∷ reverse list = reverse-append list (t ∷ []) in
    let joined : (segments_to queue m (waypoint_at queue at).parent ++ (waypoint_at queue at).segment ∷ []) ++ reverse list ≡ segments_to queue m (waypoint_at queue at).parent ++ ((waypoint_at queue at).segment ∷ reverse list) = append_assoc (segments_to queue m (waypoint_at queue at).parent) ((waypoint_at queue at).segment ∷ []) (reverse list) in
    rw (turned, is) (e ∙ joined)

-- lists stay as they are when the queue grows
segments-kept : (queue more : List Waypoint) → AreParents queue → Extends queue more → (m k : ℕ) → k < length queue
    → segments_to more m k ≡ segments_to queue m k
segments-kept queue more p e zero k lt = refl
segments-kept queue more p e (suc m) k lt =
    let up : (waypoint_at queue k).parent ≤ k = (p k lt).0 in
    let before : segments_to more m (waypoint_at queue k).parent ≡ segments_to queue m (waypoint_at queue k).parent = segments-kept queue more p e m (waypoint_at queue k).parent (omega arith) in
    let all : segments_to more m (waypoint_at more k).parent ++ (waypoint_at more k).segment ∷ [] ≡ segments_to queue m (waypoint_at queue k).parent ++ (waypoint_at queue k).segment ∷ [] = rw (e.same k lt, before) refl in
    all

pub path-kept : (queue more : List Waypoint) → AreParents queue → Extends queue more → (k : ℕ) → k < length queue
    → path_to more k ≡ path_to queue k
path-kept queue more p e k lt =
    let all : record { first = (waypoint_at more k).first.0; segments = segments_to more (waypoint_at more k).depth k } ≡ record { first = (waypoint_at queue k).first.0; segments = segments_to queue (waypoint_at queue k).depth k } = rw (e.same k lt, segments-kept queue more p e (waypoint_at queue k).depth k lt) refl in
    all

-- a list has as many segments as its waypoint is deep
pub segments-long : (queue : List Waypoint) (m k : ℕ) → length (segments_to queue m k) ≡ m
segments-long queue zero k = refl
segments-long queue (suc m) k = length-append (segments_to queue m (waypoint_at queue k).parent) ((waypoint_at queue k).segment ∷ []) ∙ omega (arith, segments-long queue m (waypoint_at queue k).parent)

pub extends-same : (queue : List Waypoint) → Extends queue queue
extends-same queue = record { longer = omega arith; same = λ k lt. refl }

pub extends-push : (queue : List Waypoint) (t : Waypoint) → Extends queue (queue ++ t ∷ [])
extends-push queue t = record { longer = omega (arith, length-append queue (t ∷ [])); same = λ k lt. get_or_append_left queue (t ∷ []) no_waypoint k lt }

pub extends-trans : (a b c : List Waypoint) → Extends a b → Extends b c → Extends a c
extends-trans a b c p q = record {
  longer = omega (arith, p.longer, q.longer);
  same = λ k lt. q.same k (omega (arith, p.longer)) ∙ p.same k lt;
}

none_of : (o : Option Path) → is_some o ≡ false → o ≡ None
none_of None e = refl
none_of (Some b) e = absurd (cc)

pub some_of : (o : Option Path) → is_some o ≡ true → (b : Path) × (o ≡ Some b)
some_of None e = absurd (cc)
some_of (Some b) e = (b, refl)

-- a node that wasn't met has no list
fresh-from : (known : List (Option Path)) (order : List ℕ) (queue : List Waypoint) (unmet : NodeBits) (v : ℕ)
    → Agrees known order queue unmet → is_in unmet v ≡ true → slice_index_or known v None ≡ None
fresh-from known order queue unmet v r e =
    let is : not (is_some (slice_index_or known v None)) ≡ true = sym (r.unmarked v (r.inside v e)) ∙ e in
    none_of (slice_index_or known v None) (not-true (is_some (slice_index_or known v None)) is)

-- and one that was has one
pub list-from : (known : List (Option Path)) (order : List ℕ) (queue : List Waypoint) (unmet : NodeBits) (v : ℕ)
    → Agrees known order queue unmet → v < length known → is_in unmet v ≡ false
    → (b : Path) × Knows known v b
list-from known order queue unmet v r within e =
    let is : not (is_some (slice_index_or known v None)) ≡ false = sym (r.unmarked v within) ∙ e in
    some_of (slice_index_or known v None) (not-false (is_some (slice_index_or known v None)) is)

-- one waypoint more
agrees-push : (known : List (Option Path)) (order : List ℕ) (queue : List Waypoint) (unmet less : NodeBits) (v : ℕ) (a : Path) (t : Waypoint)
    → Agrees known order queue unmet
    → v < length known → slice_index_or known v None ≡ None → IsWithout unmet less v
    → t.node.0 ≡ v → t.parent ≤ length queue → t.depth ≤ length queue → path_to (queue ++ t ∷ []) (length queue) ≡ a
    → Agrees (set known v (Some a)) (order ++ v ∷ []) (queue ++ t ∷ []) less
agrees-push known order queue unmet less v a t r within fresh taken node parent depth path =
    let e : Extends queue (queue ++ t ∷ []) = extends-push queue t in
    let long : length (queue ++ t ∷ []) ≡ length queue + 1 = length-append queue (t ∷ []) in
    let long' : length (order ++ v ∷ []) ≡ length order + 1 = length-append order (v ∷ []) in
    let last : waypoint_at (queue ++ t ∷ []) (length queue) ≡ t = get_or_push queue t no_waypoint (length queue) refl in
    let last' : slice_index (order ++ v ∷ []) (length order) ≡ v = get_or_push order v 0 (length order) refl in
    let same : length queue ≡ length order = r.long in
    record {
      long = omega (arith, r.long);
      nodes = λ k lt. ⊎_elim
          (λ (old : k < length order). ap (λ (w : Waypoint). w.node.0) (e.same k (omega arith)) ∙ r.nodes k old ∙ sym (get_or_append_left order (v ∷ []) 0 k old))
          (λ (late : length order ≤ k). let at : k ≡ length queue = omega arith in let at' : k ≡ length order = omega arith in
          ap (λ j. waypoint_node (queue ++ t ∷ []) j) at ∙ ap (λ (w : Waypoint). w.node.0) last ∙ node ∙ sym last' ∙ ap (λ j. slice_index (order ++ v ∷ []) j) (sym at'))
          (cases_lt k (length order));
      paths = λ k lt. ⊎_elim
          (λ (old : k < length order).
          let known_k : Knows known (slice_index order k) (path_to queue k) = r.paths k old in
          let apart : slice_index order k ≢ v = λ same'. let z : slice_index_or known v None ≡ Some (path_to queue k) = subst (λ j. slice_index_or known j None ≡ Some (path_to queue k)) same' known_k in let y : None ≡ Some (path_to queue k) = sym fresh ∙ z in cc in
          rw (get_or_append_left order (v ∷ []) 0 k old, path-kept queue (queue ++ t ∷ []) r.parents e k (omega arith)) (get_or-set_other known v (slice_index order k) (Some a) None apart ∙ known_k))
          (λ (late : length order ≤ k). let at : k ≡ length queue = omega arith in let at' : k ≡ length order = omega arith in
          let here : slice_index (order ++ v ∷ []) k ≡ v = ap (λ j. slice_index (order ++ v ∷ []) j) at' ∙ last' in
          let list : path_to (queue ++ t ∷ []) k ≡ a = ap (λ j. path_to (queue ++ t ∷ []) j) at ∙ path in
          rw (here, list) (get_or-set_same known v (Some a) None within))
          (cases_lt k (length order));
      parents = λ k lt. ⊎_elim
          (λ (old : k < length queue). rw (e.same k old) (r.parents k old))
          (λ (late : length queue ≤ k). let at : k ≡ length queue = omega arith in rw (at, last) (parent, depth))
          (cases_lt k (length queue));
      inside = λ w is.
          let before : w < length known = r.inside w (without-inside unmet less v w taken is).1 in
          omega (arith, length-set known v (Some a));
      unmarked = λ w inside. ⊎_elim
          (λ (here : w ≡ v). rw (here, without-same unmet less v taken, get_or-set_same known v (Some a) None within) refl)
          (λ (apart : w ≢ v). rw (without-other unmet less v w taken apart, get_or-set_other known v w (Some a) None apart) (r.unmarked w (omega (arith, length-set known v (Some a)))))
          (cases_eq w v);
    }

-- the list of a waypoint that is met from another is its list with a segment more
from-path : (queue : List Waypoint) (i : ℕ) (v : NodeNo) (t : Segment) → AreParents queue → i < length queue
    → path_to (queue ++ met_from queue i v t ∷ []) (length queue) ≡ push (path_to queue i) t
from-path queue i v t p lt =
    let e : Extends queue (queue ++ met_from queue i v t ∷ []) = extends-push queue (met_from queue i v t) in
    let last : waypoint_at (queue ++ met_from queue i v t ∷ []) (length queue) ≡ met_from queue i v t = get_or_push queue (met_from queue i v t) no_waypoint (length queue) refl in
    let before : segments_to (queue ++ met_from queue i v t ∷ []) (waypoint_at queue i).depth i ≡ segments_to queue (waypoint_at queue i).depth i = segments-kept queue (queue ++ met_from queue i v t ∷ []) p e (waypoint_at queue i).depth i lt in
    let deep : (waypoint_at queue i).depth + 1 ≡ suc (waypoint_at queue i).depth = omega arith in
    let last_segments : segments_to (queue ++ met_from queue i v t ∷ []) (suc (waypoint_at queue i).depth) (length queue) ≡ segments_to queue (waypoint_at queue i).depth i ++ t ∷ [] =
    (let all : segments_to (queue ++ met_from queue i v t ∷ []) (waypoint_at queue i).depth (waypoint_at (queue ++ met_from queue i v t ∷ []) (length queue)).parent ++ (waypoint_at (queue ++ met_from queue i v t ∷ []) (length queue)).segment ∷ [] ≡ segments_to queue (waypoint_at queue i).depth i ++ t ∷ [] = rw (last, before) refl in all) in
    let segments : segments_to (queue ++ met_from queue i v t ∷ []) (waypoint_at (queue ++ met_from queue i v t ∷ []) (length queue)).depth (length queue) ≡ segments_to queue (waypoint_at queue i).depth i ++ t ∷ [] =
    subst (λ (w : Waypoint). segments_to (queue ++ met_from queue i v t ∷ []) w.depth (length queue) ≡ segments_to queue (waypoint_at queue i).depth i ++ t ∷ []) (sym last) (subst (λ k. segments_to (queue ++ met_from queue i v t ∷ []) k (length queue) ≡ segments_to queue (waypoint_at queue i).depth i ++ t ∷ []) (sym deep) last_segments) in
    path_is (path_to (queue ++ met_from queue i v t ∷ []) (length queue)) (push (path_to queue i) t) (ap (λ (w : Waypoint). w.first.0) last) segments

first-path : (queue : List Waypoint) (l : LinkNo) (v : NodeNo) → path_to (queue ++ met_first l v ∷ []) (length queue) ≡ record { first = l.0; segments = [] }
first-path queue l v =
    let last : waypoint_at (queue ++ met_first l v ∷ []) (length queue) ≡ met_first l v = get_or_push queue (met_first l v) no_waypoint (length queue) refl in
    let all : record { first = (waypoint_at (queue ++ met_first l v ∷ []) (length queue)).first.0; segments = segments_to (queue ++ met_first l v ∷ []) (waypoint_at (queue ++ met_first l v ∷ []) (length queue)).depth (length queue) } ≡ record { first = l.0; segments = [] } = rw last refl in
    all

-- where a segment leads
pub step-node : (after : Aftermath) (w : ℕ) (v : NodeNo) (u : ℕ) → StepsTo after w (Node v) u → u ≡ v.0
step-node after w v u step = sym step.leads.7.0

pub step-link : (after : Aftermath) (w : ℕ) (l : LinkNo) (u : ℕ) → StepsTo after w (Adj l) u
    → u ≡ head after.net.graph l.0
step-link after w l u step = sym step.leads.5.0

-- the numbers of segments
pub segment-node : (g : Graph) (v : NodeNo) → v.0 < node_count g → segment_numbered g v.0 ≡ Node v
segment-node g v lt = cond_both (nat_lt v.0 (node_count g)) (Node (record { 0 = v.0 })) (Adj (record { 0 = v.0 - node_count g })) (λ r. r ≡ Node v) (λ _. refl) (λ high. let h : node_count g ≤ v.0 = ltb-false v.0 (node_count g) high in absurd (omega arith))

pub segment-link : (g : Graph) (l : LinkNo) → segment_numbered g (node_count g + l.0) ≡ Adj l
segment-link g l =
    let z : (node_count g + l.0) - node_count g ≡ l.0 = omega arith in
    cond_both (nat_lt (node_count g + l.0) (node_count g)) (Node (record { 0 = node_count g + l.0 })) (Adj (record { 0 = (node_count g + l.0) - node_count g })) (λ r. r ≡ Adj l)
    (λ low. let h : node_count g + l.0 < node_count g = ltb-true _ _ low in absurd (omega arith)) (λ _. ap (λ k. Adj (record { 0 = k })) z)

-- nothing is met yet
pub starting-empty : (after : Aftermath) (unmet : NodeBits) → ((v : ℕ)
    → is_in unmet v ≡ nat_lt v (node_count after.net.graph)) → IsStarting after [] unmet 0
starting-empty after unmet all =
    let long : length (replicate {A = Option Path} (node_count after.net.graph) None) ≡ node_count after.net.graph = length-replicate (node_count after.net.graph) None in
    record {
      known = replicate (node_count after.net.graph) None;
      order = [];
      start = start-empty after;
      agrees = record {
        long = refl;
        nodes = λ k lt. absurd (omega arith);
        paths = λ k lt. absurd (omega arith);
        parents = λ k lt. absurd (omega arith);
        inside = λ w is. let below : w < node_count after.net.graph = ltb-true w (node_count after.net.graph) (sym (all w) ∙ is) in omega (arith, long);
        unmarked = λ w inside. rw (all w, none-replicate (node_count after.net.graph) w) (lt-ltb w (node_count after.net.graph) (omega (arith, long)));
      };
    }

pub starting-jump : (after : Aftermath) (queue : List Waypoint) (unmet : NodeBits) (l next : ℕ)
    → IsStarting after queue unmet l → l ≤ next → ((k : ℕ) → l ≤ k → k < next → k < link_count after.net.graph
    → tail after.net.graph k ≡ after.source → ⊥) → IsStarting after queue unmet next
starting-jump after queue unmet l next r up none = record { known = r.known; order = r.order; start = start-jump after r.known r.order l next r.start up none; agrees = r.agrees }

-- a first link that leads along no shortest walk, or to a node that was met
-- to take out a node that isn't in the set changes nothing
pub starting-still : (after : Aftermath) (queue : List Waypoint) (unmet less : NodeBits) (l v : ℕ) → IsStarting after queue unmet l → IsWithout unmet less v → is_in unmet v ≡ false → IsStarting after queue less l
starting-still after queue unmet less l v r taken out =
    let same : (k : ℕ) → is_in less k ≡ is_in unmet k = λ k. ⊎_elim
    (λ (e : k ≡ v). subst (λ w. is_in less w ≡ is_in unmet w) (sym e) (without-same unmet less v taken ∙ sym out))
    (λ (ne : k ≢ v). without-other unmet less v k taken ne)
    (cases_eq k v) in
    record {
      known = r.known;
      order = r.order;
      start = r.start;
      agrees = record {
        long = r.agrees.long;
        nodes = r.agrees.nodes;
        paths = r.agrees.paths;
        parents = r.agrees.parents;
        inside = λ w yes. r.agrees.inside w (sym (same w) ∙ yes);
        unmarked = λ w lt. same w ∙ r.agrees.unmarked w lt;
      };
    }

pub starting-skip : (after : Aftermath) (queue : List Waypoint) (unmet : NodeBits) (l : ℕ) → IsStarting after queue unmet l → ((w : ℕ) → IsExact after.net after.failed after.source w (record { first = l; segments = [] }) → (w < node_count after.net.graph) × (is_in unmet w ≡ false)) → IsStarting after queue unmet (l + 1)
starting-skip after queue unmet l r here = record { known = r.known; order = r.order; start = start-more after r.known r.order l r.start (λ w e. list-from r.known r.order queue unmet w r.agrees (let lt : w < node_count after.net.graph = (here w e).0 in omega (arith, r.start.long)) (here w e).1); agrees = r.agrees }

pub starting-push : (after : Aftermath) (queue : List Waypoint) (unmet less : NodeBits) (l : LinkNo) (v : NodeNo) → IsStarting after queue unmet l.0 → v.0 < node_count after.net.graph → is_in unmet v.0 ≡ true → IsWithout unmet less v.0 → IsExact after.net after.failed after.source v.0 (record { first = l.0; segments = [] }) → v.0 ≡ head after.net.graph l.0
    → IsStarting after (queue ++ met_first l v ∷ []) less (l.0 + 1)
starting-push after queue unmet less l v r within apart taken exact end =
    let fresh : slice_index_or r.known v.0 None ≡ None = fresh-from r.known r.order queue unmet v.0 r.agrees apart in
    record {
      known = set r.known v.0 (Some (record { first = l.0; segments = [] }));
      order = r.order ++ v.0 ∷ [];
      start = start-push after r.known r.order l.0 v.0 r.start within fresh exact end;
      agrees = agrees-push r.known r.order queue unmet less v.0 (record { first = l.0; segments = [] }) (met_first l v) r.agrees (omega (arith, r.start.long)) fresh taken refl (omega arith) (omega arith) (first-path queue l v);
    }

pub searching-from_start : (after : Aftermath) (queue : List Waypoint) (unmet : NodeBits)
    → IsStarting after queue unmet (link_count after.net.graph) → IsSearching after queue unmet 0 0
searching-from_start after queue unmet r = record { known = r.known; order = r.order; search = search-from_start after r.known r.order r.start; agrees = r.agrees }

-- a search that stands at a waypoint of the queue
module _ (after : Aftermath) (queue : List Waypoint) (unmet : NodeBits) (i cur : ℕ) (r : IsSearching after queue unmet i cur) (inside : i < length queue) where
  inside' : i < length r.order
  inside' = omega (arith, r.agrees.long)

  place_is : slice_index r.order i ≡ waypoint_node queue i
  place_is = sym (r.agrees.nodes i inside')

  from-there : (t : Segment) (v : ℕ) → StepsTo after (slice_index r.order i) t v → StepsTo after (waypoint_node queue i) t v
  from-there t v step = subst (λ j. StepsTo after j t v) place_is step

  -- it goes on past segments that lead to nodes that were met, if anywhere
  pub searching-over : (next : ℕ) → cur ≤ next
      → ((key v : ℕ) → cur ≤ key → key < next → StepsTo after (waypoint_node queue i) (segment_numbered after.net.graph key) v
      → (v < node_count after.net.graph) × (is_in unmet v ≡ false))
      → IsSearching after queue unmet i next
  searching-over next up met = record {
    known = r.known;
    order = r.order;
    search = search-over after r.known r.order i cur next r.search inside' up
        (λ key v at below step.
        let q = met key v at below (from-there (segment_numbered after.net.graph key) v step) in
        list-from r.known r.order queue unmet v r.agrees (let lt : v < node_count after.net.graph = q.0 in omega (arith, r.search.long)) q.1);
    agrees = r.agrees;
  }

  -- and past one that leads to a node that wasn't
  pub searching-push : (t : Segment) (v : NodeNo) (less : NodeBits)
      → IsRow after.net.graph after.failed after.source after.post → segment_numbered after.net.graph cur ≡ t
      → v.0 < node_count after.net.graph
      → is_in unmet v.0 ≡ true → IsWithout unmet less v.0 → StepsTo after (waypoint_node queue i) t v.0 → ((u : ℕ)
      → StepsTo after (waypoint_node queue i) t u → u ≡ v.0)
      → IsSearching after (queue ++ met_from queue i v t ∷ []) less i (cur + 1)
  searching-push t v less row is within apart taken step one =
      let fresh : slice_index_or r.known v.0 None ≡ None = fresh-from r.known r.order queue unmet v.0 r.agrees apart in
      let list : push (path_to queue i) (segment_numbered after.net.graph cur) ≡ push (path_to queue i) t = ap (λ k. push (path_to queue i) k) is in
      let there : StepsTo after (slice_index r.order i) (segment_numbered after.net.graph cur) v.0 = subst (λ k. StepsTo after (slice_index r.order i) k v.0) (sym is) (subst (λ j. StepsTo after j t v.0) (sym place_is) step) in
      let only : (u : ℕ) → StepsTo after (slice_index r.order i) (segment_numbered after.net.graph cur) u → u ≡ v.0 = λ u st. one u (from-there t u (subst (λ k. StepsTo after (slice_index r.order i) k u) is st)) in
      let depth : (waypoint_at queue i).depth ≤ i = (r.agrees.parents i inside).1 in
      record {
        known = set r.known v.0 (Some (push (path_to queue i) t));
        order = r.order ++ v.0 ∷ [];
        search = search-push after r.known r.order i cur v.0 (path_to queue i) r.search row inside' (r.agrees.paths i inside') within fresh there only
            (set r.known v.0 (Some (push (path_to queue i) t))) (r.order ++ v.0 ∷ []) (ap (λ k. set r.known v.0 (Some k)) (sym list)) refl;
        agrees = agrees-push r.known r.order queue unmet less v.0 (push (path_to queue i) t) (met_from queue i v t) r.agrees (omega (arith, r.search.long)) fresh taken refl (omega arith)
            (omega (arith, depth)) (from-path queue i v t r.agrees.parents inside);
      }

-- up to the links of the waypoint
pub searching-upto : (after : Aftermath) (queue : List Waypoint) (unmet : NodeBits) (i first : ℕ)
    → IsSearching after queue unmet i (node_count after.net.graph) → i < length queue
    → first ≤ link_count after.net.graph
    → ((k : ℕ) → k < link_count after.net.graph → tail after.net.graph k ≡ waypoint_node queue i → first ≤ k)
    → IsSearching after queue unmet i (node_count after.net.graph + first)
searching-upto after queue unmet i first r inside within to =
    let here : i < length r.order = omega (arith, r.agrees.long) in
    record {
      known = r.known;
      order = r.order;
      search = search-upto after r.known r.order i first r.search here within (λ k lt begins. to k lt (begins ∙ sym (r.agrees.nodes i here)));
      agrees = r.agrees;
    }

-- past the links of the waypoint, to the next one
pub searching-past : (after : Aftermath) (queue : List Waypoint) (unmet : NodeBits) (i l end : ℕ)
    → IsSearching after queue unmet i (node_count after.net.graph + l) → i < length queue
    → l ≤ link_count after.net.graph
    → ((k : ℕ) → k < link_count after.net.graph → tail after.net.graph k ≡ waypoint_node queue i → k < end) → end ≤ l
    → IsSearching after queue unmet (i + 1) 0
searching-past after queue unmet i l end r inside within to over =
    let here : i < length r.order = omega (arith, r.agrees.long) in
    record {
      known = r.known;
      order = r.order;
      search = search-next after r.known r.order i
          (search-past after r.known r.order i l end r.search here within (λ k lt begins. to k lt (begins ∙ sym (r.agrees.nodes i here))) over) here;
      agrees = r.agrees;
    }

-- past a waypoint that is overloaded
pub searching-pass : (after : Aftermath) (queue : List Waypoint) (unmet : NodeBits) (i : ℕ)
    → IsSearching after queue unmet i 0 → i < length queue → is_overloaded after.net.graph (waypoint_node queue i) ≡ true
    → IsSearching after queue unmet (i + 1) 0
searching-pass after queue unmet i r inside over =
    let here : i < length r.order = omega (arith, r.agrees.long) in
    record {
      known = r.known;
      order = r.order;
      search = search-pass after r.known r.order i r.search here (subst (λ w. is_overloaded after.net.graph w ≡ true) (r.agrees.nodes i here) over);
      agrees = r.agrees;
    }

-- where each node was met, past all segments of the waypoint
pub searching-all_met : (after : Aftermath) (queue : List Waypoint) (unmet : NodeBits) (i cur : ℕ)
    → IsGraph after.net.graph → IsSearching after queue unmet i cur → i < length queue
    → cur ≤ key_count after.net.graph
    → ((v : ℕ) → is_in unmet v ≡ false) → IsSearching after queue unmet (i + 1) 0
searching-all_met after queue unmet i cur graph r inside up none =
    let here : i < length r.order = omega (arith, r.agrees.long) in
    let over : IsSearching after queue unmet i (key_count after.net.graph) = searching-over after queue unmet i cur r inside (key_count after.net.graph) up
    (λ key v at below step. (leads-within after.net after.failed graph v (waypoint_node queue i) step.cost (segment_numbered after.net.graph key) step.leads, none v)) in
    record {
      known = over.known;
      order = over.order;
      search = search-next after over.known over.order i over.search (omega (arith, over.agrees.long));
      agrees = over.agrees;
    }

-- the queue has no more waypoints than there are nodes, and each is one
pub searching-short : (after : Aftermath) (queue : List Waypoint) (unmet : NodeBits) (i cur : ℕ)
    → IsSearching after queue unmet i cur → length queue ≤ node_count after.net.graph
searching-short after queue unmet i cur r = omega (arith, r.agrees.long, search-short after r.known r.order i cur r.search)

pub searching-node : (after : Aftermath) (queue : List Waypoint) (unmet : NodeBits) (i cur k : ℕ)
    → IsSearching after queue unmet i cur → k < length queue → waypoint_node queue k < node_count after.net.graph
searching-node after queue unmet i cur k r lt = rw (r.agrees.nodes k (omega (arith, r.agrees.long))) ((r.search.found k (omega (arith, r.agrees.long))).0)
