-- That the search may stop where the first waypoint serves.
use Rattle.std.proofs.Common.{◌≡◌, ◌≢◌, ℕ, zero, suc, ◌+◌, ◌<◌, ◌≤◌, ◌⊎◌, ⊎_elim, inl, inr, List, [], ◌∷◌, ◌++◌, length, get_or, arith, ap, sym, ◌∙◌, subst, Option, Some}
use Rattle.std.specs.Prelude.{slice_index}
use Rattle.std.proofs.lemmas.Bool.{cases_eq, cases_lt}
use Rattle.std.proofs.lemmas.List.{length-append}
use Rattle.sr_model.specs.declared.repair.Segment.{Segment}
use Rattle.sr_model.specs.Graph.{IsGraph, node_count, metric}
use Rattle.sr_lanes.specs.declared.words.NodeBits.{NodeBits}
use Rattle.sr_model.specs.Walk.{IsDistance, IsRow}
use Rattle.sr_model.specs.Repair.{Path, IsSound, PathLe}
use Rattle.sr_walks.proofs.Walks.{IsWalk-append}
use Rattle.sr_walks.proofs.Distances.{distance-unique}
use Rattle.sr_laws.proofs.Order.{push, PathLe-push, PathLe-trans}
use Rattle.sr_laws.proofs.Waypoints.{Routes, IsRouted, routed-from_sound, last-walk}
use Rattle.sr_laws.proofs.Exact.{IsExact, Knows, Serves, snoc_cases, exact-before, exact-from_routed, sound-from_serves}
use Rattle.sr_encode.specs.declared.waypoint.Waypoint.{Waypoint}
use Rattle.sr_encode.specs.Waypoints.{waypoint_node, path_to}
use Rattle.sr_encode.specs.Aftermath.{Aftermath, IsAftermath}
use Rattle.sr_encode.specs.Search.{StepsTo, IsSearch, IsSearching}
use Rattle.sr_encode.specs.Serve.{EndsAt, NoneEnds, IsLeastThere, AreLeastFrom}
use Rattle.sr_encode.proofs.QueueLemmas.{searching-short, searching-node}
use Rattle.sr_encode.proofs.SearchLemmas.{segment_key, row-distance, row-exact, step-from_exact, leads-within}

-- the list of this first link and these segments
abbrev list : ℕ → List Segment → Path
list first ss = record { first = first; segments = ss }

-- a list with a segment more comes behind
pushed-le : (a : Path) (first : ℕ) (ss : List Segment) (t : Segment) → PathLe a (list first ss)
    → PathLe a (list first (ss ++ t ∷ []))
pushed-le a first ss t le =
    let longer : length (ss ++ t ∷ []) ≡ length ss + 1 = length-append ss (t ∷ []) in
    PathLe-trans a (list first ss) (list first (ss ++ t ∷ [])) le (inl (inl (omega arith)))

-- a list to w is known that is no greater, or that at place i with some segment more is no greater
abbrev IsBounded : List (Option Path) → List ℕ → ℕ → ℕ → Path → Type 0
IsBounded known order i w b =
    ((c : Path) × Knows known w c × PathLe c b) ⊎ ((i < length order) × ((a : Path) → Knows known (slice_index order i) a → (t : Segment) × PathLe (push a t) b))

-- the list at an earlier place is no greater than one that stands there or behind
behind : (after : Aftermath) (known : List (Option Path)) (order : List ℕ) (i cur j k : ℕ) (a c : Path)
    → IsSearch after known order i cur → j ≤ k → k < length order
    → Knows known (slice_index order j) a → Knows known (slice_index order k) c → PathLe a c
behind after known order i cur j k a c r le lt ka kc =
    ⊎_elim
    (λ (e : k ≡ j). let z : Some a ≡ Some c = sym ka ∙ subst (λ m. Knows known (slice_index order m) c) e kc in inr (cc))
    (λ (ne : k ≢ j). inl (r.ascending j k a c (omega arith) lt ka kc))
    (cases_eq k j)

module _ (after : Aftermath) (known : List (Option Path)) (order : List ℕ) (i : ℕ) (graph : IsGraph after.net.graph) (row : IsRow after.net.graph after.failed after.source after.post) (r : IsSearch after known order i 0) where
  one-more : (w u first e : ℕ) (ss : List Segment) (t : Segment)
      → (b : IsExact after.net after.failed after.source u (list first ss))
      → Routes after.net after.failed u (t ∷ []) w e
      → IsDistance after.net.graph after.failed after.source w (metric after.net.graph first + b.middle + e)
      → IsBounded known order i u (list first ss)
      → IsBounded known order i w (list first (ss ++ t ∷ []))
  one-more w u first e ss t b leads whole bound =
      ⊎_elim
      (λ known_u.
      let c : Path = known_u.0 in
      let at = r.listed u known_u.0 known_u.1 in
      let within = (r.exact u known_u.0 known_u.1).0 in
      let step : StepsTo after u t w = step-from_exact after u w e (list first ss) t row within (leads-within after.net after.failed graph w u e t leads) b leads whole in
      let kc : Knows known (slice_index order at.0) known_u.0 = subst (λ j. Knows known j known_u.0) (sym at.2) known_u.1 in
      let pushed : PathLe (push known_u.0 t) (list first (ss ++ t ∷ [])) = PathLe-push known_u.0 (list first ss) t known_u.2 in
      ⊎_elim
      (λ (early : at.0 < i).
      let key = segment_key after.net after.failed u t w e leads in
      let q = r.closed at.0 key.0 w known_u.0 at.1 (inl (early, key.1)) kc (rw at.2 (subst (λ j. StepsTo after u j w) (sym key.2) step)) in
      let le : PathLe q.0 (push known_u.0 t) = subst (λ j. PathLe q.0 (push known_u.0 j)) key.2 q.2 in
      inl (q.0, q.1, PathLe-trans q.0 (push known_u.0 t) (list first (ss ++ t ∷ [])) le pushed))
      (λ (late : i ≤ at.0).
      inr (
        omega (arith, at.1),
        λ a ka.
            let before : PathLe a known_u.0 = behind after known order i 0 i at.0 a known_u.0 r late at.1 ka kc in
            (t, PathLe-trans (push a t) (push known_u.0 t) (list first (ss ++ t ∷ [])) (PathLe-push a known_u.0 t before) pushed),
      ))
      (cases_lt at.0 i))
      (λ there. inr (there.0, λ a ka. let q = there.1 a ka in (q.0, pushed-le (push a q.0) first ss t q.1)))
      bound

  -- each exact list is bounded so
  pub bounded : (m w first : ℕ) (ss : List Segment) → length ss ≤ m
      → IsExact after.net after.failed after.source w (list first ss) → IsBounded known order i w (list first ss)
  bounded zero w first [] short exact = inl (r.starts w first exact)
  bounded zero w first (t ∷ ss) short exact = absurd (omega arith)
  bounded (suc m) w first ss short exact =
      ⊎_elim
      (λ e. rw e (inl (r.starts w first (rw e at exact))))
      (λ cut.
      let b = exact-before after.net after.failed after.source w first cut.0 cut.1 (rw cut.2 at exact) in
      let before : IsBounded known order i b.0 (list first cut.0) = bounded m b.0 first cut.0 (omega (arith, ap length cut.2, length-append cut.0 (cut.1 ∷ []))) b.2 in
      rw cut.2 (one-more w b.0 first b.1 cut.0 cut.1 b.2 b.3 b.4 before))
      (snoc_cases ss)

-- a list that can end at its waypoint towards d
pub ends-from_routed : (after : Aftermath) (d : ℕ) (b : Path)
    → IsRow after.net.graph after.failed after.source after.post → d < node_count after.net.graph
    → (i : IsRouted after.net after.failed after.source d b) → i.last < node_count after.net.graph
    → EndsAt after i.last d
ends-from_routed after d b row within i inside =
    let same : get_or after.post d 0 ≡ metric after.net.graph b.first + i.middle + i.rest = distance-unique after.net.graph after.failed after.source d _ _ (row-distance after.net.graph after.failed after.source after.post d i.fits.reached.0 row within i.fits.reached.1) i.fits in
    let e : IsExact after.net after.failed after.source i.last b = exact-from_routed after.net after.failed after.source d b i in
    let here : get_or after.post i.last 0 ≡ metric after.net.graph b.first + i.middle = row-exact after i.last b row inside e in
    record { rest = i.rest; free = i.free; ends = i.ends; goes_on = i.goes_on; fits = omega arith }

-- a known list whose waypoint can be the end is sound
pub sound-from_ends : (after : Aftermath) (w d : ℕ) (a : Path)
    → IsRow after.net.graph after.failed after.source after.post → w < node_count after.net.graph
    → d < node_count after.net.graph → IsExact after.net after.failed after.source w a → EndsAt after w d
    → IsSound after.net after.failed after.source d a
sound-from_ends after w d a row at within i e =
    let q = last-walk after.net.graph after.failed w d e.rest e.free e.ends e.goes_on in
    let far : IsDistance after.net.graph after.failed after.source d (get_or after.post d 0) = row-distance after.net.graph after.failed after.source after.post d (i.fits.reached.0 ++ q.0) row within (IsWalk-append after.net.graph after.failed after.source i.fits.reached.0 w q.0 d i.fits.reached.1 q.1 q.3) in
    let serves : Serves after.net after.failed after.source d w a = record { exact = i; rest = e.rest; free = e.free; ends = e.ends; goes_on = e.goes_on; fits = subst (λ k. IsDistance after.net.graph after.failed after.source d k) (omega (arith, e.fits, row-exact after w a row at i)) far } in
    sound-from_serves after.net after.failed after.source d w a serves

module _ (after : Aftermath) (queue : List Waypoint) (unmet : NodeBits) (i : ℕ) (is : IsAftermath after) (r : IsSearching after queue unmet i 0) where
  -- each list that the queue has is lower than that at place i with a segment more
  lower : (k : ℕ) (a : Path) (t : Segment) (b : Path) → i < length r.order → k < length r.order
      → Knows r.known (slice_index r.order i) a → PathLe (push a t) b → PathLe (path_to queue k) b
  lower k a t b here within ka le =
      ⊎_elim
      (λ all. PathLe-trans (path_to queue k) (push a t) b (inl (all t)) le)
      (λ pushed. let z : pushed.0 < 0 = pushed.1 in absurd (omega arith))
      (r.search.low a (slice_index r.order k) (path_to queue k) here ka (r.agrees.paths k within))

  -- no sound list comes before that at a place from i on, if lists can't end before it
  none-before : (d k : ℕ) → d < node_count after.net.graph → i ≤ k → NoneEnds after queue d k → (b : Path)
      → IsSound after.net after.failed after.source d b
      → (i < length queue) × (k < length queue → PathLe (path_to queue k) b)
  none-before d k within from none b sound =
      let j : IsRouted after.net after.failed after.source d b = routed-from_sound after.net after.failed after.source d b is.graph sound in
      let e : IsExact after.net after.failed after.source j.last b = exact-from_routed after.net after.failed after.source d b j in
      ⊎_elim
      (λ q.
      let at = r.search.listed j.last q.0 q.1 in
      let inside : j.last < node_count after.net.graph = (r.search.exact j.last q.0 q.1).0 in
      let ends : EndsAt after j.last d = ends-from_routed after d b is.row within j inside in
      let node : waypoint_node queue at.0 ≡ j.last = r.agrees.nodes at.0 at.1 ∙ at.2 in
      let ends' : EndsAt after (waypoint_node queue at.0) d = subst (λ m. EndsAt after m d) (sym node) ends in
      let kc : Knows r.known (slice_index r.order at.0) q.0 = subst (λ m. Knows r.known m q.0) (sym at.2) q.1 in
      ⊎_elim
      (λ (early : at.0 < k). absurd (none at.0 early ends'))
      (λ (late : k ≤ at.0).
      let here : k < length r.order = omega (arith, at.1) in (
        omega (arith, r.agrees.long, at.1),
        λ _. PathLe-trans (path_to queue k) q.0 b (behind after r.known r.order i 0 k at.0 (path_to queue k) q.0 r.search late at.1 (r.agrees.paths k here) kc) q.2,
      ))
      (cases_lt at.0 k))
      (λ there. (
        omega (arith, r.agrees.long, there.0),
        λ short.
            let here : k < length r.order = omega (arith, r.agrees.long) in
            let q = there.1 (path_to queue i) (r.agrees.paths i there.0) in
            lower k (path_to queue i) q.0 b there.0 here (r.agrees.paths i there.0) q.1,
      ))
      (bounded after r.known r.order i is.graph is.row r.search (length b.segments) j.last b.first b.segments (omega arith) e)

  -- so the first waypoint from there on that can be the end has the least sound list
  least-there : (k : ℕ) → i ≤ k → k < length queue → IsLeastThere after queue k
  least-there k from inside d within none ends =
      let here : k < length r.order = omega (arith, r.agrees.long) in
      let ka = r.search.exact (slice_index r.order k) (path_to queue k) (r.agrees.paths k here) in
      record {
        sound = sound-from_ends after (slice_index r.order k) d (path_to queue k) is.row ka.0 within ka.1 (subst (λ m. EndsAt after m d) (r.agrees.nodes k here) ends);
        least = λ b sound. (none-before d k within from none b sound).1 inside;
      }

  pub are-least_from : (k : ℕ) → i ≤ k → AreLeastFrom after queue k
  are-least_from k from = record {
    short = searching-short after queue unmet i 0 r;
    nodes = λ j lt. searching-node after queue unmet i 0 j r lt;
    each = λ j at lt. least-there j (omega arith) lt;
  }

  -- and where there is none in the whole queue, no list is sound
  pub none-sound : length queue ≤ i → (d : ℕ) → d < node_count after.net.graph → NoneEnds after queue d i → (b : Path)
      → IsSound after.net after.failed after.source d b → ⊥
  none-sound over d within none b sound = let q = none-before d i within (omega arith) none b sound in (let lt : i < length queue = q.0 in omega arith)
