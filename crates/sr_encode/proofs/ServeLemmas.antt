-- How destinations are served, and that they are found when the search stops.
use Rattle.std.proofs.Common.{◌≡◌, ◌≢◌, ℕ, ◌+◌, ◌<◌, ◌≤◌, ◌↔◌, ⊎_elim, inr, true, false, not, ◌&&◌, List, length, IsTrue, arith, ap, sym, ◌∙◌, subst, Some}
use Rattle.std.specs.Prelude.{is_some}
use Rattle.std.proofs.lemmas.Bool.{cases_eq, cases_Bool, and_parts, not-true, true≢false}
use Rattle.sr_model.specs.Repair.{Path, IsLeast}
use Rattle.sr_lanes.specs.declared.words.NodeBits.{NodeBits}
use Rattle.sr_lanes.specs.Bits.{is_in}
use Rattle.sr_encode.specs.declared.waypoint.Waypoint.{Waypoint}
use Rattle.sr_encode.specs.declared.served.Served.{Served}
use Rattle.sr_encode.specs.Waypoints.{AreParents, Extends, waypoint_node, path_to}
use Rattle.sr_encode.specs.Aftermath.{Aftermath, IsAftermath}
use Rattle.sr_encode.specs.Search.{IsSearching}
use Rattle.sr_encode.specs.Serve.{EndsAt, NoneEnds, AreLeastFrom, place_at, IsServedBy, AreOffered, AreTended, IsTended, IsLater, ArePlaced, AreSearched, AreResolved}
use Rattle.sr_encode.proofs.QueueLemmas.{path-kept}
use Rattle.sr_encode.proofs.StopLemmas.{none-sound}

-- what was offered stays offered as the queue grows
pub offered-longer : (after : Aftermath) (queue more : List Waypoint) (k : ℕ) (served : Served) → AreParents queue
    → Extends queue more → k ≤ length queue → AreOffered after queue k served → AreOffered after more k served
offered-longer after queue more k served p e within r = record {
  long = r.long;
  inside = r.inside;
  none = λ d open_yet j lt ends. r.none d open_yet j lt (subst (λ (t : Waypoint). EndsAt after t.node.0 d) (e.same j (omega arith)) ends);
  some = λ d j is.
      let before = r.some d j is in
      let lt : j < length queue = before.0 in (
        omega (arith, e.longer),
        subst (λ (a : Path). IsLeast after.net after.failed after.source d a) (sym (path-kept queue more p e j lt)) before.1,
      );
}

-- those of the pending ones that were found are given place k, and are pending no more
module _ (k : ℕ) (before served : Served) (found : NodeBits)
    (rest : (d : ℕ) → is_in served.pending d ≡ (is_in before.pending d && not (is_in found d)))
    (marked : ArePlaced before.places.items found k served.places.items) where
  -- what is pending still
  pub still : (d : ℕ) → is_in served.pending d ≡ true → (is_in before.pending d ≡ true) × (is_in found d ≡ false)
  still d is =
      let both = and_parts (is_in before.pending d) (not (is_in found d)) (sym (rest d) ∙ is) in
      (both.0, not-true (is_in found d) both.1)

  -- where the waypoint at place k has the least sound list to each that was found
  module _ (after : Aftermath) (queue : List Waypoint) (inside : k < length queue)
      (least : (d : ℕ) → is_in found d ≡ true → IsLeast after.net after.failed after.source d (path_to queue k)) where
    served-found : (d : ℕ) → IsServedBy after.net after.failed after.source queue d (place_at before.places.items d)
        → IsServedBy after.net after.failed after.source queue d (place_at served.places.items d)
    served-found d was j is =
        ⊎_elim
        (λ yes.
        let here : Some k ≡ Some j = sym (marked.these d yes) ∙ is in
        let same : k ≡ j = cc in
        subst (λ m. (m < length queue) × IsLeast after.net after.failed after.source d (path_to queue m)) same (inside, least d yes))
        (λ no. was j (sym (marked.others d no) ∙ is))
        (cases_Bool (is_in found d))

    pub offered-found : (m n : ℕ) → AreOffered after queue m before
        → ((d : ℕ) → is_in served.pending d ≡ true → NoneEnds after queue d n) → AreOffered after queue n served
    offered-found m n r none = record {
      long = marked.long ∙ r.long;
      inside = λ d is. r.inside d (still d is).0;
      none = none;
      some = λ d. served-found d (r.some d);
    }

-- so it is where those are found towards which lists can end at place k
pub offered-next : (after : Aftermath) (queue : List Waypoint) (k : ℕ) (before served : Served) (found : NodeBits)
    → AreLeastFrom after queue k → k < length queue → AreOffered after queue k before
    → ((d : ℕ) → IsTrue (is_in found d) ↔ ((is_in before.pending d ≡ true) × EndsAt after (waypoint_node queue k) d))
    → ((d : ℕ) → is_in served.pending d ≡ (is_in before.pending d && not (is_in found d)))
    → ArePlaced before.places.items found k served.places.items → AreOffered after queue (k + 1) served
offered-next after queue k before served found least inside r ends rest marked =
    offered-found k before served found rest marked after queue inside
    (λ d yes.
    let q = (ends d).0 yes in
    least.each k (omega arith) inside d (r.inside d q.0) (r.none d q.0) q.1)
    k (k + 1) r
    (λ d is j lt at.
    let q = still k before served found rest marked d is in
    ⊎_elim
    (λ (here : j ≡ k). true≢false (sym ((ends d).1 (q.0, subst (λ m. EndsAt after (waypoint_node queue m) d) here at)) ∙ q.1))
    (λ (ne : j ≢ k). r.none d q.0 j (omega arith) at)
    (cases_eq j k))

-- and so it is at the end of the queue
pub searched-end : (after : Aftermath) (queue : List Waypoint) (unmet : NodeBits) (i : ℕ) (served : Served)
    → IsAftermath after → IsSearching after queue unmet i 0 → length queue ≤ i → i ≤ length queue
    → AreOffered after queue (length queue) served → AreSearched after queue served
searched-end after queue unmet i served is search over within r = record {
  parents = search.agrees.parents;
  long = r.long;
  none = λ d open_yet. none-sound after queue unmet i is search over d (r.inside d open_yet) (λ j lt. r.none d open_yet j (omega arith));
  some = r.some;
}

-- who was pending or had a place still is or has
pub tended-later : (before served : Served) → IsLater before served → (d : ℕ) → IsTended before d → IsTended served d
tended-later before served later d was = ⊎_elim (λ waits. later.pending d waits) (λ has. inr (later.places d has)) was

-- the destinations that have walks were pending, or had places
pub resolved-from : (after : Aftermath) (queue : List Waypoint) (wanted : NodeBits) (before served : Served)
    → AreTended after wanted before → IsLater before served → AreSearched after queue served
    → AreResolved after queue wanted served.places.items
resolved-from after queue wanted before served tended later r = record {
  parents = r.parents;
  long = r.long;
  each = λ d one. record {
    none = λ none near. ⊎_elim
        (λ still. r.none d still)
        (λ has. absurd (true≢false (sym has ∙ ap is_some none)))
        (tended-later before served later d (tended d one near));
    some = r.some d;
  };
}
