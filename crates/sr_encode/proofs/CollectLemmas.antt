-- How the outcomes of a search are collected, and what they list.
use Rattle.std.proofs.Common.{◌≡◌, ◌≢◌, ℕ, ◌+◌, ◌<◌, ◌≤◌, ⊎_elim, Bool, List, [], ◌∷◌, ◌++◌, length, set, slice_index, slice_range, refl, arith, ap, sym, ◌∙◌, subst, Option, Some, None}
use Rattle.std.specs.Prelude.{slice_index_or, All}
use Rattle.std.proofs.lemmas.Bool.{cases_eq, cases_lt}
use Rattle.std.proofs.lemmas.List.{append-nil, length-append, length-set, get_or-set_same, get_or-set_other, get_or_push, get_or_append_left}
use Rattle.std.proofs.lemmas.List.Elements.{All-push, All-weaker}
use Rattle.sr_model.specs.declared.link.TheConstants.{FAR}
use Rattle.sr_model.specs.declared.link.LinkNo.{LinkNo}
use Rattle.sr_model.specs.declared.repair.Segment.{Segment}
use Rattle.sr_model.specs.Label.{Net}
use Rattle.sr_model.specs.Walk.{IsDistance, IsCell}
use Rattle.sr_model.specs.Repair.{Path, IsLeast}
use Rattle.sr_laws.specs.Listed.{IsListed}
use Rattle.sr_encode.specs.declared.collected.Collected.{Collected}
use Rattle.sr_encode.specs.declared.kept.Outcome.{Outcome}
use Rattle.sr_encode.specs.declared.kept.Outcome.TheVariants.{Least, NoPath, NoList}
use Rattle.sr_encode.specs.declared.kept.TheConstants.{NO_PATH, NO_LIST}
use Rattle.sr_encode.specs.declared.waypoint.Waypoint.{Waypoint}
use Rattle.sr_encode.specs.Collected.{most_segments, IsOutcomeOf, IsOutcomeFor, IsCollected, Gains}
use Rattle.sr_encode.specs.Kept.{outcome_at, answer_from, HasSegments, IsListOutcome}
use Rattle.sr_encode.specs.Serve.{IsResolved}
use Rattle.sr_encode.specs.Waypoints.{path_to}
use Rattle.sr_encode.proofs.AnswerLemmas.{range-kept, within-more}

-- the outcome of a waypoint stays so where segments come behind the others
pub outcome-stays : (g after : Collected) (more : List Segment) (k : ℕ) (o : Outcome) → after.queue.now ≡ g.queue.now → after.start ≡ g.start → after.segments.items ≡ g.segments.items ++ more → HasSegments g.segments.items o → IsOutcomeOf g k o → IsOutcomeOf after k o
outcome-stays g after more k NoPath same start segments within is = is
outcome-stays g after more k NoList same start segments within is = is
outcome-stays g after more k (Least place begin end) same start segments within is =
    let range : slice_range after.segments.items begin end ≡ slice_range g.segments.items begin end = ap (λ (l : List Segment). slice_range l begin end) segments ∙ range-kept g.segments.items more begin end within.0 within.1 in
    ap (λ q. path_to q k) same ∙ is ∙ ap (λ (l : List Segment). record { first = g.start.0 + place; segments = l }) (sym range) ∙ ap (λ (i : LinkNo). record { first = i.0 + place; segments = slice_range after.segments.items begin end }) (sym start)

-- the outcome of one waypoint more
pub collected-add : (g after : Collected) (k : ℕ) (more : List Segment) (o : Outcome) → IsCollected g → after.queue.now ≡ g.queue.now → after.start ≡ g.start → after.segments.items ≡ g.segments.items ++ more → length more ≤ most_segments → after.outcomes.items ≡ g.outcomes.items ++ o ∷ [] → after.known.items ≡ set g.known.items k (Some (length g.outcomes.items)) → k < length g.queue.now → HasSegments after.segments.items o → IsOutcomeOf after k o → IsCollected after
collected-add g after k more o is same start segments few outcomes known lt within here =
    let stays : (r : ℕ) → r < length g.outcomes.items → outcome_at after.outcomes.items r ≡ outcome_at g.outcomes.items r = λ r below. ap (λ os. outcome_at os r) outcomes ∙ get_or_append_left g.outcomes.items (o ∷ []) NoPath r below in
    let last : outcome_at after.outcomes.items (length g.outcomes.items) ≡ o = ap (λ os. outcome_at os (length g.outcomes.items)) outcomes ∙ get_or_push g.outcomes.items o NoPath (length g.outcomes.items) refl in
    let long : length after.outcomes.items ≡ length g.outcomes.items + 1 = ap length outcomes ∙ length-append g.outcomes.items (o ∷ []) in
    let old : All (HasSegments (g.segments.items ++ more)) g.outcomes.items = All-weaker (HasSegments g.segments.items) (HasSegments (g.segments.items ++ more)) (λ p w. within-more g.segments.items more p w) g.outcomes.items is.lists in
    record {
      parents = rw same is.parents;
      lists = rw outcomes (All-push (HasSegments after.segments.items) g.outcomes.items o (rw segments old) within);
      two = omega (arith, long, is.two);
      nopath = stays NO_PATH (omega (arith, is.two)) ∙ is.nopath;
      nolist = stays NO_LIST (omega (arith, is.two)) ∙ is.nolist;
      few = omega (arith, is.few, few, long, ap length segments, length-append g.segments.items more);
      long = ap length known ∙ length-set g.known.items k (Some (length g.outcomes.items)) ∙ is.long ∙ sym (ap length same);
      each = λ j r found. ⊎_elim
          (λ (at : j ≡ k).
          let is_some : slice_index_or after.known.items j None ≡ Some (length g.outcomes.items) = ap (λ l. slice_index_or l j None) known ∙ ap (λ i. slice_index_or (set g.known.items k (Some (length g.outcomes.items))) i None) at ∙ get_or-set_same g.known.items k (Some (length g.outcomes.items)) None (omega (arith, is.long)) in
          let same_place : r ≡ length g.outcomes.items = cc (found, is_some) in (
            omega (arith, same_place, long),
            let moved : IsOutcomeOf after k (outcome_at after.outcomes.items r) = subst (λ p. IsOutcomeOf after k p) (sym (ap (λ i. outcome_at after.outcomes.items i) same_place ∙ last)) here in
                subst (λ i. IsOutcomeOf after i (outcome_at after.outcomes.items r)) (sym at) moved,
          ))
          (λ (ne : j ≢ k).
          let before : slice_index_or g.known.items j None ≡ Some r = sym (ap (λ l. slice_index_or l j None) known ∙ get_or-set_other g.known.items k j (Some (length g.outcomes.items)) None ne) ∙ found in
          let was = is.each j r before in (
            omega (arith, was.0, long),
            subst (λ p. IsOutcomeOf after j p) (sym (stays r was.0)) (outcome-stays g after more j (outcome_at g.outcomes.items r) same start segments (is.lists r NoPath was.0) was.1),
          ))
          (cases_eq j k);
    }

-- where no waypoint has an outcome yet, no outcome is a list
pub none-collected : (g : Collected) (r : ℕ) → IsCollected g → length g.outcomes.items ≡ 2 → r < length g.outcomes.items → IsListOutcome (outcome_at g.outcomes.items r) → ⊥
none-collected g r is two lt list =
    ⊎_elim
    (λ (zero : r ≡ NO_PATH). subst (λ (o : Outcome). IsListOutcome o) (ap (outcome_at g.outcomes.items) zero ∙ is.nopath) list)
    (λ (ne : r ≢ NO_PATH).
    let one : r ≡ NO_LIST = omega (arith, two, lt, ne) in
    subst (λ (o : Outcome). IsListOutcome o) (ap (outcome_at g.outcomes.items) one ∙ is.nolist) list)
    (cases_eq r NO_PATH)

-- an outcome that is collected already is gained by nothing more
pub gains-nothing : (g : Collected) (r : ℕ) → IsCollected g → r < length g.outcomes.items → Gains g g r
gains-nothing g r is lt = record {
  collected = is;
  queue = refl;
  start = refl;
  more = [];
  segments = sym (append-nil g.segments.items);
  added = [];
  outcomes = sym (append-nil g.outcomes.items);
  few = omega arith;
  last = λ more. absurd (omega (arith, more));
  within = lt;
}

-- what is listed for a destination that the waypoint at place k serves
served-listed : (g : Collected) (n : Net) (x : List Bool) (s d k : ℕ) (o : Outcome) (cost : ℕ) → IsOutcomeOf g k o → IsLeast n x s d (path_to g.queue.now k) → IsDistance n.graph x s d cost → IsListed n x s d (answer_from g.start.0 g.segments.items o cost)
served-listed g n x s d k NoPath cost is least far = absurd is
served-listed g n x s d k NoList cost is least far = absurd is
served-listed g n x s d k (Least place begin end) cost is least far = (subst (λ (p : Path). IsLeast n x s d p) is least, far)

-- what a search finds to be listed for a destination
found-listed : (g : Collected) (n : Net) (x : List Bool) (s d : ℕ) (cells : List ℕ) (place : Option ℕ) (r cost : ℕ) → IsResolved (record { net = n; failed = x; source = s; post = cells }) g.queue.now d place → IsCell n.graph x s d (slice_index cells d) → IsOutcomeFor g (slice_index cells d) place r → (slice_index cells d < FAR → cost ≡ slice_index cells d) → IsListed n x s d (answer_from g.start.0 g.segments.items (outcome_at g.outcomes.items r) cost)
found-listed g n x s d cells None r cost found cell is same =
    ⊎_elim
    (λ (near : slice_index cells d < FAR).
    let way = cell.near near in
    subst (λ (o : Outcome). IsListed n x s d (answer_from g.start.0 g.segments.items o cost)) (sym (is.1 near)) ((way.reached.0, way.reached.1), found.none refl near))
    (λ (far : FAR ≤ slice_index cells d).
    subst (λ (o : Outcome). IsListed n x s d (answer_from g.start.0 g.segments.items o cost)) (sym (is.0 far)) (cell.far far))
    (cases_lt (slice_index cells d) FAR)
found-listed g n x s d cells (Some k) r cost found cell is same =
    let least : IsLeast n x s d (path_to g.queue.now k) = (found.some k refl).1 in
    let far : IsDistance n.graph x s d cost = ⊎_elim
    (λ (near : slice_index cells d < FAR). subst (λ c. IsDistance n.graph x s d c) (sym (same near)) (cell.near near))
    (λ (past : FAR ≤ slice_index cells d). absurd (cell.far past least.sound.fits.reached.0 least.sound.fits.reached.1))
    (cases_lt (slice_index cells d) FAR) in
    served-listed g n x s d k (outcome_at g.outcomes.items r) cost is least far

-- the same for the queue that it was collected of
pub listed-found : (n : Net) (s : ℕ) (queue : List Waypoint) (g : Collected) (x : List Bool) (d : ℕ) (cells : List ℕ) (place : Option ℕ) (r cost : ℕ) → g.queue.now ≡ queue → IsResolved (record { net = n; failed = x; source = s; post = cells }) queue d place → IsCell n.graph x s d (slice_index cells d) → IsOutcomeFor g (slice_index cells d) place r → (slice_index cells d < FAR → cost ≡ slice_index cells d) → IsListed n x s d (answer_from g.start.0 g.segments.items (outcome_at g.outcomes.items r) cost)
listed-found n s queue g x d cells place r cost waypoints found cell is same =
    let there : IsResolved (record { net = n; failed = x; source = s; post = cells }) g.queue.now d place = rw waypoints found in
    found-listed g n x s d cells place r cost there cell is same
