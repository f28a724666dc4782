use Rattle.std.proofs.Common.{◌≡◌, ◌≤◌, ◌<◌, ◌*◌, ◌++◌, ℕ, List, length, ap, sym, ◌∙◌, subst, slice_index, arith, None, true}
use Rattle.std.proofs.lemmas.List.{length-map, get_or_default}
use Rattle.sr_lanes.specs.Bits.{is_in}
use Rattle.sr_lanes.proofs.SizeLemmas.{size-less}
use Rattle.sr_model.specs.declared.link.LinkNo.{LinkNo}
use Rattle.sr_model.specs.declared.repair.Segment.{Segment}
use Rattle.sr_model.specs.Graph.{node_count}
use Rattle.sr_laws.specs.Listed.{IsListed}
use Rattle.sr_walks.proofs.Distinct.{distance-small}
use Rattle.sr_encode.specs.declared.kept.Outcome.{Outcome}
use Rattle.sr_encode.specs.Kept.{answer_from, entry_from, outcome_at}
use Rattle.sr_encode.specs.Collected.{StandsIn}
use Rattle.sr_encode.specs.Serve.{place_at, IsResolved}
use Rattle.sr_encode.specs.Waypoints.{path_to, waypoint_at}
use Rattle.sr_graph.specs.Ranges.{HoldsLinks}
use Rattle.sr_model.specs.Repair.{IsLeast}
use Rattle.sr_encode.proofs.AnswerLemmas.{listed-start, listed-over, kept-push}
use Rattle.sr_encode.proofs.CollectLemmas.{listed-found, none-collected}
use Rattle.sr_encode.proofs.repairs.kept_lists.Goals.{In-Some, After-index}
use Rattle.sr_encode.proofs.repairs.kept_lists.Goals as goal

pub left-init : goal.left-init
left-init c = record {
  queue = c.in_ok-collected.ensures.queue ∙ c.deref.ensures.value;
  start = (
    c.links_from.result.end,
    let holds : HoldsLinks c.args.net.now.graph c.args.source.0 c.links_from.result.first c.links_from.result.end = rw c.graph.ensures.value at c.links_from.ensures.links in rw c.in_ok-collected.ensures.start holds,
  );
  collected = c.in_ok-collected.ensures.collected;
  listed = rw c.in_ok-kept.ensures.items (listed-start c.args.net.now c.args.failed.now c.args.source.0 c.args.wanted);
  within = record {
    lists = c.in_ok-collected.ensures.collected.lists;
    each = rw c.in_ok-kept.ensures.items (λ i d lt. absurd (omega arith));
    used = λ r lt is. absurd (none-collected c.in_ok-collected.collected r c.in_ok-collected.ensures.collected c.in_ok-collected.ensures.few lt is);
    few = omega (arith, c.in_ok-collected.ensures.few);
  };
}

pub left-smaller : goal.left-smaller
left-smaller c = size-less c.left.left c.take_first.new.self c.in-Some.node c.in-Some.ensures.first c.in-Some.ensures.left

-- a node that is left is wanted
member : (c : In-Some) → is_in c.args.wanted c.in-Some.node ≡ true
member c = c.left.invariant.listed.inside c.in-Some.node c.in-Some.ensures.first.member

-- what the search found for it
found : (c : After-index) → is_in c.args.wanted c.in-Some.node ≡ true → IsResolved (record { net = c.args.net.now; failed = c.args.failed.now; source = c.args.source.0; post = c.args.cells.now }) c.args.found.now.queue.items c.in-Some.node c.index.result.now
found c is =
    let d : ℕ = c.in-Some.node in
    let within : d < node_count c.args.net.now.graph = c.requires.wanted d is in
    let place : place_at c.args.found.now.places.items d ≡ c.index.result.now = get_or_default c.args.found.now.places.items d None c.index.result.now (omega (arith, within, c.requires.found.long)) ∙ sym c.index.ensures in
    subst (λ p. IsResolved (record { net = c.args.net.now; failed = c.args.failed.now; source = c.args.source.0; post = c.args.cells.now }) c.args.found.now.queue.items d p) place (c.requires.found.each d is)

-- a waypoint that serves it stands in the queue, and its first link is one of the source
stands : (c : In-Some) (k : ℕ) → k < length c.args.found.now.queue.items → IsLeast c.args.net.now c.args.failed.now c.args.source.0 c.in-Some.node (path_to c.args.found.now.queue.items k) → StandsIn c.left.collected k
stands c k within least =
    let behind : c.left.collected.start.0 ≤ (waypoint_at c.args.found.now.queue.items k).first.0 = (c.left.invariant.start.1.to (waypoint_at c.args.found.now.queue.items k).first.0 least.sound.within least.sound.begins).0 in (
      omega (arith, within, ap length c.left.invariant.queue),
      rw c.left.invariant.queue behind,
    )

pub outcome_for-requires-clause-waypoint : goal.outcome_for-requires-clause-waypoint
outcome_for-requires-clause-waypoint c =
    let at = goal.at.outcome_for-requires-clause-waypoint c in
    λ k is.
    let served = (found at.After-index (member at.In-Some)).some k is in
    stands at.In-Some k served.0 served.1

pub whole_cost-requires : goal.whole_cost-requires
whole_cost-requires c = λ near.
    let d : ℕ = c.in-Some.node in
    let cell = c.requires.cells.each d (c.requires.wanted d (member (goal.at.whole_cost-requires c).In-Some)) in
    let small : slice_index c.args.cells.now d ≤ 255 * 16777214 = distance-small c.args.net.now.graph c.graph.ensures.accepted.graph c.args.failed.now c.args.source.0 d _ c.requires.source (cell.near near) in
    omega (arith, small)

pub left-preserved : goal.left-preserved
left-preserved c =
    let n = c.args.net.now in
    let s = c.args.source.0 in
    let x = c.args.failed.now in
    let d : ℕ = c.in-Some.node in
    let r : ℕ = c.in_ok-outcome.outcome in
    let cost : ℕ = c.whole_cost.result in
    let I = c.left.invariant in
    let is = member (goal.at.left-preserved c).In-Some in
    let gains = c.in_ok-outcome.ensures.gains in
    let answer : IsListed n x s d (answer_from c.outcome_for.new.self.start.0 c.outcome_for.new.self.segments.items (outcome_at c.outcome_for.new.self.outcomes.items r) cost) =
    listed-found n s c.args.found.now.queue.items c.outcome_for.new.self x d c.args.cells.now c.index.result.now r cost
    (gains.queue ∙ I.queue)
    (found (goal.at.left-preserved c).After-index is)
    (c.requires.cells.each d (c.requires.wanted d is))
    c.in_ok-outcome.ensures.outcome
    c.whole_cost.ensures in
    let start : c.outcome_for.new.self.start.0 ≡ c.left.collected.start.0 = ap (λ (l : LinkNo). l.0) gains.start in
    let moved : IsListed n x s d (answer_from c.left.collected.start.0 (c.left.collected.segments.items ++ gains.more) (outcome_at (c.left.collected.outcomes.items ++ gains.added) r) cost) =
    subst (λ (l : List Segment). IsListed n x s d (answer_from c.left.collected.start.0 l (outcome_at (c.left.collected.outcomes.items ++ gains.added) r) cost)) gains.segments
    (subst (λ (l : List Outcome). IsListed n x s d (answer_from c.left.collected.start.0 c.outcome_for.new.self.segments.items (outcome_at l r) cost)) gains.outcomes
    (subst (λ i. IsListed n x s d (answer_from i c.outcome_for.new.self.segments.items (outcome_at c.outcome_for.new.self.outcomes.items r) cost)) start answer)) in
    let push = kept-push c.left.collected.start.0 n x s c.args.wanted c.left.left c.take_first.new.self c.left.collected.segments.items gains.more c.left.collected.outcomes.items gains.added c.left.kept.items
    (record { destination = record { 0 = d }; outcome = r; cost = cost })
    I.listed
    I.within
    (rw (← gains.segments, ← gains.outcomes) gains.collected.lists)
    gains.few
    gains.last
    (omega (arith, gains.within, ap length gains.outcomes))
    c.in-Some.ensures.first
    c.in-Some.ensures.left
    moved in
    record {
      queue = gains.queue ∙ I.queue;
      start = (I.start.0, subst (λ (l : LinkNo). HoldsLinks n.graph s l.0 I.start.0) (sym gains.start) I.start.1);
      collected = gains.collected;
      listed = rw (c.in_ok-push.ensures.items, gains.segments, gains.outcomes, gains.start) push.0;
      within = rw (c.in_ok-push.ensures.items, gains.segments, gains.outcomes) push.1;
    }

pub returns : goal.returns
returns c = record {
  first = c.left.collected.start.0;
  end = c.left.invariant.start.0;
  holds = c.left.invariant.start.1;
  listed = listed-over _ _ _ _ _ _ c.left.invariant.listed c.in_default.ensures.first;
  within = c.left.invariant.within;
  few = omega (arith, c.left.invariant.listed.few, length-map c.left.kept.items (entry_from c.left.collected.start.0 c.left.collected.segments.items c.left.collected.outcomes.items));
}
