use Rattle.std.proofs.Common.{◌≡◌, ◌↔◌, ℕ, IsTrue, length, arith, ap}
use Rattle.std.specs.Prelude.{◌&&◌, not}
use Rattle.sr_model.specs.Graph.{node_count}
use Rattle.sr_model.specs.Label.{Net}
use Rattle.sr_lanes.specs.Bits.{is_in}
use Rattle.sr_delta.specs.Idle.{AreIdleOrFailed}
use Rattle.sr_delta.specs.Cases.{Computed, IsComputed}
use Rattle.sr_delta.proofs.CaseLemmas.{cells-long}
use Rattle.sr_delta.proofs.SteadyLemmas.{none-from_segments, segments-from_none}
use Rattle.sr_delta.proofs.steady.is_steady_here.Goals as goal

pub are_idle_or_failed-requires-clause-within : goal.are_idle_or_failed-requires-clause-within
are_idle_or_failed-requires-clause-within c = λ k lt.
    let ends = c.links.ensures.within k lt in
    let long : length c.args.old.now.cells ≡ node_count c.args.old.now.net.graph = cells-long c.args.old.now c.case.ensures.computed in
    let there : length c.cells.result.now ≡ length c.args.old.now.cells = ap length c.cells.ensures.cells in
    (omega (arith, ends.0, long, there, c.requires.nodes), omega (arith, ends.1, long, there, c.requires.nodes))

pub returns-then-not-is_empty : goal.returns-then-not-is_empty
returns-then-not-is_empty c = λ m changes same stay are.
    let old : Computed = c.args.old.now in
    let minus : (v : ℕ) → is_in c.and_not.result v ≡ (is_in old.walks v && not (is_in c.args.changes.now.alike.segments v)) = rw (c.walks.ensures.walks, c.segments_alike.ensures) at c.and_not.ensures in (
      λ is. absurd (cc),
      λ here.
          let none = c.is_empty.ensures.1 (none-from_segments old m c.args.changes.now.alike.segments c.and_not.result c.walks.ensures.computed (changes.alike same).segments minus here.segments) in
          let not = c.if-not-is_empty.true in
          cc,
    )

pub returns-then-not-are_steps_kept : goal.returns-then-not-are_steps_kept
returns-then-not-are_steps_kept c = λ m changes same stay are. (
  λ is. absurd (cc),
  λ here.
      let kept = (c.are_steps_kept.ensures m stay are).1 here.steps in
      let not = c.if-not-are_steps_kept.true in
      cc,
)

pub returns : goal.returns
returns c = λ m changes same stay are.
    let old : Computed = c.args.old.now in
    let n : Net = old.net in
    let all : IsComputed old = c.case.ensures.computed in
    let idle : IsTrue c.are_idle_or_failed.result ↔ AreIdleOrFailed n.graph old.case old.cells c.args.changes.now.links =
    rw (c.graph.ensures.graph, c.case.ensures.case, c.cells.ensures.cells, c.links.ensures.links) at c.are_idle_or_failed.ensures in
    let minus : (v : ℕ) → is_in c.and_not.result v ≡ (is_in old.walks v && not (is_in c.args.changes.now.alike.segments v)) = rw (c.walks.ensures.walks, c.segments_alike.ensures) at c.and_not.ensures in (
      λ yes'. record {
        idle = idle.0 yes';
        segments = segments-from_none old m c.args.changes.now.alike.segments c.and_not.result all (changes.alike same).segments minus (c.is_empty.ensures.0 (let not = c.if-not-is_empty.false in cc));
        steps = (c.are_steps_kept.ensures m stay are).0 (let not = c.if-not-are_steps_kept.false in cc);
      },
      λ here. idle.1 here.idle,
    )
