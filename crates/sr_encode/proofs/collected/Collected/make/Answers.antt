use Rattle.std.proofs.Common.{◌≡◌, ◌+◌, ◌-◌, List, ◌++◌, length, slice_range, refl, ap, ◌∙◌, arith}
use Rattle.sr_model.specs.declared.repair.Segment.{Segment}
use Rattle.sr_encode.proofs.AnswerLemmas.{range-behind}
use Rattle.std.proofs.lemmas.List.{length-append}
use Rattle.sr_encode.specs.Waypoints.{path_to, waypoint_at, segments_to}
use Rattle.sr_encode.proofs.QueueLemmas.{segments-long}
use Rattle.sr_encode.proofs.collected.Collected.make.Goals as goal

-- what is put behind the segments: those of the list, which are as many as the waypoint is deep
put : (c : goal.After-len) → c.extend_from_slice.new.self.items ≡ c.args.self.now.segments.items ++ segments_to c.args.self.now.queue.now (waypoint_at c.args.self.now.queue.now c.args.waypoint).depth c.args.waypoint
put c = c.in_ok-extend_from_slice.ensures.items ∙ ap (λ l. c.args.self.now.segments.items ++ l) (c.deref.ensures.value ∙ c.in_ok-read_segments.ensures)

count : (c : goal.After-len) → length c.extend_from_slice.new.self.items ≡ length c.args.self.now.segments.items + (waypoint_at c.args.self.now.queue.now c.args.waypoint).depth
count c =
    ap length (put c)
    ∙ length-append c.args.self.now.segments.items (segments_to c.args.self.now.queue.now (waypoint_at c.args.self.now.queue.now c.args.waypoint).depth c.args.waypoint)
    ∙ ap (λ k. length c.args.self.now.segments.items + k) (segments-long c.args.self.now.queue.now (waypoint_at c.args.self.now.queue.now c.args.waypoint).depth c.args.waypoint)

pub overflow_cast-result : goal.overflow_cast-result
overflow_cast-result c =
    let end : c.len.result ≡ length c.extend_from_slice.new.self.items = omega (arith, c.len.ensures, c.extend_from_slice.new.self.ok.0) in
    omega (arith, end, count c, c.requires.collected.few, c.requires.few, (c.requires.collected.parents c.args.waypoint c.requires.waypoint.0).1)

pub returns-clause-adds : goal.returns-clause-adds
returns-clause-adds c = record {
  queue = refl;
  start = refl;
  outcomes = refl;
  known = refl;
  more = segments_to c.args.self.now.queue.now (waypoint_at c.args.self.now.queue.now c.args.waypoint).depth c.args.waypoint;
  segments = put c;
  few = omega (arith, segments-long c.args.self.now.queue.now (waypoint_at c.args.self.now.queue.now c.args.waypoint).depth c.args.waypoint, (c.requires.collected.parents c.args.waypoint c.requires.waypoint.0).1);
}

pub returns-clause-outcome : goal.returns-clause-outcome
returns-clause-outcome c =
    let queue = c.args.self.now.queue.now in
    let old : List Segment = c.args.self.now.segments.items in
    let list : List Segment = segments_to queue (waypoint_at queue c.args.waypoint).depth c.args.waypoint in
    let begin : c.len-begin.result ≡ length old = omega (arith, c.len-begin.ensures, c.args.self.now.segments.ok.0) in
    let long : c.len.result ≡ length c.extend_from_slice.new.self.items = omega (arith, c.len.ensures, c.extend_from_slice.new.self.ok.0) in
    let end : c.len.result ≡ length (old ++ list) = long ∙ ap length (put c) in
    let range : slice_range c.extend_from_slice.new.self.items c.len-begin.result c.len.result ≡ list = ap (λ (l : List Segment). slice_range l c.len-begin.result c.len.result) (put c) ∙ range-behind old list c.len-begin.result c.len.result begin end in
    let first : c.args.self.now.start.0 + ((waypoint_at queue c.args.waypoint).first.0 - c.args.self.now.start.0) ≡ (waypoint_at queue c.args.waypoint).first.0 = omega (arith, c.requires.waypoint.1) in (
      let q : path_to queue c.args.waypoint ≡ record { first = c.args.self.now.start.0 + ((waypoint_at queue c.args.waypoint).first.0 - c.args.self.now.start.0); segments = slice_range c.extend_from_slice.new.self.items c.len-begin.result c.len.result } = rw (first, range) refl in q,
      (omega (arith, begin, end, length-append old list), omega (arith, long)),
    )
