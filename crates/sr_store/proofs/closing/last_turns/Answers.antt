use Rattle.std.proofs.lemmas.List.{nil_from_length}
use Rattle.std.proofs.lemmas.List.Elements.{All-tail}
use Rattle.std.proofs.Common.{length, ◌≡◌, [], ap, sym, arith}
use Rattle.sr_store.proofs.Ends.{one-more, all-ended}
use Rattle.sr_store.proofs.closing.last_turns.Goals as goal

pub loop-one-init : goal.loop-one-init
loop-one-init g c =
    let gives = c.into_iter-one-iterator.ensures.into_iter_gives in
    let none = c.requires.none in
    record {
      store = rw gives.0 c.requires.store;
      readers = omega (arith, c.requires.room.0, ap length gives.0, c.args.back.now.ok, c.args.readers.ok, ap length none.0);
      room = omega (arith, c.requires.room.1, ap length gives.0, c.args.ended.now.ok, c.args.readers.ok, ap length none.1);
      done = record { past = []; whole = sym gives.0; ends = rw none.1 tt; turned = rw (none.0, none.1) (tt, tt) };
    }

pub push_reserved-requires : goal.push_reserved-requires
push_reserved-requires g c = omega (arith, c.loop-one.invariant.room, ap length c.in-Some.ensures.steps.0)

pub loop-one-preserved : goal.loop-one-preserved
loop-one-preserved g c =
    let was = c.loop-one.invariant in
    let steps = c.in-Some.ensures.steps in
    let all = rw steps.0 at was.store in
    let done = rw steps.0 at was.done in
    let turn = c.last_turn-given.ensures in
    record {
      store = All-tail (λ r. r.list.store ≡ c.args.list.now.store) c.in-Some.one c.next.new.self.rest.items all;
      readers = omega (arith, was.readers, ap length steps.0, c.push_reserved-in-loop-one.ensures.len, c.push_reserved-in-loop-one.ensures.capacity);
      room = omega (arith, was.room, ap length steps.0, c.push_reserved.ensures.len, c.push_reserved.ensures.capacity);
      done = rw (c.push_reserved.ensures.items, c.push_reserved-in-loop-one.ensures.items) (one-more c.args.list.now c.args.readers.items c.next.new.self.rest.items c.loop-one.back.items c.loop-one.ended.items c.in-Some.one c.last_turn-given.new.self c.last_turn-given.result done turn.list turn.seat turn.mark);
    }

pub returns-clause-ended : goal.returns-clause-ended
returns-clause-ended g c =
    let rest = c.loop-one.one-iterator.rest in
    let nil = nil_from_length rest.items (omega (arith, rest.ok, c.in-None.ensures.steps.0)) in
    (all-ended c.args.list.now c.args.readers.items c.loop-one.back.items c.loop-one.ended.items (rw nil at c.loop-one.invariant.done)).0

pub returns-clause-marks : goal.returns-clause-marks
returns-clause-marks g c =
    let rest = c.loop-one.one-iterator.rest in
    let nil = nil_from_length rest.items (omega (arith, rest.ok, c.in-None.ensures.steps.0)) in
    (all-ended c.args.list.now c.args.readers.items c.loop-one.back.items c.loop-one.ended.items (rw nil at c.loop-one.invariant.done)).1
