use Rattle.std.proofs.Common.{◌≡◌, ◌+◌, [], length, vec_len, refl, sym, ap, arith}
use Rattle.std.proofs.lemmas.List.{nil_from_length}
use Rattle.sr_watch.specs.Starts.{next_task}
use Rattle.sr_watch.proofs.Watchers.{task-next, one-seated, all-seated}
use Rattle.sr_watch.proofs.launch.seat_all.Goals as goal

pub loop-reader-init : goal.loop-reader-init
loop-reader-init g c =
    let gives = c.into_iter-reader-iterator.ensures.into_iter_gives in
    let room = c.args.room in
    let empty : vec_len room ≡ 0 = omega (arith, room.ok, ap length c.requires.room.0) in
    record {
      room = omega (arith, empty, gives.1, c.requires.room.1);
      gates = omega (arith, gives.1, c.requires.gates);
      number = omega (arith, empty);
      few = c.requires.few.1;
      task = refl;
      all = omega (arith, empty, gives.1);
      done = record { past = []; is = sym gives.0; seated = rw c.requires.room.0 tt };
    }

pub loop-reader-preserved : goal.loop-reader-preserved
loop-reader-preserved g c =
    let was = c.loop-reader.invariant in
    let steps = c.in-Some.ensures.steps in
    let done = rw steps.0 at was.done in
    let before = c.args.before in
    let task = c.loop-reader.task in
    let seated = c.loop-reader.seated in
    let here : task.watcher + 1 ≡ (before.watcher + 1) + length seated.items = omega (arith, was.number, seated.ok) in
    record {
      room = omega (arith, was.room, steps.1, c.push_reserved.ensures.len, c.push_reserved.ensures.capacity);
      gates = omega (arith, was.gates, steps.1, c.in-Some-pop.ensures.cases);
      number = omega (arith, was.number, c.push_reserved.ensures.len);
      few = was.few;
      task = ap next_task was.task;
      all = omega (arith, was.all, steps.1, c.push_reserved.ensures.len);
      done = rw c.push_reserved.ensures.items (one-seated (next_task before) c.args.readers.items c.next.new.self.rest.items seated.items c.in-Some.reader c.seat_one-one.result (next_task task) (task-next task before _ was.task here) done c.seat_one-one.ensures);
    }

pub returns : goal.returns
returns g c =
    let rest = c.loop-reader.reader-iterator.rest in
    let nil = nil_from_length rest.items (omega (arith, rest.ok, c.in-None.ensures.steps.0)) in
    let was = c.loop-reader.invariant in
    (all-seated (next_task c.args.before) c.args.readers.items c.loop-reader.seated.items (rw nil at was.done), omega (arith, was.all, rest.ok, c.in-None.ensures.steps.0))
