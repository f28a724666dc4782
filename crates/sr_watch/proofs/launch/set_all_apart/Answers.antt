use Rattle.std.proofs.Common.{◌≡◌, ◌+◌, length, vec_len, refl, ap, arith}
use Rattle.std.specs.Arc.{arc_value}
use Rattle.std.proofs.lemmas.List.Elements.{All-tail}
use Rattle.sr_watch.specs.Starts.{next_task}
use Rattle.sr_watch.proofs.Watchers.{task-next, apart-more}
use Rattle.sr_watch.proofs.launch.set_all_apart.Goals as goal

pub loop-outlook-init : goal.loop-outlook-init
loop-outlook-init g c =
    let gives = c.into_iter-outlook-iterator.ensures.into_iter_gives in
    let room = c.args.room in
    let empty : vec_len room ≡ 0 = omega (arith, room.ok, ap length c.requires.room.0) in
    record {
      room = omega (arith, empty, gives.1, c.requires.room.1);
      number = omega (arith, empty);
      few = c.requires.few.1;
      task = refl;
      all = omega (arith, empty, gives.1);
      same = rw gives.0 c.requires.same;
      done = rw c.requires.room.0 tt;
    }

pub loop-outlook-preserved : goal.loop-outlook-preserved
loop-outlook-preserved g c =
    let was = c.loop-outlook.invariant in
    let steps = c.in-Some.ensures.steps in
    let same = rw steps.0 at was.same in
    let version = same 0 c.in-Some.outlook (omega arith) in
    let before = c.args.before in
    let task = c.loop-outlook.task in
    let apart = c.loop-outlook.apart in
    let v = arc_value c.args.version.now in
    let here : task.watcher + 1 ≡ (before.watcher + 1) + length apart.items = omega (arith, was.number, apart.ok) in
    record {
      room = omega (arith, was.room, steps.1, c.push_reserved.ensures.len, c.push_reserved.ensures.capacity);
      number = omega (arith, was.number, c.push_reserved.ensures.len);
      few = was.few;
      task = ap next_task was.task;
      all = omega (arith, was.all, steps.1, c.push_reserved.ensures.len);
      same = All-tail (λ o. arc_value o.version ≡ v) c.in-Some.outlook c.next.new.self.rest.items same;
      done = rw c.push_reserved.ensures.items (apart-more (next_task before) v apart.items c.set_one_apart-one.result (next_task task) (task-next task before _ was.task here) was.done (rw version at c.set_one_apart-one.ensures));
    }
