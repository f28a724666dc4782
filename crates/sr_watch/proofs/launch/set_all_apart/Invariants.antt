use Rattle.std.proofs.Common.{◌≡◌, ◌+◌, ◌≤◌, ◌^◌, All, vec_len, vec_capacity}
use Rattle.std.specs.Arc.{arc_value}
use Rattle.sr_watch.specs.Starts.{ApartFrom, next_task}
use Rattle.sr_watch.proofs.launch.set_all_apart.Given as goal

abbrev pub invariant-loop-outlook : goal.invariant-loop-outlook
invariant-loop-outlook g l = record {
  room : vec_len l.apart + l.outlook-iterator.rest.len ≤ vec_capacity l.apart;
  number : l.task.watcher ≡ l.fn.before.watcher + vec_len l.apart;
  few : l.task.first + l.task.rounds ≤ 2 ^ 32;
  task : l.task ≡ record l.fn.before { watcher = l.task.watcher };
  all : vec_len l.apart + l.outlook-iterator.rest.len ≡ vec_len l.fn.outlooks;
  same : All (λ o. arc_value o.version ≡ arc_value l.version) l.outlook-iterator.rest.items;
  done : ApartFrom (next_task l.fn.before) (arc_value l.version) l.apart.items;
}
