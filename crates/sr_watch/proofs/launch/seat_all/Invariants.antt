use Rattle.std.proofs.Common.{◌≡◌, ◌+◌, ◌≤◌, ◌^◌, vec_len, vec_capacity}
use Rattle.sr_watch.specs.Starts.{next_task}
use Rattle.sr_watch.specs.Turns.{SeatedSoFar}
use Rattle.sr_watch.proofs.launch.seat_all.Given as goal

abbrev pub invariant-loop-reader : goal.invariant-loop-reader
invariant-loop-reader g l = record {
  room : vec_len l.seated + l.reader-iterator.rest.len ≤ vec_capacity l.seated;
  gates : vec_len l.gates ≡ l.reader-iterator.rest.len;
  number : l.task.watcher ≡ l.fn.before.watcher + vec_len l.seated;
  few : l.task.first + l.task.rounds ≤ 2 ^ 32;
  task : l.task ≡ record l.fn.before { watcher = l.task.watcher };
  all : vec_len l.seated + l.reader-iterator.rest.len ≡ vec_len l.fn.readers;
  done : SeatedSoFar (next_task l.fn.before) l.fn.readers.items l.reader-iterator.rest.items l.seated.items;
}
