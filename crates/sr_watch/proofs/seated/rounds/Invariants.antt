use Rattle.std.proofs.Common.{◌≡◌, ◌+◌, length}
use Rattle.sr_store.specs.Counts.{counted}
use Rattle.sr_watch.specs.Rounds.{Chain, inspection_by}
use Rattle.sr_watch.specs.Made.{Kept}
use Rattle.sr_watch.proofs.seated.rounds.Given as goal

abbrev pub invariant-loop-past : goal.invariant-loop-past
invariant-loop-past g l = record {
  kept : Kept l.fn.reader l.reader;
  chain : Chain (inspection_by g.V.Numbered.number_of g.I.Inspect.means) l.task l.task.first l.fn.reader.list l.reader.list l.made.items;
  count : length l.made.items ≡ l.past;
  turns : l.reader.turns ≡ counted (l.fn.reader.turns + l.past);
}
