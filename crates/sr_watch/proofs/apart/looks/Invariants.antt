use Rattle.std.proofs.Common.{◌≡◌, length}
use Rattle.std.specs.Arc.{arc_value}
use Rattle.sr_watch.specs.Rounds.{Repeats, inspection_by}
use Rattle.sr_watch.proofs.apart.looks.Given as goal

abbrev pub invariant-loop-past : goal.invariant-loop-past
invariant-loop-past g l = record {
  all : Repeats (inspection_by g.V.Numbered.number_of g.I.Inspect.means) l.task l.task.first (arc_value l.version) l.made.items;
  count : length l.made.items ≡ l.past;
}
