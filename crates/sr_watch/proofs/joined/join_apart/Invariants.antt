use Rattle.std.proofs.Common.{◌≡◌, ◌+◌}
use Rattle.sr_watch.specs.Rounds.{inspection_by}
use Rattle.sr_watch.specs.Turns.{ApartSoFar}
use Rattle.sr_watch.proofs.joined.join_apart.Given as goal

abbrev pub invariant-loop : goal.invariant-loop
invariant-loop g l = record {
  left : l.counter + l.left.rest.len ≡ l.count;
  done : ApartSoFar (inspection_by g.V.Numbered.number_of g.I.Inspect.means) l.fn.apart.items l.left.rest.items l.whole l.all.items;
}
