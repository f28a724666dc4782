use Rattle.std.proofs.Common.{◌≡◌, ◌+◌, ◌≤◌, vec_len, vec_capacity}
use Rattle.sr_watch.specs.Rounds.{inspection_by}
use Rattle.sr_watch.specs.Turns.{BackSoFar}
use Rattle.sr_watch.proofs.joined.join_seated.Given as goal

abbrev pub invariant-loop : goal.invariant-loop
invariant-loop g l = record {
  left : l.counter + l.left.rest.len ≡ l.count;
  room : vec_len l.back + l.left.rest.len ≤ vec_capacity l.back;
  done : BackSoFar (inspection_by g.V.Numbered.number_of g.I.Inspect.means) l.fn.seated.items l.left.rest.items l.back.items l.whole l.all.items;
}
