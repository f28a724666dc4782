-- with the metrics of the links ahead the sum is the cost, and it is small
use Rattle.std.proofs.Common.{◌≡◌, ◌+◌, ◌*◌, ◌≤◌, drop}
use Rattle.sr_model.specs.Walk.{cost}
use Rattle.sr_fib.specs.Entries.{numbers}
use Rattle.sr_print.proofs.walk.cost.Given as goal

abbrev pub invariant-loop-link : goal.invariant-loop-link
invariant-loop-link l =
    (l.sum + cost l.graph (numbers (drop l.link-index l.links)) ≡ cost l.graph (numbers l.links))
    × (l.sum ≤ 4294967295 * l.link-index)
