-- with the counts ahead the sum is that of all, and it is small
use Rattle.std.proofs.Common.{◌≡◌, ◌+◌, ◌*◌, ◌≤◌, drop}
use Rattle.std.specs.Prelude.{sum}
use Rattle.sr_print.proofs.load.crossings.Given as goal

abbrev pub invariant-loop-count : goal.invariant-loop-count
invariant-loop-count l =
    (l.sum + sum (drop l.count-index l.counts) ≡ sum l.counts)
    × (l.sum ≤ 18446744073709551615 * l.count-index)
