use Rattle.std.proofs.Common.{◌≡◌, vec_len}
use Rattle.sr_watch.proofs.stock.copies.Given as goal

abbrev pub invariant-loop : goal.invariant-loop
invariant-loop g l = vec_len l.made ≡ l.counter
