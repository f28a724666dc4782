use Rattle.std.proofs.Common.{◌≡◌, All, vec_len}
use Rattle.std.specs.Arc.{arc_value}
use Rattle.sr_watch.proofs.stock.outlooks.Given as goal

abbrev pub invariant-loop : goal.invariant-loop
invariant-loop g l = record {
  len : vec_len l.made ≡ l.counter;
  all : All (λ o. arc_value o.version ≡ arc_value l.version) l.made.items;
}
