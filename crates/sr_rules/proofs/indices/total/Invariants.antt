use Rattle.std.proofs.Common.{◌≡◌, ◌+◌, ◌-◌, ◌^◌, ◌≤◌, drop}
use Rattle.std.specs.Prelude.{min}
use Rattle.sr_model.specs.Label.{sizes}
use Rattle.sr_rules.proofs.indices.total.Given as goal

abbrev pub invariant-loop-range : goal.invariant-loop-range
invariant-loop-range l = record {
  fits : l.total ≤ 2 ^ 64 - 1;
  sum : min (l.total + sizes (drop l.range-index l.ranges)) (2 ^ 64 - 1) ≡ min (sizes l.ranges) (2 ^ 64 - 1);
}
