use Rattle.std.proofs.Common.{◌≡◌, ◌++◌}
use Rattle.sr_repair.specs.Answers.{in_slots}
use Rattle.sr_repair.proofs.passes.in_slots.Given as goal

-- what is given so far, and what is to come, is that of all
abbrev pub invariant-loop-one : goal.invariant-loop-one
invariant-loop-one l = l.passed.items ++ in_slots l.one-iterator.rest.items ≡ in_slots l.fn.all.items
