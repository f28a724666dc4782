-- the labels so far stand behind
use Rattle.std.proofs.Common.{◌≡◌, ◌++◌, Bor, ℕ}
use Rattle.std.specs.List.{flat_map}
use Rattle.sr_print.specs.Repairs.{label_word}
use Rattle.sr_print.proofs.repair.put_each_label.Given as goal

abbrev pub invariant-loop-label : goal.invariant-loop-label
invariant-loop-label l = l.out.items ≡ l.fn.out.items ++ flat_map (λ (label : Bor ℕ). label_word label.now) l.yielded
