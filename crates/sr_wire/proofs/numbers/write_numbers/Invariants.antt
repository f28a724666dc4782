-- the numbers so far stand behind
use Rattle.std.proofs.Common.{◌≡◌, ◌++◌, take}
use Rattle.sr_wire.specs.Numbers.{numbers_text}
use Rattle.sr_wire.proofs.numbers.write_numbers.Given as goal

abbrev pub invariant-loop-number : goal.invariant-loop-number
invariant-loop-number l = l.out.items ≡ l.fn.out.items ++ numbers_text (take l.number-index l.numbers)
