-- the letters so far stand behind
use Rattle.std.proofs.Common.{◌≡◌, ◌++◌, take}
use Rattle.std.specs.List.{flat_map}
use Rattle.sr_print.specs.Account.{letter_of}
use Rattle.sr_print.proofs.flags.put_letters.Given as goal

abbrev pub invariant-loop-set : goal.invariant-loop-set
invariant-loop-set l = l.out.items ≡ l.fn.out.items ++ flat_map letter_of (take l.set-index l.flags)
