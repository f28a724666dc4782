-- the lines so far stand behind
use Rattle.std.proofs.Common.{◌≡◌, ◌++◌, take}
use Rattle.std.specs.List.{flat_map}
use Rattle.sr_print.specs.Account.{aside_line}
use Rattle.sr_print.proofs.aside.put_asides.Given as goal

abbrev pub invariant-loop-aside : goal.invariant-loop-aside
invariant-loop-aside l = l.out.items ≡ l.fn.out.items ++ flat_map aside_line (take l.aside-index l.asides)
