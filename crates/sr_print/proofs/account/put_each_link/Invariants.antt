-- the lines of the links so far stand behind
use Rattle.std.proofs.Common.{◌≡◌, ◌++◌}
use Rattle.sr_print.specs.Account.{link_lines}
use Rattle.sr_print.proofs.account.put_each_link.Given as goal

abbrev pub invariant-loop-link : goal.invariant-loop-link
invariant-loop-link l = l.out.items ≡ l.fn.out.items ++ link_lines l.net l.sources l.link
