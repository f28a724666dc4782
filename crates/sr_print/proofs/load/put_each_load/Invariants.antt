-- the lines of the links so far stand behind
use Rattle.std.proofs.Common.{◌≡◌, ◌++◌}
use Rattle.sr_print.specs.Loads.{load_lines}
use Rattle.sr_print.proofs.load.put_each_load.Given as goal

abbrev pub invariant-loop-link : goal.invariant-loop-link
invariant-loop-link l = l.out.items ≡ l.fn.out.items ++ load_lines l.net l.counts l.link
