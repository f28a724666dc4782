use Rattle.std.proofs.Common.{◌+◌, ◌*◌}
use Rattle.sr_threads.proofs.taking.+threads.Given as goal

abbrev pub decreases-do_by : goal.decreases-do_by
decreases-do_by g l = 2 * l.threads

abbrev pub decreases-others : goal.decreases-others
decreases-others g l = 2 * l.fewer + 1
