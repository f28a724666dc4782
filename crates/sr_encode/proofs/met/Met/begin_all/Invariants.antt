use Rattle.std.proofs.Common.{◌≤◌}
use Rattle.sr_encode.specs.Search.{IsStarting}
use Rattle.sr_encode.proofs.met.Met.begin_all.Given as goal

abbrev pub invariant-loop-link : goal.invariant-loop-link
invariant-loop-link l = IsStarting l.scene l.self.queue.items l.self.unmet l.link × (l.link ≤ l.end)
