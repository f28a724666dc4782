use Rattle.std.proofs.Common.{ℕ, ◌<◌}
use Rattle.sr_cert.specs.Settled.{heading_of, IsToldByLinks}
use Rattle.sr_cert.proofs.exact.is_exact.Given as goal

abbrev pub invariant-loop-node : goal.invariant-loop-node
invariant-loop-node l = (w : ℕ) → w < l.node → IsToldByLinks l.graph l.x (heading_of l.course) l.cells w
