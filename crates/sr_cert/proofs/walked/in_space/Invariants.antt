use Rattle.std.proofs.Common.{ℕ, ◌<◌, []}
use Rattle.sr_model.specs.Walk.{OnShortest}
use Rattle.sr_graph.specs.Members.{number_at}
use Rattle.sr_cert.proofs.walked.in_space.Given as goal

abbrev pub invariant-loop-link : goal.invariant-loop-link
invariant-loop-link l = (i : ℕ) → i < l.link-index → OnShortest l.graph [] l.u.0 l.v.0 (number_at l.link-items i) → ⊥
