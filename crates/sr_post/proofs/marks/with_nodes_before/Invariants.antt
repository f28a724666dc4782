use Rattle.std.proofs.Common.{ℕ}
use Rattle.std.specs.Prelude.{IsTrue, ◌↔◌}
use Rattle.sr_lanes.specs.Bits.{is_in}
use Rattle.sr_post.proofs.MarkLemmas.{IsFoundBy}
use Rattle.sr_post.proofs.marks.with_nodes_before.Given as goal

abbrev pub invariant-loop-i : goal.invariant-loop-i
invariant-loop-i l = (u : ℕ) → IsTrue (is_in l.set u) ↔ IsFoundBy l.graph l.source.0 l.cells l.links l.fn.found l.i u
