use Rattle.std.proofs.Common.{ℕ, ◌≡◌, ◌<◌, true, []}
use Rattle.std.specs.Prelude.{IsTrue, ◌↔◌}
use Rattle.sr_lanes.specs.Bits.{is_in}
use Rattle.sr_model.specs.Walk.{OnShortest}
use Rattle.sr_graph.specs.Members.{number_at}
use Rattle.sr_spaces.proofs.among.avoid_links.Given as goal

abbrev pub invariant-loop-link : goal.invariant-loop-link
invariant-loop-link l = (v : ℕ) → IsTrue (is_in l.left v) ↔ ((is_in l.fn.among v ≡ true) × ((i : ℕ) → i < l.link-index → OnShortest l.graph [] l.u.0 v (number_at l.link-items i) → ⊥))
