use Rattle.std.proofs.Common.{◌≡◌, ℕ, ◌&&◌, nat_lt, is_some}
use Rattle.sr_lanes.specs.Bits.{is_in}
use Rattle.sr_model.specs.Rule.{node_at}
use Rattle.sr_labels.proofs.net.indexed.Given as goal

abbrev pub invariant-loop-v : goal.invariant-loop-v
invariant-loop-v l = (i : ℕ) → is_in l.set i ≡ (nat_lt i l.v && is_some (node_at l.nodes i).index)
