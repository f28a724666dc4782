use Rattle.std.proofs.Common.{ℕ, ◌<◌}
use Rattle.sr_delta.specs.Changed.{change_at}
use Rattle.sr_delta.specs.Pairs.{IsPairedIfAt}
use Rattle.sr_delta.proofs.near.same_pairs.Given as goal

abbrev pub invariant-loop-n : goal.invariant-loop-n
invariant-loop-n l = (k : ℕ) → k < l.n → IsPairedIfAt l.old.graph l.new.graph (change_at l.links k) l.v.0
