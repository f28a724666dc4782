use Rattle.std.proofs.Common.{◌≡◌, ℕ, ◌<◌, ◌≤◌}
use Rattle.sr_model.specs.Label.{adj_at}
use Rattle.sr_model.specs.Stay.{HaveSameName}
use Rattle.sr_delta.proofs.alike.same_adj.Given as goal

abbrev pub invariant-loop-l : goal.invariant-loop-l
invariant-loop-l l = (j k : ℕ) → l.first ≤ j → j < l.l → HaveSameName l.old.graph l.new.graph j k → adj_at l.old j ≡ adj_at l.new k
