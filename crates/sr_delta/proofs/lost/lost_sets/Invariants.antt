use Rattle.sr_delta.specs.Lost.{AreLostSetsBelow}
use Rattle.sr_delta.proofs.lost.lost_sets.Given as goal

abbrev pub invariant-loop-u : goal.invariant-loop-u
invariant-loop-u l = AreLostSetsBelow l.graph l.old.rows l.links l.kept l.u l.sets.items
