use Rattle.sr_model.specs.Graph.{Graph}
use Rattle.sr_spf.specs.Trees.{AreTrees}
use Rattle.sr_delta.specs.Moved.{AreMoved}
use Rattle.sr_delta.proofs.moved.moved_distances.Given as goal

abbrev pub invariant-loop-u : goal.invariant-loop-u
invariant-loop-u l = (g h : Graph) → AreTrees g l.old → AreTrees h l.new → AreMoved g h l.sets.items l.u
