use Rattle.sr_labels.proofs.Clashes.{ArePassed}
use Rattle.sr_labels.proofs.adjacencies.first_in_order.Given as goal

abbrev pub invariant-loop-place : goal.invariant-loop-place
invariant-loop-place l = ArePassed l.nodes l.list l.place
