use Rattle.sr_cert.specs.Taken.{IsColumn}
use Rattle.sr_cert.proofs.taken.column_to.Given as goal

abbrev pub invariant-loop-from : goal.invariant-loop-from
invariant-loop-from l = IsColumn l.trees l.node.0 l.from l.cells.items
