use Rattle.sr_delta.specs.Lost.{AreLostToFirst}
use Rattle.sr_delta.proofs.lost.lost_from.Given as goal

abbrev pub invariant-loop-n : goal.invariant-loop-n
invariant-loop-n l = AreLostToFirst l.graph l.old.rows l.links l.n l.fn.u.0 l.lost
