use Rattle.sr_encode.specs.Serve.{NoneEndsFrom}
use Rattle.sr_encode.proofs.served.first_end.Given as goal

abbrev pub invariant-loop-at : goal.invariant-loop-at
invariant-loop-at l = NoneEndsFrom l.scene l.queue l.d.0 l.k l.at
