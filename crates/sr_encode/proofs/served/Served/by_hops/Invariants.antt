use Rattle.sr_encode.specs.Serve.{AreOffered, AreTended}
use Rattle.sr_encode.proofs.served.Served.by_hops.Given as goal

abbrev pub invariant-loop-kept : goal.invariant-loop-kept
invariant-loop-kept l = record {
  offered : AreOffered l.scene l.queue 0 l.served;
  tended : AreTended l.scene l.fn.wanted l.served;
}
