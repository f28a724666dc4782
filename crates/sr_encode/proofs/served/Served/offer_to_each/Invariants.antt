use Rattle.sr_lanes.specs.Bits.{member_count}
use Rattle.sr_encode.specs.Serve.{IsLater}
use Rattle.sr_encode.proofs.OfferLemmas.{AreTriedBut}
use Rattle.sr_encode.proofs.served.Served.offer_to_each.Given as goal

abbrev pub invariant-left : goal.invariant-left
invariant-left l = record {
  tried : AreTriedBut l.scene l.queue l.k l.left l.self;
  later : IsLater l.fn.self l.self;
}

abbrev pub decreases-left : goal.decreases-left
decreases-left l = member_count l.left
