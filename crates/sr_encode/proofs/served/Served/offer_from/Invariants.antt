use Rattle.std.proofs.Common.{◌≤◌, length}
use Rattle.sr_encode.specs.Serve.{AreOffered, IsLater}
use Rattle.sr_encode.proofs.served.Served.offer_from.Given as goal

abbrev pub invariant-loop-at : goal.invariant-loop-at
invariant-loop-at l = AreOffered l.scene l.queue l.at l.self × IsLater l.fn.self l.self × (l.at ≤ length l.queue)
