use Rattle.std.proofs.Common.{◌≡◌, drop}
use Rattle.sr_domain.specs.Nodes.{imposition_in}
use Rattle.sr_domain.proofs.DepthLemmas.{plain_depths}
use Rattle.sr_domain.proofs.nodes.imposition_in.Given as goal

abbrev pub invariant-loop-at : goal.invariant-loop-at
invariant-loop-at l = plain_depths (drop l.at l.parts) ≡ imposition_in l.parts
