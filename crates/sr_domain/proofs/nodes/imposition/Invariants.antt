use Rattle.std.proofs.Common.{◌≡◌}
use Rattle.sr_domain.specs.Nodes.{imposition_of}
use Rattle.sr_domain.proofs.DepthLemmas.{plain_imposition}
use Rattle.sr_domain.proofs.nodes.imposition.Given as goal

abbrev pub invariant-loop-id : goal.invariant-loop-id
invariant-loop-id l = plain_imposition l._id-iterator ≡ imposition_of l.facts l.fn.node
