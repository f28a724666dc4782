use Rattle.std.proofs.Common.{◌≡◌}
use Rattle.sr_domain.specs.Nodes.{lesser_sid, node_sid_of}
use Rattle.sr_domain.proofs.NodesLemmas.{plain_sid}
use Rattle.sr_domain.proofs.nodes.node_sid.Given as goal

abbrev pub invariant-loop-id : goal.invariant-loop-id
invariant-loop-id l = lesser_sid l.found (plain_sid l._id-iterator) ≡ node_sid_of l.facts l.fn.node
