use Rattle.std.proofs.Common.{◌≡◌}
use Rattle.sr_domain.specs.Nodes.{srgb_of}
use Rattle.sr_domain.proofs.NodesLemmas.{plain_ranges}
use Rattle.sr_domain.proofs.nodes.srgb_of.Given as goal

abbrev pub invariant-loop-id : goal.invariant-loop-id
invariant-loop-id l = plain_ranges l._id-iterator ≡ srgb_of l.facts l.fn.node
