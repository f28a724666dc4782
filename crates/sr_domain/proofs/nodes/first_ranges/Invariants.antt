use Rattle.std.proofs.Common.{◌≡◌, drop}
use Rattle.sr_domain.specs.Nodes.{first_ranges}
use Rattle.sr_domain.proofs.nodes.first_ranges.Given as goal

abbrev pub invariant-loop-at : goal.invariant-loop-at
invariant-loop-at l = first_ranges (drop l.at l.parts) ≡ first_ranges l.parts
