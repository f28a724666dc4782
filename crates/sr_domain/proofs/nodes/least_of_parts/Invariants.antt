use Rattle.std.proofs.Common.{◌≡◌, drop}
use Rattle.sr_domain.specs.Nodes.{lesser_sid, least_of_parts}
use Rattle.sr_domain.proofs.nodes.least_of_parts.Given as goal

abbrev pub invariant-loop-at : goal.invariant-loop-at
invariant-loop-at l = lesser_sid l.found (least_of_parts (drop l.at l.parts)) ≡ least_of_parts l.parts
