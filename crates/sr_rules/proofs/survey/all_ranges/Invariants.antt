use Rattle.std.proofs.Common.{◌≡◌, map, take}
use Rattle.sr_domain.specs.Nodes.{ranges_of}
use Rattle.sr_rules.proofs.survey.all_ranges.Given as goal

abbrev pub invariant-loop-node : goal.invariant-loop-node
invariant-loop-node l = l.out.items ≡ map (ranges_of l.facts) (take l.node-index l.nodes)
