use Rattle.sr_domain.specs.Rules.{LacksSrgb}
use Rattle.sr_domain.proofs.LeastLemmas.{NoneBelow}
use Rattle.sr_rules.proofs.srgbs.no_srgb.Given as goal

abbrev pub invariant-loop-node : goal.invariant-loop-node
invariant-loop-node l = NoneBelow l.nodes (LacksSrgb l.facts) l.node-index
