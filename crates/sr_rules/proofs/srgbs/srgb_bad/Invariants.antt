use Rattle.sr_domain.specs.Rules.{HasBadSrgb}
use Rattle.sr_domain.proofs.LeastLemmas.{NoneBelow}
use Rattle.sr_rules.proofs.srgbs.srgb_bad.Given as goal

abbrev pub invariant-loop-node : goal.invariant-loop-node
invariant-loop-node l = NoneBelow l.nodes (HasBadSrgb l.facts) l.node-index
