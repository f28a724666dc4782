use Rattle.sr_rules.specs.Broken.{AreBrokenBelow}
use Rattle.sr_rules.proofs.rules.broken_rules.Given as goal

abbrev pub invariant-loop-before : goal.invariant-loop-before
invariant-loop-before l = AreBrokenBelow l.facts l.before l.rules.items
