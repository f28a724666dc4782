use Rattle.sr_account.specs.Filling.{IsFilledTo}
use Rattle.sr_account.proofs.sources.fill_from.Given as goal

abbrev pub invariant-loop-at : goal.invariant-loop-at
invariant-loop-at l = IsFilledTo l.facts l.net l.id l.at l.initial.sources l.sources
