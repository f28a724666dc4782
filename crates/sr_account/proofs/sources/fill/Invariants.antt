use Rattle.sr_account.specs.Filling.{IsWalkedTo}
use Rattle.sr_account.proofs.sources.fill.Given as goal

abbrev pub invariant-loop-id : goal.invariant-loop-id
invariant-loop-id l = IsWalkedTo l.facts l.net l.id-iterator l.sources
