use Rattle.sr_account.specs.Steps.{part_items}
use Rattle.sr_account.proofs.ToldLemmas.{IsRestOf}
use Rattle.sr_account.proofs.asides.add_parts.Given as goal

abbrev pub invariant-loop-at : goal.invariant-loop-at
invariant-loop-at l = IsRestOf l.facts (part_items l.id) l.at l.parts l.fn.out.items l.out.items
