use Rattle.std.proofs.Common.{◌≡◌}
use Rattle.sr_account.specs.Steps.{first_saying, items_of_entries, own_items}
use Rattle.sr_account.proofs.choice.first_own.Given as goal

abbrev pub invariant-loop-id : goal.invariant-loop-id
invariant-loop-id l = first_saying l.fn.saying (items_of_entries l.id-iterator) ≡ first_saying l.fn.saying (own_items l.facts l.fn.node)
