use Rattle.std.proofs.Common.{◌≡◌, None}
use Rattle.sr_account.specs.Steps.{items_of_entries, least_offer, own_items}
use Rattle.sr_account.proofs.choice.least_own.Given as goal

abbrev pub invariant-loop-id : goal.invariant-loop-id
invariant-loop-id l = least_offer l.found (items_of_entries l.id-iterator) ≡ least_offer None (own_items l.facts l.fn.node)
