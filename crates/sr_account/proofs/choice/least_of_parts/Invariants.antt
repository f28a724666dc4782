use Rattle.std.proofs.Common.{◌≡◌, drop}
use Rattle.sr_account.specs.Steps.{each_from, least_offer, part_items}
use Rattle.sr_account.proofs.choice.least_of_parts.Given as goal

abbrev pub invariant-loop-at : goal.invariant-loop-at
invariant-loop-at l =
    least_offer l.found (each_from (part_items l.id) l.at (drop l.at l.parts))
    ≡ least_offer l.fn.first (each_from (part_items l.id) 0 l.parts)
