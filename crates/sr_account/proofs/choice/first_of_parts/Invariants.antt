use Rattle.std.proofs.Common.{◌≡◌, drop}
use Rattle.sr_account.specs.Steps.{each_from, first_saying, part_items}
use Rattle.sr_account.proofs.choice.first_of_parts.Given as goal

abbrev pub invariant-loop-at : goal.invariant-loop-at
invariant-loop-at l =
    first_saying l.saying (each_from (part_items l.id) l.at (drop l.at l.parts))
    ≡ first_saying l.saying (each_from (part_items l.id) 0 l.parts)
