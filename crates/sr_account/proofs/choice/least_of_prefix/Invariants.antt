use Rattle.std.proofs.Common.{◌≡◌, drop}
use Rattle.sr_account.specs.Steps.{at_part, each_from, least_offer, prefix_item}
use Rattle.sr_account.proofs.choice.least_of_prefix.Given as goal

abbrev pub invariant-loop-k : goal.invariant-loop-k
invariant-loop-k l =
    least_offer l.found (each_from (prefix_item (at_part l.id l.at) l.prefix) l.k (drop l.k l.sid-items))
    ≡ least_offer l.fn.first (each_from (prefix_item (at_part l.id l.at) l.prefix) 0 l.sid-items)
