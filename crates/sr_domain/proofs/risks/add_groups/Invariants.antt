use Rattle.std.proofs.Common.{◌≡◌, ◌++◌, take, map}
use Rattle.sr_domain.proofs.risks.add_groups.Given as goal

abbrev pub invariant-loop-group : goal.invariant-loop-group
invariant-loop-group l = l.out.items ≡ l.initial.out.items ++ map (λ g. record { name = l.name; group = g }) (take l.group-index l.groups)
