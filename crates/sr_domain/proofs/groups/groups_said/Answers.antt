use Rattle.std.proofs.Common.{drop, length, length-append, arith, ap}
use Rattle.sr_domain.specs.GroupTables.{groups_said}
use Rattle.sr_domain.proofs.TakenLemmas.{said-bound}
use Rattle.sr_domain.proofs.groups.groups_said.Goals as goal

pub returns-clause-bound : goal.returns-clause-bound
returns-clause-bound c = omega (arith, ap length c.loop-named.invariant, length-append c.loop-named.out.items (groups_said (drop c.loop-named.named-index c.args.names.now) c.args.notes.now), said-bound c.args.names.now c.args.notes.now c.requires.apart)
