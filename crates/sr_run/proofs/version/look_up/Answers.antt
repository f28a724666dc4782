use Rattle.sr_print.proofs.Within.{lookup-within}
use Rattle.sr_fib.specs.Entries.{found_of}
use Rattle.sr_run.proofs.version.look_up.Goals as goal

pub returns-clause-within : goal.returns-clause-within
returns-clause-within c = lookup-within c.args.version.now.net c.args.node.0 c.args.label (found_of c.look.result) (c.look.ensures c.args.version.now.net c.net-net.ensures.net c.fib.ensures)
