use Rattle.std.proofs.Common.{[]}
use Rattle.sr_print.proofs.Within.{hops-within}
use Rattle.sr_run.proofs.version.next_hops.Goals as goal

pub returns-clause-links : goal.returns-clause-links
returns-clause-links c = hops-within c.args.version.now.net.graph [] c.args.from.0 c.args.to.0 c.next_hops.result.now (c.next_hops.ensures.hops c.args.version.now.net.graph c.trees.ensures).each
