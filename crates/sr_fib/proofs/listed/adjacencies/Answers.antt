use Rattle.sr_fib.proofs.ListedLemmas.{adjacencies-moved}
use Rattle.sr_fib.proofs.listed.adjacencies.Goals as goal

pub returns-clause-links : goal.returns-clause-links
returns-clause-links c = adjacencies-moved c.args.net.now c.args.node.0 c.in_ok-list.list.items c.by_label.result.items c.by_label.ensures.same c.in_ok-list.ensures.links
