use Rattle.sr_fib.proofs.ListedLemmas.{indices-moved}
use Rattle.sr_fib.proofs.listed.indices.Goals as goal

pub returns-clause-nodes : goal.returns-clause-nodes
returns-clause-nodes c = indices-moved c.args.net.now c.in_ok-list.list.items c.by_index.result.items c.by_index.ensures.same c.in_ok-list.ensures.nodes
