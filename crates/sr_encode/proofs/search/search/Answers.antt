use Rattle.sr_encode.proofs.QueueLemmas.{searching-short}
use Rattle.sr_encode.proofs.ServeLemmas.{resolved-from}
use Rattle.sr_encode.proofs.search.search.Goals as goal

pub by_hops-requires-clause-short : goal.by_hops-requires-clause-short
by_hops-requires-clause-short c = rw c.deref.ensures.value (searching-short c.args.scene.now c.in_ok-met.met.queue.items c.in_ok-met.met.unmet 0 0 c.in_ok-met.ensures)

pub explore-requires-clause-offered : goal.explore-requires-clause-offered
explore-requires-clause-offered c = rw c.deref.ensures.value at c.in_ok-served.ensures.offered

pub returns : goal.returns
returns c =
    resolved-from c.args.scene.now c.explore.new.met.queue.items c.args.wanted c.in_ok-served.served c.explore.new.served
    c.in_ok-served.ensures.tended c.in_ok-explore.ensures.later c.in_ok-explore.ensures.over
