use Rattle.sr_post.proofs.KeptHopLemmas.{NoneLeads}
use Rattle.sr_post.proofs.kept.least_hop.Given as goal

abbrev pub invariant-loop-hop : goal.invariant-loop-hop
invariant-loop-hop l = NoneLeads l.spaces.graph l.spaces.failed l.fn.source.0 l.fn.v.0 l.hop-items l.hop-index
