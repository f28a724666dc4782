use Rattle.sr_graph.proofs.BitsLemmas.{added-one}
use Rattle.sr_graph.proofs.link_bits.LinkBits.add.Goals as goal

pub returns-clause-added : goal.returns-clause-added
returns-clause-added c = rw (← c.self.view_is) (added-one c.self.inside.words.items c.args.link.0 c.index_mut.result.now (rw c.self.view_is c.requires) c.index_mut.ensures.value)
