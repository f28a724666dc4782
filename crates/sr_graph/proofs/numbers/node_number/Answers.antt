use Rattle.sr_graph.proofs.NumbersLemmas.{nowhere}
use Rattle.sr_graph.proofs.numbers.node_number.Goals as goal

pub returns-in-Err-clause-none : goal.returns-in-Err-clause-none
returns-in-Err-clause-none c = nowhere _ _ _ c.requires.ascending c.in-Err.ensures.position
