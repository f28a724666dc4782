use Rattle.sr_spf.proofs.TreesLemmas.{trees-whole}
use Rattle.sr_spf.proofs.trees.Trees.build.Goals as goal

pub returns-clause-trees : goal.returns-clause-trees
returns-clause-trees g c = trees-whole _ _ _ _ c.in_ok-rows.ensures.rows c.in_ok-hops.ensures c.in_ok-carried.ensures
