use Rattle.sr_graph_checks.proofs.tests.changes.kept_of.Goals as goal

pub returns : goal.returns
returns c = c.kept_trees.ensures.kept c.args.old.now c.args.new.now c.requires.changes c.requires.trees
