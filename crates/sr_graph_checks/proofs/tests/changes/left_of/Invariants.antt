use Rattle.sr_graph_checks.proofs.tests.changes.left_of.Given as goal

abbrev pub ghosts-left_from : goal.ghosts-left_from
ghosts-left_from a = record { name = a.blank.name; parts = a.blank.parts }
