use Rattle.sr_graph_checks.proofs.tests.drawn.row_of.Given as goal

abbrev pub ghosts-row_from : goal.ghosts-row_from
ghosts-row_from a = record { name = a.blank.name; parts = a.blank.parts }
