use Rattle.sr_graph_checks.proofs.tests.drawn.row_after_source.Given as goal

abbrev pub ghosts-row_after_from : goal.ghosts-row_after_from
ghosts-row_after_from a = record { name = a.blank.name; parts = a.blank.parts }
