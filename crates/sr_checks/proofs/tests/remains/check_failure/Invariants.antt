use Rattle.sr_checks.proofs.tests.remains.check_failure.Given as goal

abbrev pub ghosts-remains_by : goal.ghosts-remains_by
ghosts-remains_by g a = record { name = a.blank.name; parts = a.blank.parts }
