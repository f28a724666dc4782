use Rattle.sr_checks.proofs.tests.versions.version_of.Given as goal

abbrev pub ghosts-opening : goal.ghosts-opening
ghosts-opening g a = record { name = a.blank.name; parts = a.blank.parts }
