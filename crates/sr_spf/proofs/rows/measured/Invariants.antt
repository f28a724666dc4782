use Rattle.sr_spf.proofs.rows.measured.Given as goal

abbrev pub ghosts-measured_from : goal.ghosts-measured_from
ghosts-measured_from a = record { name = a.blank.name; parts = a.blank.parts }
