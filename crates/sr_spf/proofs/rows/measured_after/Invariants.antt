use Rattle.sr_spf.proofs.rows.measured_after.Given as goal

abbrev pub ghosts-measured_after_from : goal.ghosts-measured_after_from
ghosts-measured_after_from a = record { name = a.blank.name; parts = a.blank.parts }
