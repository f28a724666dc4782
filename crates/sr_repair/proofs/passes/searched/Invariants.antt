use Rattle.sr_repair.proofs.passes.searched.Given as goal

abbrev pub ghosts-solved_from : goal.ghosts-solved_from
ghosts-solved_from a = record { name = a.blank.name; parts = a.blank.parts }
