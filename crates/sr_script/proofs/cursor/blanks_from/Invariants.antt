use Rattle.sr_script.specs.Words.{AreBlanks}
use Rattle.sr_script.proofs.cursor.blanks_from.Given as goal

abbrev pub invariant-loop-i : goal.invariant-loop-i
invariant-loop-i l = AreBlanks l.text l.i
