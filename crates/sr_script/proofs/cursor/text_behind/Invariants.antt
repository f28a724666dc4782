-- the words behind those that were passed
use Rattle.std.proofs.Common.{◌≡◌, drop}
use Rattle.sr_script.specs.Words.{words}
use Rattle.sr_script.proofs.cursor.text_behind.Given as goal

abbrev pub invariant-loop-past : goal.invariant-loop-past
invariant-loop-past l = words l.rest ≡ drop l.past (words l.text)
