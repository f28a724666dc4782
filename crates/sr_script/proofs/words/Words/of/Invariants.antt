use Rattle.std.proofs.Common.{◌≡◌, ◌++◌, length}
use Rattle.sr_script.specs.Words.{words}
use Rattle.sr_script.proofs.KeptLemmas.{kept}
use Rattle.sr_script.proofs.words.Words.of.Given as goal

abbrev pub invariant-loop-count : goal.invariant-loop-count
invariant-loop-count l = record { room : length l.texts ≡ 8; whole : kept l.texts l.count ++ words l.behind ≡ words l.fn.text }
