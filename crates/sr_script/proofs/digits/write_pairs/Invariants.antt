use Rattle.std.proofs.Common.{◌*◌}
use Rattle.sr_script.proofs.OctetLemmas.{AreWritten}
use Rattle.sr_script.proofs.digits.write_pairs.Given as goal

abbrev pub invariant-loop-block : goal.invariant-loop-block
invariant-loop-block l = AreWritten l.text l.octets (16 * l.block)
