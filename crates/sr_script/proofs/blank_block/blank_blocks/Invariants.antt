use Rattle.std.proofs.Common.{◌*◌}
use Rattle.sr_script.specs.Words.{AreBlanks}
use Rattle.sr_script.proofs.blank_block.blank_blocks.Given as goal

abbrev pub invariant-loop-block : goal.invariant-loop-block
invariant-loop-block l = AreBlanks l.text (16 * l.block)
