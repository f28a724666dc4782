use Rattle.std.proofs.Common.{◌≡◌, ◌+◌, ◌*◌, arith, sym, subst, ◌∙◌}
use Rattle.std.proofs.lemmas.Bool.{false≢true}
use Rattle.sr_script.specs.Words.{AreBlanks}
use Rattle.sr_script.proofs.BlankLemmas.{blanks-more, blanks-in_block}
use Rattle.sr_script.proofs.blank_block.blank_blocks.Goals as goal

pub returns-then-not-are_blanks-clause-stops : goal.returns-then-not-are_blanks-clause-stops
returns-then-not-are_blanks-clause-stops c room all =
    false≢true (sym c.if-not-are_blanks.true ∙ c.are_blanks.ensures.1 (blanks-in_block c.args.text.now (16 * c.loop-block.block) all))

pub loop-block-preserved : goal.loop-block-preserved
loop-block-preserved c =
    let next : 16 * c.loop-block.block + 16 ≡ 16 * (c.loop-block.block + 1) = omega arith in
    subst (AreBlanks c.args.text.now) next
    (blanks-more c.args.text.now (16 * c.loop-block.block) c.loop-block.invariant (c.are_blanks.ensures.0 c.if-not-are_blanks.false))
