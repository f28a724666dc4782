use Rattle.std.proofs.Common.{◌∙◌, arith}
use Rattle.sr_engine.proofs.Steps.{kept-more}
use Rattle.sr_engine.proofs.script.keep.Goals as goal

pub returns : goal.returns
returns c rest is =
    c.in_ok-extend_from_slice.ensures.items
    ∙ kept-more c.args.kept.now.items rest c.args.more.now c.min-count.result is (omega arith)
