use Rattle.sr_repair.proofs.StackLemmas.{other-answer}
use Rattle.sr_diff.proofs.ThereLemmas.{bare-answer}
use Rattle.sr_diff.proofs.there.item_for.Goals as goal

pub returns-in-NoPath : goal.returns-in-NoPath
returns-in-NoPath c =
    other-answer c.args.net.now c.args.purpose.case c.args.purpose.dest.0 c.args.answer c.requires.answer (bare-answer c.args.answer c.in-NoPath.is)
