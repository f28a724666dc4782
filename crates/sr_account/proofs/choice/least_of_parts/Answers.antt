use Rattle.std.proofs.Common.{arith, ◌∙◌, sym}
use Rattle.sr_lsp.specs.Parts.{part_of}
use Rattle.sr_account.specs.Steps.{part_items}
use Rattle.sr_account.proofs.ChoiceLemmas.{least-next}
use Rattle.sr_account.proofs.choice.least_of_parts.Goals as goal

pub loop-at-preserved : goal.loop-at-preserved
loop-at-preserved c =
    least-next (part_items c.args.id.now) c.loop-at.at c.args.parts.now (part_of c.at.result) c.loop-at.found c.least_of_part-found.result (omega arith) (sym c.at.ensures) c.least_of_part-found.ensures
    ∙ c.loop-at.invariant
