use Rattle.std.proofs.Common.{arith, ◌∙◌, sym}
use Rattle.sr_lsp.specs.Parts.{part_of}
use Rattle.sr_account.proofs.ChoiceLemmas.{saying-found, saying-passed}
use Rattle.sr_account.proofs.choice.first_of_parts.Goals as goal

pub returns-then-says : goal.returns-then-says
returns-then-says c =
    saying-found c.args.saying c.args.id.now c.loop-at.at c.args.parts.now (part_of c.at.result) (omega arith) (sym c.at.ensures) c.if-says.ensures
    ∙ c.loop-at.invariant

pub loop-at-preserved : goal.loop-at-preserved
loop-at-preserved c =
    saying-passed c.args.saying c.args.id.now c.loop-at.at c.args.parts.now (part_of c.at.result) (omega arith) (sym c.at.ensures) c.if-says.ensures
    ∙ c.loop-at.invariant
