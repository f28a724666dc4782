use Rattle.std.proofs.Common.{◌∙◌, sym}
use Rattle.std.proofs.lemmas.Bool.{eqb-true}
use Rattle.sr_script.proofs.LineLemmas.{empty-said}
use Rattle.sr_script.proofs.reading.read_line.Goals as goal

pub returns-then-is_empty-clause-said : goal.returns-then-is_empty-clause-said
returns-then-is_empty-clause-said c = empty-said c.args.line.now (eqb-true _ _ (sym c.is_empty.ensures ∙ c.if-is_empty.true))
