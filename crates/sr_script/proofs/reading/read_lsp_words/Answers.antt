use Rattle.std.proofs.Common.{subst, arith}
use Rattle.sr_script.specs.Answers.{IsHexFault}
use Rattle.sr_script.proofs.LineLemmas.{lsp-refused, hex-refused}
use Rattle.sr_script.proofs.reading.read_lsp_words.Goals as goal

pub returns-then-len-ne2-clause-refused : goal.returns-then-len-ne2-clause-refused
returns-then-len-ne2-clause-refused c = lsp-refused c.args.words.now c.requires (omega arith)

pub returns-in-Err-clause-refused : goal.returns-in-Err-clause-refused
returns-in-Err-clause-refused c =
    hex-refused c.args.words.now c.in-Err.fault c.requires (omega arith)
    (subst (λ word. IsHexFault word c.in-Err.fault) c.get.ensures c.in-Err.ensures.err)
