use Rattle.sr_lsp.proofs.LspLemmas.{same_fault}
use Rattle.sr_lsp.proofs.laws.the_fault_is_determined.Goals as goal

pub returns : goal.returns
returns c = same_fault
