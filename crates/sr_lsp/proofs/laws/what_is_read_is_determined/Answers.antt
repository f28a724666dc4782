use Rattle.sr_lsp.proofs.LspLemmas.{same_lsp}
use Rattle.sr_lsp.proofs.laws.what_is_read_is_determined.Goals as goal

pub returns : goal.returns
returns c = same_lsp
