use Rattle.sr_lsp.proofs.LspLemmas.{lsp_again}
use Rattle.sr_lsp.proofs.laws.what_is_written_is_read_again.Goals as goal

pub returns : goal.returns
returns c = lsp_again
