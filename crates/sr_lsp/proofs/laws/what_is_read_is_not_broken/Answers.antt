use Rattle.sr_lsp.proofs.LspLemmas.{not_broken}
use Rattle.sr_lsp.proofs.laws.what_is_read_is_not_broken.Goals as goal

pub returns : goal.returns
returns c = not_broken
