use Rattle.sr_lsp.proofs.TruncationLemmas.{cut_short}
use Rattle.sr_lsp.proofs.laws.what_is_cut_short_is_broken.Goals as goal

pub returns : goal.returns
returns c = cut_short
