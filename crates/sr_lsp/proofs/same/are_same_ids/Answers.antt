use Rattle.std.proofs.lemmas.Bool.Decides.{Decides-at}
use Rattle.sr_lsp.proofs.SameLemmas.{said_ids-decide}
use Rattle.sr_lsp.proofs.same.are_same_ids.Goals as goal

pub returns : goal.returns
returns c = Decides-at c.eq.result _ c.eq.ensures (said_ids-decide c.args.one.now c.args.other.now)
