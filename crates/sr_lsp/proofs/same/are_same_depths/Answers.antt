use Rattle.std.proofs.lemmas.Slice.Eq.{slice_eq-Decides}
use Rattle.sr_lsp.proofs.SameLemmas.{depths-decide}
use Rattle.sr_lsp.proofs.same.are_same_depths.Goals as goal

pub returns : goal.returns
returns c = slice_eq-Decides depths-decide c.args.one.now c.args.other.now c.eq.result c.eq.ensures
