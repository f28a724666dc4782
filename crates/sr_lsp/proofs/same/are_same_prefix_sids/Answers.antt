use Rattle.std.proofs.lemmas.Slice.Eq.{slice_eq-Decides}
use Rattle.sr_lsp.proofs.SameLemmas.{prefix_sids-decide}
use Rattle.sr_lsp.proofs.same.are_same_prefix_sids.Goals as goal

pub returns : goal.returns
returns c = slice_eq-Decides prefix_sids-decide c.args.one.now c.args.other.now c.eq.result c.eq.ensures
