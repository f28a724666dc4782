use Rattle.std.proofs.lemmas.Slice.Eq.{slice_eq-Decides}
use Rattle.sr_lsp.proofs.SameLemmas.{ranges-decide}
use Rattle.sr_lsp.proofs.same.are_same_ranges.Goals as goal

pub returns : goal.returns
returns c = slice_eq-Decides ranges-decide c.args.one.now c.args.other.now c.eq.result c.eq.ensures
