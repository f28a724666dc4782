use Rattle.sr_lsdb.proofs.RangeLemmas.{AreInRange-apply}
use Rattle.sr_lsdb.proofs.laws.edits_keep_the_range.Goals as goal

pub returns : goal.returns
returns c = AreInRange-apply
