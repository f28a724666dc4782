use Rattle.sr_make.proofs.PairLemmas.{each-joins}
use Rattle.sr_make.proofs.laws.each_made_pair_joins.Goals as goal

pub returns : goal.returns
returns c = each-joins
