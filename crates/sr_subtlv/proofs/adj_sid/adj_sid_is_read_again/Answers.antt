use Rattle.sr_subtlv.proofs.AdjSidLaws.{adj_sid_alone}
use Rattle.sr_subtlv.proofs.adj_sid.adj_sid_is_read_again.Goals as goal

pub returns : goal.returns
returns c = adj_sid_alone
