use Rattle.sr_subtlv.proofs.PrefixSidLaws.{prefix_sid_alone}
use Rattle.sr_subtlv.proofs.prefix_sid.prefix_sid_is_read_again.Goals as goal

pub returns : goal.returns
returns c = prefix_sid_alone
