use Rattle.sr_subtlv.proofs.SrCapLaws.{sr_cap_alone}
use Rattle.sr_subtlv.proofs.sr_cap.sr_cap_is_read_again.Goals as goal

pub returns : goal.returns
returns c = sr_cap_alone
