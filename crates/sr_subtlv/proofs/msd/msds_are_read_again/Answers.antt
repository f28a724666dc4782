use Rattle.std.proofs.Common.{sym, ap}
use Rattle.std.specs.List.{flat_map}
use Rattle.sr_subtlv.specs.Msd.{msd_value}
use Rattle.sr_subtlv.proofs.MsdLaws.{same_msds}
use Rattle.sr_subtlv.proofs.msd.msds_are_read_again.Goals as goal

pub returns : goal.returns
returns c = λ given read. (λ is. same_msds read given (sym is), λ same. ap (flat_map msd_value) (sym same))
