use Rattle.std.proofs.Common.{◌≤◌, length, arith}
use Rattle.sr_subtlv.proofs.SrCapLaws.{no_short_sr_cap}
use Rattle.sr_subtlv.proofs.sr_cap.SrCapSubKind.read.Goals as goal

pub returns-then-value-lt2 : goal.returns-then-value-lt2
returns-then-value-lt2 c = λ cap is. let long : 9 ≤ length c.args.value.now = no_short_sr_cap c.args.value.now cap is in omega arith
