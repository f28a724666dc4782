use Rattle.std.proofs.Common.{◌≡◌, ◌*◌, length, ap, ◌∙◌, arith}
use Rattle.sr_subtlv.proofs.MsdLaws.{length_msds}
use Rattle.sr_subtlv.proofs.msd.MsdSubKindSeqMsd.read.Goals as goal

pub returns-then-value-ne0 : goal.returns-then-value-ne0
returns-then-value-ne0 c = λ msds is.
    let even : length c.args.value.now ≡ 2 * length msds = ap length is ∙ length_msds msds in
    omega arith
