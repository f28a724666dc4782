use Rattle.std.proofs.Common.{◌≡◌, List, length, ap, arith}
use Rattle.sr_subtlv.specs.declared.msd.Msd.{Msd}
use Rattle.sr_subtlv.proofs.MsdLaws.{length_msds}
use Rattle.sr_subtlv.proofs.msd.MsdSubKindSeqMsd.write.Goals as goal

pub write_msds-requires : goal.write_msds-requires
write_msds-requires c =
    let same : length c.as_slice.result.now ≡ length c.args.x.now = ap (λ (msds : List Msd). length msds) c.as_slice.ensures in
    omega (arith, c.requires.short, length_msds c.args.x.now)
