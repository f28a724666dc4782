use Rattle.std.proofs.Common.{◌≡◌, List, length, ap, arith}
use Rattle.sr_model.specs.declared.label.Range.{Range}
use Rattle.sr_subtlv.proofs.SrCapLaws.{length_ranges}
use Rattle.sr_subtlv.proofs.sr_cap.SrCapSubKind.length.Goals as goal

pub returns-clause-is : goal.returns-clause-is
returns-clause-is c =
    let same : length c.as_slice.result.now ≡ length c.args.x.now.ranges = ap (λ (ranges : List Range). length ranges) c.as_slice.ensures in
    omega (arith, length_ranges c.args.x.now.ranges)
