use Rattle.std.proofs.Common.{arith}
use Rattle.sr_subtlv.proofs.SrCapLaws.{length_ranges}
use Rattle.sr_subtlv.proofs.sr_cap.SrCapSubKind.write.Goals as goal

pub write_sr_cap-requires-clause-few : goal.write_sr_cap-requires-clause-few
write_sr_cap-requires-clause-few c = omega (arith, c.requires.short, length_ranges c.args.x.now.ranges)
