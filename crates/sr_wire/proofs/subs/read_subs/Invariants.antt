-- what the sub-TLVs behind say
use Rattle.std.proofs.Common.{length, ◌-◌}
use Rattle.sr_wire.proofs.SubsLemmas.{SaidSoFar}
use Rattle.sr_wire.proofs.subs.read_subs.Given as goal

abbrev pub invariant-loop-at : goal.invariant-loop-at
invariant-loop-at g l = SaidSoFar g.S.SubTlvs.said l.run l.at l.said

abbrev pub decreases-loop-at : goal.decreases-loop-at
decreases-loop-at g l = length l.run - l.at
