-- what stands behind the list so far
use Rattle.std.proofs.Common.{◌≡◌, ◌+◌, ◌*◌, ◌∷◌, ◌++◌, length, take}
use Rattle.std.specs.List.{flat_map}
use Rattle.sr_wire.specs.declared.registry.TheConstants.{SR_CAPABILITIES}
use Rattle.sr_subtlv.specs.SrCap.{range_text}
use Rattle.sr_subtlv.proofs.sr_cap.push_sr_cap.Given as goal

abbrev pub invariant-loop-range : goal.invariant-loop-range
invariant-loop-range l = l.out.items ≡ l.fn.out.items ++ (SR_CAPABILITIES ∷ (1 + 8 * length l.ranges) ∷ l.fn.cap.flags ∷ flat_map range_text (take l.range-index l.ranges))
