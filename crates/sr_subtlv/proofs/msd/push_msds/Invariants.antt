-- what stands behind the list so far
use Rattle.std.proofs.Common.{◌≡◌, ◌*◌, ◌∷◌, ◌++◌, length, take}
use Rattle.std.specs.List.{flat_map}
use Rattle.sr_wire.specs.declared.registry.TheConstants.{NODE_MSD}
use Rattle.sr_subtlv.specs.Msd.{msd_value}
use Rattle.sr_subtlv.proofs.msd.push_msds.Given as goal

abbrev pub invariant-loop-msd : goal.invariant-loop-msd
invariant-loop-msd l = l.out.items ≡ l.fn.out.items ++ (NODE_MSD ∷ (2 * length l.fn.msds) ∷ flat_map msd_value (take l.msd-index l.msds))
