use Rattle.std.proofs.Common.{◌≡◌, map, take}
use Rattle.sr_spf.specs.Renewed.{moved_link}
use Rattle.sr_spf.proofs.hops.all_renumbered.Given as goal

abbrev pub invariant-loop-link : goal.invariant-loop-link
invariant-loop-link l = l.moved.items ≡ map (moved_link l.links) (take l.link-index l.list)
