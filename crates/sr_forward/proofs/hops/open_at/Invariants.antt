use Rattle.std.proofs.Common.{◌≡◌, drop}
use Rattle.std.specs.Prelude.{slice_get}
use Rattle.sr_forward.specs.Choices.{open_hops}
use Rattle.sr_forward.proofs.hops.open_at.Given as goal

abbrev pub invariant-loop-at : goal.invariant-loop-at
invariant-loop-at l =
    slice_get (open_hops l.closed (drop l.at l.hops)) l.left ≡ slice_get (open_hops l.closed l.hops) l.place
