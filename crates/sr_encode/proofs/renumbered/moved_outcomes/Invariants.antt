use Rattle.std.proofs.Common.{◌≡◌, map, take}
use Rattle.sr_encode.specs.Renumbered.{moved_outcome}
use Rattle.sr_encode.proofs.renumbered.moved_outcomes.Given as goal

-- the first n are renumbered
abbrev pub invariant-loop-n : goal.invariant-loop-n
invariant-loop-n l = l.list.items ≡ map (moved_outcome l.numbers) (take l.n l.outcomes)
