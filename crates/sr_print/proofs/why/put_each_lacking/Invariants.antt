-- the segments so far stand behind, where the net lacks them
use Rattle.std.proofs.Common.{◌≡◌, ◌++◌, take}
use Rattle.std.specs.List.{flat_map}
use Rattle.sr_print.specs.Why.{lacking_word}
use Rattle.sr_print.proofs.why.put_each_lacking.Given as goal

abbrev pub invariant-loop-segment : goal.invariant-loop-segment
invariant-loop-segment l = l.out.items ≡ l.fn.out.items ++ flat_map (lacking_word l.net) (take l.segment-index l.segments)
