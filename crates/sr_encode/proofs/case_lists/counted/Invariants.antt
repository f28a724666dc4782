use Rattle.std.proofs.Common.{◌≡◌, ℕ, List, take}
use Rattle.sr_model.specs.declared.repair.Segment.{Segment}
use Rattle.sr_encode.specs.Answered.{counts_in}
use Rattle.sr_encode.specs.Kept.{entries}
use Rattle.sr_encode.proofs.case_lists.counted.Given as goal

-- the counts of the answers so far, whatever their segments and first links
abbrev pub invariant-loop-kept : goal.invariant-loop-kept
invariant-loop-kept l = (segments : List Segment) (start : ℕ) → l.counts ≡ counts_in (entries segments l.outcomes (take l.kept-index l.list) start)
