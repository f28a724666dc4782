use Rattle.std.proofs.Common.{◌≡◌, ℕ, ◌<◌}
use Rattle.std.specs.Prelude.{slice_index_or}
use Rattle.sr_model.specs.declared.repair.Segment.TheVariants.{Node}
use Rattle.sr_encode.specs.Renumbered.{moved_segment}
use Rattle.sr_encode.proofs.renumbered.keep_numbers.Given as goal

-- so far each is the same
abbrev pub invariant-loop-segment : goal.invariant-loop-segment
invariant-loop-segment l = (k : ℕ) → k < l.segment-index → moved_segment l.links (slice_index_or l.segments k (Node (record { 0 = 0 }))) ≡ slice_index_or l.segments k (Node (record { 0 = 0 }))
