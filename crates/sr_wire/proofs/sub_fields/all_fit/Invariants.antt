-- the values so far have a spelling
use Rattle.std.proofs.Common.{ℕ, ◌<◌, slice_index_or}
use Rattle.sr_wire.proofs.sub_fields.all_fit.Given as goal

abbrev pub invariant-loop-x : goal.invariant-loop-x
invariant-loop-x g l = (k : ℕ) (d : _) → k < l.x-index → g.K.SubKind.sub.fits (slice_index_or l.field k d)
