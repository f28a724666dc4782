use Rattle.sr_model.specs.Stay.{HasSameDepth}
use Rattle.sr_laws.specs.Steady.{HasSameSegments}
use Rattle.sr_delta.specs.Pairs.{HaveSamePairsAt}
use Rattle.sr_delta.specs.Alike.{HasSameLabels, IsIndexedAlike, IsSetOf}
use Rattle.sr_delta.proofs.alike.all_alike.Given as goal

abbrev pub invariant-loop-v : goal.invariant-loop-v
invariant-loop-v l = record {
  labels : IsSetOf (HasSameLabels l.old l.new) l.v l.labels;
  segments : IsSetOf (HasSameSegments l.old l.new) l.v l.segments;
  indexed : IsSetOf (IsIndexedAlike l.old l.new) l.v l.indexed;
  depths : IsSetOf (HasSameDepth l.old l.new) l.v l.depths;
  pairs : IsSetOf (HaveSamePairsAt l.old.graph l.new.graph) l.v l.pairs;
}
