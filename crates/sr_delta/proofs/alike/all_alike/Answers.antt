use Rattle.sr_model.specs.Label.{Net}
use Rattle.sr_model.specs.Stay.{HasSameDepth}
use Rattle.sr_laws.specs.Steady.{HasSameSegments}
use Rattle.sr_delta.specs.Pairs.{HaveSamePairsAt}
use Rattle.sr_delta.specs.Alike.{HasSameLabels, IsIndexedAlike}
use Rattle.sr_delta.proofs.AlikeLemmas.{those-put}
use Rattle.sr_delta.proofs.alike.all_alike.Goals as goal

pub loop-v-preserved : goal.loop-v-preserved
loop-v-preserved c =
    let n : Net = c.args.old.now in
    let m : Net = c.args.new.now in
    record {
      labels = those-put (HasSameLabels n m) c.loop-v.v c.loop-v.labels c.put-labels.result c.same_labels.result c.loop-v.invariant.labels c.put-labels.ensures c.same_labels.ensures;
      segments = those-put (HasSameSegments n m) c.loop-v.v c.loop-v.segments c.put-segments.result c.same_segments-same.result c.loop-v.invariant.segments c.put-segments.ensures c.same_segments-same.ensures;
      indexed = those-put (IsIndexedAlike n m) c.loop-v.v c.loop-v.indexed c.put-indexed.result c.same_indexed.result c.loop-v.invariant.indexed c.put-indexed.ensures c.same_indexed.ensures;
      depths = those-put (HasSameDepth n m) c.loop-v.v c.loop-v.depths c.put-depths.result c.same_depth.result c.loop-v.invariant.depths c.put-depths.ensures c.same_depth.ensures;
      pairs = those-put (HaveSamePairsAt n.graph m.graph) c.loop-v.v c.loop-v.pairs c.put-pairs.result c.same_pairs.result c.loop-v.invariant.pairs c.put-pairs.ensures c.same_pairs.ensures;
    }
