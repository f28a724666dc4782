use Rattle.sr_model.specs.Case.{IsFailedSet, source_of}
use Rattle.sr_post.specs.Kept.{AreDoubtful}
use Rattle.sr_post.proofs.failure.begin_case.Goals as goal

pub known_distances-requires-clause-doubtful : goal.known_distances-requires-clause-doubtful
known_distances-requires-clause-doubtful c =
    let set : IsFailedSet c.graph-graph.result.now c.args.case c.in_ok-failed.failed = c.in_ok-failed.ensures in
    let doubt : AreDoubtful c.graph-graph.result.now c.in_ok-failed.failed (source_of c.graph-graph.result.now c.args.case) c.doubtful_of.result = c.doubtful_of.ensures c.in_ok-failed.failed set in
    rw (c.spaces_of.ensures, c.edge.ensures.from) doubt
