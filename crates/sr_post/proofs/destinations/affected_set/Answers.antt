use Rattle.std.proofs.Common.{◌≡◌}
use Rattle.sr_lanes.specs.Bits.{IsWithout}
use Rattle.sr_model.specs.Case.{source_of, end_of}
use Rattle.sr_post.proofs.SourceLemmas.{no-node_fails}
use Rattle.sr_post.proofs.AffectedLemmas.{AreOthers, others-from, affected-others, affected-outside}
use Rattle.sr_post.proofs.destinations.affected_set.Goals as goal

pub returns-in-Link : goal.returns-in-Link
returns-in-Link c =
    let n = c.args.net.now in
    let case = c.args.case in
    let begins : c.edge-protected.result.from.0 ≡ source_of n.graph case = rw c.graph-2.ensures.value at c.edge-protected.ensures.from in
    let without : IsWithout c.and-carried.result c.without-others.result (source_of n.graph case) = rw begins at c.without-others.ensures in
    let others : AreOthers n case c.without-others.result =
    others-from n case c.carried.result c.indexed.result c.and-carried.result c.without-others.result (c.carried.ensures.nodes n.graph c.requires.trees) c.indexed.ensures c.and-carried.ensures without in
    affected-others n case c.without-others.result others (no-node_fails case.kind c.in-Link.is)

pub returns-in-Node : goal.returns-in-Node
returns-in-Node c =
    let n = c.args.net.now in
    let case = c.args.case in
    let begins : c.edge-protected.result.from.0 ≡ source_of n.graph case = rw c.graph-2.ensures.value at c.edge-protected.ensures.from in
    let ends : c.edge-protected.result.to.0 ≡ end_of n.graph case = rw c.graph-2.ensures.value at c.edge-protected.ensures.to in
    let without : IsWithout c.and-carried.result c.without-others.result (source_of n.graph case) = rw begins at c.without-others.ensures in
    let outside : IsWithout c.without-others.result c.without.result (end_of n.graph case) = rw ends at c.without.ensures in
    let others : AreOthers n case c.without-others.result =
    others-from n case c.carried.result c.indexed.result c.and-carried.result c.without-others.result (c.carried.ensures.nodes n.graph c.requires.trees) c.indexed.ensures c.and-carried.ensures without in
    affected-outside n case c.without-others.result c.without.result others c.in-Node.is outside
