use Rattle.std.proofs.Common.{◌≡◌, ap, ◌∙◌}
use Rattle.sr_model.specs.Graph.{Graph}
use Rattle.sr_model.specs.Label.{Net}
use Rattle.sr_model.specs.Walk.{IsRow}
use Rattle.sr_model.specs.Case.{source_of}
use Rattle.sr_post.specs.Post.{IsPost}
use Rattle.sr_why.proofs.ReasonLemmas.{reason-no_path}
use Rattle.sr_why.proofs.reason.without_path.Goals as goal

pub returns-clause-reason : goal.returns-clause-reason
returns-clause-reason g c =
    let n = c.args.version.now.net in
    let case = c.args.case in
    let left = c.in_ok-left.left in
    let post : IsPost n case left = rw c.net-net.ensures.value at c.in_ok-left.ensures.post in
    let graph : c.graph.result.now ≡ n.graph = c.graph.ensures.value ∙ ap (λ (m : Net). m.graph) c.net-net.ensures.value in
    let source : c.edge.result.from.0 ≡ source_of n.graph case = c.edge.ensures.from ∙ ap (λ (h : Graph). source_of h case) graph in
    let row : IsRow n.graph left.failed c.edge.result.from.0 c.cells.result.now = rw (source, c.cells.ensures) post.row in
    reason-no_path n case c.args.destination.0 left.failed post.failed c.requires.answer c.reached_count.result
    (rw source at (c.reached_count.ensures n.graph left.failed row))
