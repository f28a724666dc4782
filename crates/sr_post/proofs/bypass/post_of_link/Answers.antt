use Rattle.std.proofs.Common.{◌≡◌, arith, ℕ, List, [], ◌++◌, length, sym, subst, take, drop}
use Rattle.std.proofs.Math.Seq.{take-append_seam}
use Rattle.sr_model.specs.Graph.{IsLink, link_at}
use Rattle.sr_model.specs.Case.{source_of, end_of}
use Rattle.sr_model.specs.Walk.{IsRow}
use Rattle.sr_spf.specs.Begun.{IsLeastWay}
use Rattle.sr_post.specs.Bypass.{AreLostFilled}
use Rattle.sr_post.specs.Post.{IsBeginning}
use Rattle.sr_post.proofs.BypassLemmas.{told-row}
use Rattle.sr_post.proofs.bypass.post_of_link.Goals as goal

-- that many entries of the front are the front
take_front : (n : ℕ) (xs ys : List ℕ) → length xs ≡ n → take n (xs ++ ys) ≡ xs
take_front n xs ys e = rw (← e) (take-append_seam xs ys)

pub returns : goal.returns
returns c =
    let n = c.args.net.now in
    let b = c.failed.inside in
    let begun : IsBeginning n c.args.case (record { failed = b.failed; cells = b.cells.items; lost = b.lost.items; kept = b.kept.items }) = subst (IsBeginning n c.args.case) (sym c.failed.view_is) c.in_ok-failed.ensures in
    let from : c.edge-edge.result.from.0 ≡ source_of n.graph c.args.case = rw c.graph-graph.ensures.value at c.edge-edge.ensures.from in
    let to : c.edge-edge.result.to.0 ≡ end_of n.graph c.args.case = rw c.graph-graph.ensures.value at c.edge-edge.ensures.to in
    let link : IsLink n.graph (link_at n.graph c.args.case.link.0) = c.requires.trees.graph.each c.args.case.link.0 c.requires.case.0 in
    let onward : IsRow n.graph [] (end_of n.graph c.args.case) c.cells.result.now = rw (c.cells.ensures.cells, to) (c.requires.trees.rows (end_of n.graph c.args.case) link.1) in
    let least : IsLeastWay n.graph b.failed (source_of n.graph c.args.case) c.args.around.now (end_of n.graph c.args.case) c.least_way-into.result =
    rw (c.graph-graph.ensures.value, from, to) at c.least_way-into.ensures in
    let told : AreLostFilled n.graph (record { end = end_of n.graph c.args.case; into = c.least_way-into.result; around = c.args.around.now; onward = c.cells.result.now }) b.lost.items (length b.lost.items) b.cells.items c.fill_lost.new.cells =
    rw (c.graph-graph.ensures.value, to, c.deref.ensures.value, c.deref_mut.ensures.value) at c.fill_lost.ensures in
    let back : take b.cells.len (c.fill_lost.new.cells ++ drop (length c.fill_lost.new.cells) b.cells.items) ≡ c.fill_lost.new.cells = take_front b.cells.len c.fill_lost.new.cells (drop (length c.fill_lost.new.cells) b.cells.items) (omega (arith, told.long, c.deref_mut.ensures.len)) in
    let filled : AreLostFilled n.graph (record { end = end_of n.graph c.args.case; into = c.least_way-into.result; around = c.args.around.now; onward = c.cells.result.now }) b.lost.items (length b.lost.items) b.cells.items c.new.result =
    rw (c.new.ensures, c.deref_mut.ensures.writes_back, back) told in
    let row : IsRow n.graph b.failed (source_of n.graph c.args.case) c.new.result =
    told-row n.graph c.args.case b.failed c.requires.around.0 c.graph-graph.ensures.net.graph c.graph-graph.ensures.net.named c.requires.case.0 c.requires.case.1 begun.failed c.requires.around.1
    c.least_way-into.result c.args.around.now c.cells.result.now b.cells.items c.new.result b.lost.items c.requires.around.2 onward least begun.stay filled in
    rw c.new-2.ensures (record { failed = begun.failed; row = row; hops = begun.hops })
