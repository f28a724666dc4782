use Rattle.std.proofs.Common.{◌≡◌, ◌<◌, ◌⊎◌, ◌||◌, ◌==◌, inl, ℕ, Bool, List, Some, true, length, arith, refl, sym, ◌∙◌}
use Rattle.std.proofs.lemmas.Option.{slice_get_read}
use Rattle.std.specs.Prelude.{IsTrue, ◌↔◌, slice_get}
use Rattle.sr_model.specs.Case.{source_of}
use Rattle.sr_model.specs.Graph.{node_count}
use Rattle.sr_lanes.specs.Bits.{is_in}
use Rattle.sr_post.specs.Marks.{AreFound, IsOneBefore}
use Rattle.sr_post.proofs.MarkLemmas.{way-within, found-start, found-first, found-next, found-all, found-over, left-none, nodes-before, open-less}
use Rattle.sr_post.proofs.marks.walks.Goals as goal

pub returns-in_default : goal.returns-in_default
returns-in_default c =
    let n = c.args.net.now in
    let x : List Bool = c.requires.row.0 in
    let start : AreFound n c.args.case x c.args.cells.now c.and-pending.result c.and-pending.result =
    found-start n c.args.case x c.args.cells.now c.requires.trees.graph c.requires.case c.requires.row.2
    c.affected_set.result c.finite-reached.result c.and-pending.result c.affected_set.ensures c.finite-reached.ensures c.and-pending.ensures in
    found-over n c.args.case x c.args.cells.now c.requires.trees.graph c.requires.case c.requires.row.2
    c.and-pending.result c.and-pending.result start c.in_default.ensures c.requires.row.1

pub pending-init : goal.pending-init
pending-init c = λ x failed row.
    let n = c.args.net.now in
    let s : c.edge.result.from.0 ≡ source_of n.graph c.args.case = rw c.graph-graph.ensures.value at c.edge.ensures.from in
    let more : (k : ℕ) → is_in c.with-found.result k ≡ (k == source_of n.graph c.args.case || is_in c.and-pending.result k) = rw s at c.with-found.ensures in
    found-first n c.args.case x c.args.cells.now c.requires.trees.graph c.requires.case row c.graph-graph.ensures.net.named failed
    c.and-pending.result c.with-found.result c.in-Some.field-0
    (found-start n c.args.case x c.args.cells.now c.requires.trees.graph c.requires.case row
    c.affected_set.result c.finite-reached.result c.and-pending.result c.affected_set.ensures c.finite-reached.ensures c.and-pending.ensures)
    c.in-Some.ensures.member more

pub with_nodes_before-now-requires-clause-v : goal.with_nodes_before-now-requires-clause-v
with_nodes_before-now-requires-clause-v c =
    let pending = c.pending.invariant c.requires.row.0 c.requires.row.1 c.requires.row.2 in
    rw c.graph-graph.ensures.value
    (way-within c.args.net.now c.args.case c.requires.row.0 c.args.cells.now c.requires.trees.graph c.requires.case c.requires.row.2 c.in-Some-take_first.v
    (pending.sound c.in-Some-take_first.v (pending.inside c.in-Some-take_first.v c.in-Some-take_first.ensures.first.member)))

pub bounds-tails-v : goal.bounds-tails-v
bounds-tails-v c =
    let pending = c.pending.invariant c.requires.row.0 c.requires.row.1 c.requires.row.2 in
    let within : c.in-Some-take_first.v < node_count c.args.net.now.graph =
    way-within c.args.net.now c.args.case c.requires.row.0 c.args.cells.now c.requires.trees.graph c.requires.case c.requires.row.2 c.in-Some-take_first.v
    (pending.sound c.in-Some-take_first.v (pending.inside c.in-Some-take_first.v c.in-Some-take_first.ensures.first.member)) in
    omega (arith, within, c.requires.tails.long)

pub with_nodes_before-now-requires-clause-before : goal.with_nodes_before-now-requires-clause-before
with_nodes_before-now-requires-clause-before c =
    let g = c.args.net.now.graph in
    let pending = c.pending.invariant c.requires.row.0 c.requires.row.1 c.requires.row.2 in
    let within : c.in-Some-take_first.v < node_count g =
    way-within c.args.net.now c.args.case c.requires.row.0 c.args.cells.now c.requires.trees.graph c.requires.case c.requires.row.2 c.in-Some-take_first.v
    (pending.sound c.in-Some-take_first.v (pending.inside c.in-Some-take_first.v c.in-Some-take_first.ensures.first.member)) in
    let at : slice_get c.args.tails.now c.in-Some-take_first.v ≡ Some c.index-tails-v.result =
    slice_get_read c.args.tails.now (length c.args.tails.now) c.in-Some-take_first.v c.index-tails-v.result refl (omega (arith, within, c.requires.tails.long)) c.index-tails-v.is in
    let s : c.edge.result.from.0 ≡ source_of g c.args.case = rw c.graph-graph.ensures.value at c.edge.ensures.from in
    rw (c.graph-graph.ensures.value, s) (nodes-before g c.requires.row.0 (source_of g c.args.case) c.args.cells.now c.in-Some-take_first.v c.index-tails-v.result c.finite-reached.result c.and-before.result
    c.requires.trees.graph c.requires.row.2 (c.requires.tails.each c.in-Some-take_first.v c.index-tails-v.result at) c.finite-reached.ensures c.and-before.ensures)

pub pending-smaller : goal.pending-smaller
pending-smaller c =
    open-less c.in-Some-take_first.v c.pending.found c.pending.pending c.with_nodes_before-now.result c.or-pending.result
    (record {
      was = c.in-Some-take_first.ensures.first.member;
      less = c.take_first.new.self;
      taken = c.in-Some-take_first.ensures.left;
      more = c.and_not.result;
      new = c.and_not.ensures;
      stay = λ k is. (c.with_nodes_before-now.ensures k).1 (inl is);
      pending_is = c.or-pending.ensures;
    })
    (c.pending.invariant c.requires.row.0 c.requires.row.1 c.requires.row.2).inside c.in-Some-take_first.ensures.first.within

pub pending-preserved : goal.pending-preserved
pending-preserved c = λ x failed row.
    let n = c.args.net.now in
    let s : c.edge.result.from.0 ≡ source_of n.graph c.args.case = rw c.graph-graph.ensures.value at c.edge.ensures.from in
    let tells : (u : ℕ) → IsTrue (is_in c.with_nodes_before-now.result u) ↔ ((is_in c.pending.found u ≡ true) ⊎ IsOneBefore n.graph (source_of n.graph c.args.case) c.args.cells.now c.in-Some-take_first.v u) =
    rw (c.graph-graph.ensures.value, s) at c.with_nodes_before-now.ensures in
    found-next n c.args.case x c.args.cells.now c.requires.trees.graph c.requires.case row c.graph-graph.ensures.net.named failed
    c.in-Some-take_first.v c.pending.found c.pending.pending c.with_nodes_before-now.result c.or-pending.result (c.pending.invariant x failed row)
    (record {
      was = c.in-Some-take_first.ensures.first.member;
      less = c.take_first.new.self;
      taken = c.in-Some-take_first.ensures.left;
      more = c.and_not.result;
      new = c.and_not.ensures;
      stay = λ k is. (c.with_nodes_before-now.ensures k).1 (inl is);
      pending_is = c.or-pending.ensures;
    })
    tells

pub returns-then-is_empty : goal.returns-then-is_empty
returns-then-is_empty c =
    let n = c.args.net.now in
    let x : List Bool = c.requires.row.0 in
    let s : c.edge.result.from.0 ≡ source_of n.graph c.args.case = rw c.graph-graph.ensures.value at c.edge.ensures.from in
    let tells : (u : ℕ) → IsTrue (is_in c.with_nodes_before-now.result u) ↔ ((is_in c.pending.found u ≡ true) ⊎ IsOneBefore n.graph (source_of n.graph c.args.case) c.args.cells.now c.in-Some-take_first.v u) =
    rw (c.graph-graph.ensures.value, s) at c.with_nodes_before-now.ensures in
    let next = found-next n c.args.case x c.args.cells.now c.requires.trees.graph c.requires.case c.requires.row.2 c.graph-graph.ensures.net.named c.requires.row.1
    c.in-Some-take_first.v c.pending.found c.pending.pending c.with_nodes_before-now.result c.or-pending.result (c.pending.invariant x c.requires.row.1 c.requires.row.2)
    (record {
      was = c.in-Some-take_first.ensures.first.member;
      less = c.take_first.new.self;
      taken = c.in-Some-take_first.ensures.left;
      more = c.and_not.result;
      new = c.and_not.ensures;
      stay = λ k is. (c.with_nodes_before-now.ensures k).1 (inl is);
      pending_is = c.or-pending.ensures;
    })
    tells in
    let none = c.is_empty.ensures.0 c.if-is_empty.true in
    found-all n c.args.case x c.args.cells.now c.requires.trees.graph c.requires.case c.requires.row.2
    c.with_nodes_before-now.result next.sound
    (λ v near. left-none (is_in c.finite-reached.result v) (is_in c.with_nodes_before-now.result v) (c.finite-reached.ensures v ∙ near) (sym (c.and_not-in-Some-take_first.ensures v) ∙ none v))
    c.requires.row.1

pub returns : goal.returns
returns c =
    found-over c.args.net.now c.args.case c.requires.row.0 c.args.cells.now c.requires.trees.graph c.requires.case c.requires.row.2
    c.pending.found c.pending.pending (c.pending.invariant c.requires.row.0 c.requires.row.1 c.requires.row.2) c.in_default-take_first.ensures.first c.requires.row.1
