use Rattle.std.proofs.Common.{◌≡◌, ◌↔◌, ℕ, length, true, arith, ap, IsTrue}
use Rattle.sr_model.specs.Graph.{node_count, link_at, IsLink}
use Rattle.sr_model.specs.Label.{Net}
use Rattle.sr_model.specs.Case.{source_of}
use Rattle.sr_model.specs.Stay.{HasSameDepth, IsKeptTree}
use Rattle.sr_lanes.specs.Bits.{is_in}
use Rattle.sr_delta.specs.Idle.{AreIdleOrFailed}
use Rattle.sr_delta.specs.Cases.{IsComputed}
use Rattle.sr_delta.proofs.CaseLemmas.{cells-long}
use Rattle.sr_delta.proofs.cases.is_kept_here.Goals as goal

pub are_idle_or_failed-requires-clause-within : goal.are_idle_or_failed-requires-clause-within
are_idle_or_failed-requires-clause-within c = λ k lt.
    let ends = c.links.ensures.within k lt in
    let long : length c.args.old.now.cells ≡ node_count c.args.old.now.net.graph = cells-long c.args.old.now c.cells.ensures.computed in
    let there : length c.cells.result.now ≡ length c.args.old.now.cells = ap length c.cells.ensures.cells in
    (omega (arith, ends.0, long, there, c.requires), omega (arith, ends.1, long, there, c.requires))

pub returns-then-not-are_idle_or_failed : goal.returns-then-not-are_idle_or_failed
returns-then-not-are_idle_or_failed c = λ m changes same stay.
    let idle : IsTrue c.are_idle_or_failed.result ↔ AreIdleOrFailed c.args.old.now.net.graph c.args.old.now.case c.args.old.now.cells c.args.changes.now.links =
    rw (c.graph-2.ensures.graph, c.case-case.ensures.case, c.cells.ensures.cells, c.links.ensures.links) at c.are_idle_or_failed.ensures in (
      λ is. absurd (cc),
      λ kept. let this = idle.1 kept.idle in let not = c.if-not-are_idle_or_failed.true in cc,
    )

pub returns : goal.returns
returns c = λ m changes same stay.
    let n : Net = c.args.old.now.net in
    let s : ℕ = source_of n.graph c.args.old.now.case in
    let at : c.edge-source.result.from.0 ≡ s = rw (c.graph.ensures.graph, c.case-case.ensures.case) at c.edge-source.ensures.from in
    let all : IsComputed c.args.old.now = c.graph.ensures.computed in
    let ends : IsLink n.graph (link_at n.graph c.args.old.now.case.link.0) = all.trees.graph.each c.args.old.now.case.link.0 all.within in
    let set : c.has.result ≡ is_in c.args.changes.now.alike.depths s = rw (at, c.depths_alike.ensures) at c.has.ensures in
    let deep : is_in c.args.changes.now.alike.depths s ≡ true = (let has = c.if-not-has.false in cc) in
    let depth : HasSameDepth n m s = ((changes.alike same).depths.each s ends.0).0 deep in
    let there : c.has-2.result ≡ is_in c.args.staying.now.trees s = rw at at c.has-2.ensures in
    let given : is_in c.args.staying.now.trees s ≡ true = (let test = c.if-not-has-2.false in cc) in
    let tree : IsKeptTree n.graph m.graph s = (stay.trees.each s ends.0).0 given in
    let idle : IsTrue c.are_idle_or_failed.result ↔ AreIdleOrFailed n.graph c.args.old.now.case c.args.old.now.cells c.args.changes.now.links =
    rw (c.graph-2.ensures.graph, c.case-case.ensures.case, c.cells.ensures.cells, c.links.ensures.links) at c.are_idle_or_failed.ensures in (
      λ is. record {
        depth = depth;
        tree = tree;
        idle = idle.0 (let stays = c.if-not-are_idle_or_failed.false in cc);
        index = (c.are_ends_alike.ensures m changes same).0 is;
      },
      λ kept. (c.are_ends_alike.ensures m changes same).1 kept.index,
    )
