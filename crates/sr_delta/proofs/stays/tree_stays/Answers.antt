use Rattle.std.proofs.Common.{◌≡◌, ◌↔◌, true, arith, sym, ◌∙◌, IsTrue}
use Rattle.sr_spf.specs.Trees.{Forest, row_at}
use Rattle.sr_delta.specs.Changes.{Differences}
use Rattle.sr_delta.specs.Idle.{AreAllIdle}
use Rattle.sr_delta.proofs.IdleLemmas.{all-kept, kept-all}
use Rattle.sr_delta.proofs.stays.tree_stays.Goals as goal

pub are_all_idle-requires : goal.are_all_idle-requires
are_all_idle-requires c = λ k lt.
    let ends = c.links.ensures.within k lt in
    (omega (arith, ends.0, c.cells.ensures.long, c.requires.nodes), omega (arith, ends.1, c.cells.ensures.long, c.requires.nodes))

pub returns-then-same_nodes : goal.returns-then-same_nodes
returns-then-same_nodes c = λ n m changes trees.
    let d : Differences = c.args.changes.now in
    let t : Forest = c.args.old.now in
    let same : d.same ≡ true = sym c.same_nodes.ensures ∙ c.if-same_nodes.true in
    let idle : IsTrue c.are_all_idle.result ↔ AreAllIdle (row_at t.rows c.args.u.0) d.links = rw (c.cells.ensures.cells, c.links.ensures.links) at c.are_all_idle.ensures in
    (λ is. all-kept n m d t c.args.u.0 changes trees c.requires.u same (idle.0 is), λ kept. idle.1 (kept-all n m d t c.args.u.0 changes trees c.requires.u kept).1)
