use Rattle.std.proofs.Common.{◌<◌, ◌≤◌, [], ⊎_elim, length, arith, sym, subst}
use Rattle.std.proofs.lemmas.Bool.{cases_lt}
use Rattle.std.proofs.lemmas.List.{get_or_past}
use Rattle.sr_model.specs.Graph.{node_count}
use Rattle.sr_model.specs.Walk.{IsRow}
use Rattle.sr_encode.specs.Aftermath.{Aftermath, AreInside}
use Rattle.sr_encode.proofs.SceneLemmas.{add-up}
use Rattle.sr_encode.proofs.scene.Scene.fits.Goals as goal

-- the row is one of the net's graph
by : (c : goal.After-tight_among-arg-2-1) → IsRow c.self.inside.net.now.graph [] c.args.w.0 c.row-row.result.now
by c = subst (λ g. IsRow g [] c.args.w.0 c.row-row.result.now) c.self.invariant.0 c.row-row.ensures

within : (c : goal.After-tight_among-arg-2-1) → c.args.w.0 < node_count c.self.inside.net.now.graph
within c = subst (λ (a : Aftermath). c.args.w.0 < node_count a.net.graph) (sym c.self.view_is) c.requires.w

-- the nodes are the graph's
inside : (c : goal.After-tight_among-arg-2-1) → AreInside (record { net = c.self.inside.net.now; failed = c.self.inside.spaces.now.failed; source = c.self.inside.source.0; post = c.self.inside.cells.now }) c.args.among
inside c = subst (λ (a : Aftermath). AreInside a c.args.among) (sym c.self.view_is) c.requires.among

pub tight_among-requires-clause-lengths : goal.tight_among-requires-clause-lengths
tight_among-requires-clause-lengths c = (omega (arith, (by c).long, c.self.invariant.1.row.long), omega (arith, c.self.invariant.1.row.long, c.self.invariant.1.graph.few_nodes))

pub tight_among-requires-clause-among : goal.tight_among-requires-clause-among
tight_among-requires-clause-among c v one = let lt : v < node_count c.self.inside.net.now.graph = inside c v one in omega (arith, c.self.invariant.1.row.long)

pub tight_among-requires-clause-cost : goal.tight_among-requires-clause-cost
tight_among-requires-clause-cost c = (c.self.invariant.1.row.each c.args.w.0 (within c)).top

pub tight_among-requires-clause-base : goal.tight_among-requires-clause-base
tight_among-requires-clause-base c v =
    ⊎_elim
    (λ (lt : v < length c.row-row.result.now). ((by c).each v (omega (arith, (by c).long))).top)
    (λ (past : length c.row-row.result.now ≤ v). omega (arith, get_or_past c.row-row.result.now v 0 past))
    (cases_lt v (length c.row-row.result.now))

pub returns-clause-sums : goal.returns-clause-sums
returns-clause-sums c =
    rw (← c.self.view_is) (
    add-up (record { net = c.self.inside.net.now; failed = c.self.inside.spaces.now.failed; source = c.self.inside.source.0; post = c.self.inside.cells.now })
    c.args.w.0 c.row-row.result.now c.args.among c.tight_among.result c.self.invariant.1 (subst (λ g. IsRow g [] c.args.w.0 c.row-row.result.now) c.self.invariant.0 c.row-row.ensures)
    (subst (λ (a : Aftermath). AreInside a c.args.among) (sym c.self.view_is) c.requires.among) c.tight_among.ensures
    )
