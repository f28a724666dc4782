use Rattle.std.proofs.Common.{arith, subst}
use Rattle.sr_model.specs.Graph.{Graph}
use Rattle.sr_lsp.specs.Parts.{part_of}
use Rattle.sr_account.specs.Filling.{IsPut}
use Rattle.sr_account.proofs.SourceLaw.{filled-less, filled-more, filled-none}
use Rattle.sr_account.proofs.sources.fill_from.Goals as goal

pub loop-at-init : goal.loop-at-init
loop-at-init c = filled-none c.args.facts.now c.args.net.now c.args.id.now c.args.sources.now

pub loop-at-preserved : goal.loop-at-preserved
loop-at-preserved c =
    let facts = c.args.facts.now in
    let id = c.args.id.now in
    let old = c.loop-at.sources in
    let new = c.put.new.sources in
    filled-more facts c.args.net.now c.requires.net c.requires.order id c.args.parts.now c.requires.parts c.loop-at.at (part_of c.at.result) c.args.sources.now old new (omega arith) c.at.ensures c.loop-at.invariant
    (subst (λ (g : Graph). IsPut facts g id.system (part_of c.at.result) old new) c.graph-graph.ensures.value c.put.ensures)

pub returns : goal.returns
returns c = filled-less c.args.facts.now c.args.net.now c.args.id.now _ c.loop-at.at c.args.sources.now c.loop-at.sources (omega arith) c.loop-at.invariant
