use Rattle.std.proofs.Common.{◌<◌, sym, subst}
use Rattle.sr_model.specs.Graph.{node_count}
use Rattle.sr_model.specs.Label.{Net}
use Rattle.sr_model.specs.Table.{IsLookup, HasNoStep}
use Rattle.sr_fib.specs.Entries.{found_of}
use Rattle.sr_fib.specs.Tables.{AreAdjacencies, links_by_label_at}
use Rattle.sr_fib.proofs.LookLemmas.{nothing-no_step}
use Rattle.sr_fib.proofs.fib.Fib.look.Goals as goal

pub returns-in-Some : goal.returns-in-Some
returns-in-Some c n r are =
    let P : Net → Type 0 = λ k. IsLookup k c.args.node.0 c.args.label (found_of c.towards.result) in
    let end = c.in-Some.ensures in
    subst P are (c.towards.ensures c.args.label (c.in-Some.end.index, end.0.within, end.0.index, end.1))

pub returns-in-None-link : goal.returns-in-None-link
returns-in-None-link c n r are =
    let W : Net → Type 0 = λ k. c.args.node.0 < node_count k.graph in
    let A : Net → Type 0 = λ k. AreAdjacencies k c.args.node.0 (links_by_label_at c.self.inside.sids.now.links c.args.node.0) in
    let P : Net → Type 0 = λ k. HasNoStep k c.args.node.0 c.args.label in
    let within : c.args.node.0 < node_count c.self.inside.net.now.graph = subst W (sym c.self.view_is) c.requires in
    let links = subst A c.self.view_is (c.self.invariant.sids.links.each c.args.node.0 within) in
    subst P are (nothing-no_step c.args.self.now c.args.node.0 c.args.label (links_by_label_at c.self.inside.sids.now.links c.args.node.0) links c.if-label-eq0.false c.in-None.ensures c.in-None-link.ensures)
