use Rattle.std.proofs.Common.{◌≡◌, ◌<◌, arith, sym, subst, ap, ◌∙◌}
use Rattle.sr_model.specs.Graph.{Graph, node_count}
use Rattle.sr_spf.specs.Hops.{AreNextHops, hops_to}
use Rattle.sr_spf.specs.Trees.{AreTrees, hops_at}
use Rattle.sr_spf.proofs.trees.Trees.next_hops.Goals as goal

pub returns-clause-hops : goal.returns-clause-hops
returns-clause-hops c = λ (g : Graph) (t : AreTrees g c.args.self.now).
    let is : c.towards.result.now ≡ hops_at c.args.self.now c.args.from.0 c.args.to.0 = c.towards.ensures ∙ ap (λ t. hops_to t c.args.to.0) c.table.ensures.table in
    let from : c.args.from.0 < node_count g = omega (arith, t.long, c.requires.from) in
    let to : c.args.to.0 < node_count g = omega (arith, t.long, c.requires.to) in
    subst (λ ls. AreNextHops g c.args.from.0 c.args.to.0 ls) (sym is) (t.hops c.args.from.0 c.args.to.0 from to)
