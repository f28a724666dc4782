use Rattle.std.proofs.Common.{◌≡◌, ap, refl, subst, ◌∙◌}
use Rattle.sr_model.specs.Graph.{Graph}
use Rattle.sr_graph.specs.Ranges.{HoldsLinks}
use Rattle.sr_repair.specs.Spared.{Passage}
use Rattle.sr_repair.proofs.former.Former.renumbering.Goals as goal

pub returns : goal.returns
returns c =
    let old : c.graph.result.now ≡ c.args.self.now.old.graph = c.graph.ensures.value ∙ ap (λ n. n.graph) c.net.ensures.value ∙ ap (λ (p : Passage). p.old.graph) c.self.view_is in
    let new : c.graph-2.result.now ≡ c.args.self.now.new.graph = c.graph-2.ensures.value ∙ ap (λ (p : Passage). p.new.graph) c.self.view_is in
    record {
      numbers = record {
        links = c.requires.links;
        end = c.links_from.result.end;
        end' = c.links_from-2.result.end;
        before = subst (λ (g : Graph). HoldsLinks g c.args.node.0 c.links_from.result.first c.links_from.result.end) old c.links_from.ensures.links;
        after = subst (λ (g : Graph). HoldsLinks g c.args.node.0 c.links_from-2.result.first c.links_from-2.result.end) new c.links_from-2.ensures.links;
      };
      links = refl;
    }
