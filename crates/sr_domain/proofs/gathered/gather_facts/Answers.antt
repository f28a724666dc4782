use Rattle.std.proofs.Common.{◌≡◌, ap, ◌∙◌, sym, subst, ℕ, List}
use Rattle.std.specs.Prelude.{All}
use Rattle.std.specs.List.{filter_map}
use Rattle.sr_domain.specs.declared.links.FoundLink.{FoundLink}
use Rattle.sr_domain.specs.Announced.{two_way, two_way_of}
use Rattle.sr_domain.specs.Nodes.{nodes_of}
use Rattle.sr_domain.specs.Links.{links_of, link_by, JoinsNodes}
use Rattle.sr_domain.specs.Steps.{IsBelowMaximum}
use Rattle.sr_domain.proofs.GatheredLemmas.{links-ends, links-below}
use Rattle.sr_domain.proofs.gathered.gather_facts.Goals as goal

pub returns : goal.returns
returns c =
    let two : c.in_ok-two_way.two_way.items ≡ two_way_of c.args.facts.now = c.in_ok-two_way.ensures ∙ ap two_way (c.deref.ensures.value ∙ c.in_ok-announced.ensures) in
    let links : c.in_ok-links.links.items ≡ links_of c.args.facts.now = c.in_ok-links.ensures ∙ ap (filter_map (link_by c.args.facts.now)) (c.deref-2.ensures.value ∙ two) in
    let nodes : c.in_ok-nodes.nodes.items ≡ nodes_of c.args.facts.now = c.in_ok-nodes.ensures.nodes in
    record {
      announced = c.in_ok-announced.ensures;
      two_way = two;
      nodes = nodes;
      ascending = c.in_ok-nodes.ensures.ascending;
      links = links;
      ends = subst (λ (ns : List ℕ). All (JoinsNodes ns) c.in_ok-links.links.items) (sym nodes) (subst (λ (ls : List FoundLink). All (JoinsNodes (nodes_of c.args.facts.now)) ls) (sym links) (links-ends c.args.facts.now c.requires));
      metrics = subst (λ (ls : List FoundLink). All IsBelowMaximum ls) (sym links) (links-below c.args.facts.now c.requires);
    }
