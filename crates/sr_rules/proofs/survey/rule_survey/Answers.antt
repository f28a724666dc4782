use Rattle.std.proofs.Common.{◌≡◌, ℕ, List, map, length, ap, sym, ◌∙◌, subst}
use Rattle.std.specs.Prelude.{All}
use Rattle.std.specs.List.{filter_map}
use Rattle.std.specs.List.Sorted.{IsPermutation, IsSortedByKey}
use Rattle.std.specs.Vec.{with_items}
use Rattle.std.proofs.lemmas.List.{with_items_is}
use Rattle.std.proofs.lemmas.List.Sorted.{length_permutation}
use Rattle.sr_model.specs.declared.label.AdjLabel.{AdjLabel}
use Rattle.sr_model.specs.KeyOrder.{key_cmp}
use Rattle.sr_labels.specs.Rules.{AreOfNodes}
use Rattle.sr_domain.specs.declared.links.FoundLink.{FoundLink}
use Rattle.sr_domain.specs.Nodes.{ranges_of}
use Rattle.sr_domain.specs.Links.{JoinsNodes, adj_label_by, found_adj_labels, link_key, links_of}
use Rattle.sr_labels.proofs.Clashes.{nodes-moved}
use Rattle.sr_rules.proofs.survey.rule_survey.Goals as goal

pub adj_labels-requires-clause-ends : goal.adj_labels-requires-clause-ends
adj_labels-requires-clause-ends c =
    subst (λ (ns : List ℕ). All (JoinsNodes ns) c.deref-2.result.now) (sym c.deref.ensures.value)
    (subst (λ (ls : List FoundLink). All (JoinsNodes c.in_ok-nodes.field-0.nodes.items) ls) (sym c.deref-2.ensures.value) c.in_ok-nodes.ensures.ends)

pub returns : goal.returns
returns c =
    let facts = c.args.facts.now in
    let nodes = c.in_ok-nodes.field-0.nodes.items in
    let adj = c.in_ok-adj_labels.field-0.items in
    let found = c.deref_mut.result.now in
    let sorted = c.sort_links.new.links in
    let are : adj ≡ found_adj_labels facts =
    c.in_ok-adj_labels.ensures.labels ∙ ap (filter_map (adj_label_by c.deref.result.now)) (c.deref-2.ensures.value ∙ c.in_ok-nodes.ensures.links)
    ∙ ap (λ (ns : List ℕ). filter_map (adj_label_by ns) (links_of facts)) (c.deref.ensures.value ∙ c.in_ok-nodes.ensures.nodes) in
    let same : (with_items c.in_ok-nodes.field-0.links sorted).items ≡ sorted = with_items_is c.in_ok-nodes.field-0.links sorted (length_permutation found sorted c.sort_links.ensures.same ∙ c.deref_mut.ensures.len) in
    record {
      nodes = c.in_ok-nodes.ensures.nodes;
      ascending = c.in_ok-nodes.ensures.ascending;
      ranges = c.in_ok-ranges.ensures ∙ ap (map (ranges_of facts)) (c.deref-3.ensures.value ∙ c.in_ok-nodes.ensures.nodes);
      labels = subst (λ (l : List AdjLabel). IsPermutation l c.sort_labels-adj.result.items) are c.sort_labels-adj.ensures.same;
      within = nodes-moved (length nodes) adj c.sort_labels-adj.result.items c.sort_labels-adj.ensures.same
          (subst (λ (ns : List ℕ). AreOfNodes (length ns) adj) c.deref.ensures.value c.in_ok-adj_labels.ensures.nodes);
      order = c.sort_labels-adj.ensures.order;
      links = subst (λ (l : List FoundLink). IsPermutation (links_of facts) l) (sym same)
          (subst (λ (l : List FoundLink). IsPermutation l sorted) (c.deref_mut.ensures.value ∙ c.in_ok-nodes.ensures.links) c.sort_links.ensures.same);
      sorted = subst (λ (l : List FoundLink). IsSortedByKey link_key key_cmp l) (sym same) c.sort_links.ensures.ascending;
    }
