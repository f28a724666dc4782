use Rattle.std.proofs.Common.{◌≡◌, ◌∙◌, ◌≤◌, List, ℕ, length, subst, sym}
use Rattle.std.specs.Prelude.{All}
use Rattle.std.specs.List.Sorted.{IsPermutation, IsSortedByKey}
use Rattle.std.proofs.lemmas.List.{with_items_is}
use Rattle.std.proofs.lemmas.List.Sorted.{All-permutation, length_permutation}
use Rattle.sr_model.specs.KeyOrder.{key_cmp}
use Rattle.sr_model.specs.declared.link.TheConstants.{MOST_LINKS}
use Rattle.sr_domain.specs.declared.links.FoundLink.{FoundLink}
use Rattle.sr_domain.specs.Announced.{announcements_of}
use Rattle.sr_domain.specs.Groups.{notes_of}
use Rattle.sr_domain.specs.GroupTables.{GivesGroups, groups_in}
use Rattle.sr_domain.specs.Links.{JoinsNodes, KeysAscend, link_key, links_of}
use Rattle.sr_domain.specs.Nodes.{nodes_of}
use Rattle.sr_domain.specs.Steps.{IsBelowMaximum, IsGraphOf}
use Rattle.sr_domain.proofs.net.net_with.Goals as goal

pub graph_of-requires : goal.graph_of-requires
graph_of-requires c =
    let facts = c.args.facts.now in
    let nodes = c.args.gathered.nodes.items in
    let found = c.deref_mut.result.now in
    let sorted = c.sort_links.new.links in
    let same : c.deref-3.result.now ≡ sorted = c.deref-3.ensures.value ∙ with_items_is c.args.gathered.links sorted (length_permutation found sorted c.sort_links.ensures.same ∙ c.deref_mut.ensures.len) in
    record {
      nodes = c.requires.gathered.nodes;
      ascending = c.requires.gathered.ascending;
      same = subst (λ (l : List FoundLink). IsPermutation (links_of facts) l) (sym same)
          (subst (λ (l : List FoundLink). IsPermutation l sorted) (c.deref_mut.ensures.value ∙ c.requires.gathered.links) c.sort_links.ensures.same);
      sorted = subst (λ (l : List FoundLink). IsSortedByKey link_key key_cmp l) (sym same) c.sort_links.ensures.ascending;
      ends = subst (λ (l : List FoundLink). All (JoinsNodes nodes) l) (sym same)
          (All-permutation (JoinsNodes nodes) found sorted c.sort_links.ensures.same
          (subst (λ (l : List FoundLink). All (JoinsNodes nodes) l) (sym c.deref_mut.ensures.value) c.requires.gathered.ends));
      metrics = subst (λ (l : List FoundLink). All IsBelowMaximum l) (sym same)
          (All-permutation IsBelowMaximum found sorted c.sort_links.ensures.same
          (subst (λ (l : List FoundLink). All IsBelowMaximum l) (sym c.deref_mut.ensures.value) c.requires.gathered.metrics));
      table = c.in_ok-table.ensures.order;
      groups = subst (λ (l : List FoundLink). length l ≤ MOST_LINKS → KeysAscend l → GivesGroups (groups_in c.in_ok-table.table) (announcements_of facts) (notes_of facts))
          (c.deref-2.ensures.value ∙ sym c.deref-3.ensures.value) c.in_ok-table.ensures.groups;
      kept = c.requires.kept;
    }

pub assemble-requires-clause-parts : goal.assemble-requires-clause-parts
assemble-requires-clause-parts c =
    let facts = c.args.facts.now in
    let found = c.deref_mut.result.now in
    let sorted = c.sort_links.new.links in
    let same : c.deref-4.result.now ≡ sorted = c.deref-4.ensures.value ∙ with_items_is c.args.gathered.links sorted (length_permutation found sorted c.sort_links.ensures.same ∙ c.deref_mut.ensures.len) in
    record {
      depth = c.requires.depth;
      graph = subst (λ (l : List FoundLink). IsGraphOf facts (nodes_of facts) l c.in_ok-graph.graph) (c.deref-3.ensures.value ∙ sym c.deref-4.ensures.value)
          (subst (λ (ns : List ℕ). IsGraphOf facts ns c.deref-3.result.now c.in_ok-graph.graph) c.requires.gathered.nodes c.in_ok-graph.ensures.graph);
      labels = c.requires.labels;
      ranges = c.requires.ranges;
      same = subst (λ (l : List FoundLink). IsPermutation (links_of facts) l) (sym same)
          (subst (λ (l : List FoundLink). IsPermutation l sorted) (c.deref_mut.ensures.value ∙ c.requires.gathered.links) c.sort_links.ensures.same);
      kept = c.in_ok-graph.ensures.kept;
    }
