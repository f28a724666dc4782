use Rattle.std.proofs.Common.{ℕ, ◌≡◌, List, subst, sym, ap, ◌∙◌}
use Rattle.std.specs.List.{filter_map}
use Rattle.std.specs.List.Sorted.{IsStrictlyIncreasing}
use Rattle.std.proofs.lemmas.Map.Keys.{IsStrictlyIncreasing-from_sorted}
use Rattle.sr_domain.specs.Nodes.{node_by}
use Rattle.sr_domain.proofs.NodesLemmas.{nodes-ascend}
use Rattle.sr_domain.proofs.nodes.node_list.Goals as goal

pub returns-clause-ascending : goal.returns-clause-ascending
returns-clause-ascending c =
    let sorted : IsStrictlyIncreasing (filter_map node_by c.as_map.result.now.entries) = IsStrictlyIncreasing-from_sorted (filter_map node_by c.as_map.result.now.entries) (nodes-ascend c.as_map.result.now.entries c.len-count.ensures.ordered) in
    let same : filter_map node_by c.as_map.result.now.entries ≡ c.in_ok-out.out.items = ap (filter_map node_by) c.as_map.ensures.entries ∙ sym c.in_ok-out.ensures in
    subst (λ (nodes : List ℕ). IsStrictlyIncreasing nodes) same sorted
