use Rattle.std.proofs.Common.{List, length, subst}
use Rattle.std.specs.List.Sorted.{IsPermutation}
use Rattle.sr_model.specs.declared.label.AdjLabel.{AdjLabel}
use Rattle.sr_labels.proofs.Clashes.{nodes-moved, found-moved}
use Rattle.sr_labels.proofs.adjacencies.first_adj_clash.Goals as goal

pub first_in_order-requires-clause-nodes : goal.first_in_order-requires-clause-nodes
first_in_order-requires-clause-nodes c = rw c.deref.ensures.value (nodes-moved (length c.args.nodes.now) c.args.adj.now c.sort_labels-list.result.items (subst (λ (l : List AdjLabel). IsPermutation l c.sort_labels-list.result.items) (c.in_ok-copy.ensures.items_if_clones_equal (λ x y e. e)) c.sort_labels-list.ensures.same) c.requires)

pub returns : goal.returns
returns c = found-moved c.args.nodes.now c.args.adj.now c.sort_labels-list.result.items c.first_in_order.result (subst (λ (l : List AdjLabel). IsPermutation l c.sort_labels-list.result.items) (c.in_ok-copy.ensures.items_if_clones_equal (λ x y e. e)) c.sort_labels-list.ensures.same) (rw c.deref.ensures.value at c.first_in_order.ensures)
