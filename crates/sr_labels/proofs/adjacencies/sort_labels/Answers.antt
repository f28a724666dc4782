use Rattle.std.proofs.Common.{rules}
use Rattle.std.proofs.lemmas.List.Sorted.{answers_always}
use Rattle.sr_labels.proofs.Clashes.{sort_key, in_order-sorted}
use Rattle.sr_labels.proofs.adjacencies.sort_labels.Goals as goal

pub returns-clause-order : goal.returns-clause-order
returns-clause-order c = in_order-sorted _ (c.sort_unstable_by_key.ensures.sorted sort_key (answers_always _ _ _ (λ f a r f' k. search rules)))
