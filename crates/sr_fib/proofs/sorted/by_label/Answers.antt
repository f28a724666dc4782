use Rattle.std.proofs.Common.{ℕ, [], rules}
use Rattle.std.proofs.lemmas.List.Sorted.{IsNonDecreasingBy-from_sort_by_key}
use Rattle.sr_fib.specs.declared.sorted.LabelledLink.{LabelledLink}
use Rattle.sr_fib.specs.Sorted.{link_entry}
use Rattle.sr_fib.proofs.SortedLemmas.{own-rise}
use Rattle.sr_fib.proofs.sorted.by_label.Goals as goal

abbrev key : LabelledLink → ℕ
key entry = entry.label

pub returns-clause-order : goal.returns-clause-order
returns-clause-order c =
    own-rise key (link_entry [] 0) c.args.list.items c.sort_unstable_by_key.new.self.items c.requires c.sort_unstable_by_key.ensures.permutation
    (IsNonDecreasingBy-from_sort_by_key key _ c.sort_unstable_by_key.ensures.sorted (λ a r f' k. search rules))
