use Rattle.std.proofs.Common.{ℕ, [], refl, rules}
use Rattle.std.proofs.lemmas.List.Sorted.{answers_always}
use Rattle.sr_fib.specs.declared.sorted.IndexedNode.{IndexedNode}
use Rattle.sr_fib.specs.Sorted.{node_entry}
use Rattle.sr_fib.proofs.SortedLemmas.{found, missed}
use Rattle.sr_fib.proofs.sorted.node_of_index.Goals as goal

abbrev key : IndexedNode → ℕ
key entry = entry.index

pub returns-in-Ok : goal.returns-in-Ok
returns-in-Ok c =
    let at = c.in-Ok.ensures.position key (answers_always _ _ _ (λ f a r f' k. search rules)) in
    (c.in-Ok.place, c.in-Ok.ensures.bound, found key (node_entry [] 0) c.args.list.now c.requires c.args.index c.in-Ok.place at, refl)

pub returns-in-Err : goal.returns-in-Err
returns-in-Err c = missed key (node_entry [] 0) c.args.list.now c.requires c.args.index c.in-Err.field-0 (c.in-Err.ensures.position key (answers_always _ _ _ (λ f a r f' k. search rules)))
