use Rattle.std.proofs.Common.{rules}
use Rattle.std.proofs.lemmas.List.Sorted.{IsPartitionPoint-from_clause}
use Rattle.sr_graph.proofs.NumbersLemmas.{is_below, partitioned, only-at}
use Rattle.sr_graph.proofs.numbers.place_of.Goals as goal

pub returns : goal.returns
returns c =
    only-at c.args.links.now c.args.key.now c.requires c.partition_point.result
    (IsPartitionPoint-from_clause (is_below c.args.key.now) c.args.links.now c.partition_point.result c.partition_point.ensures.partitioned (partitioned c.args.links.now c.args.key.now c.requires) (λ a r f' t. search rules))
