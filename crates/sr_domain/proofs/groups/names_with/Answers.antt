use Rattle.std.proofs.Common.{rules}
use Rattle.std.proofs.lemmas.List.Sorted.{IsPartitionPoint-from_clause}
use Rattle.std.specs.Ordering.{is_le, is_lt}
use Rattle.sr_lsdb.specs.Order.{pair_cmp}
use Rattle.sr_lsdb.proofs.OrderLemmas.{pair_total}
use Rattle.sr_domain.specs.declared.names.PairName.{PairName}
use Rattle.sr_domain.proofs.RunsLemmas.{partitioned-le, partitioned-lt, partitioned-rest, run-of}
use Rattle.sr_domain.proofs.GroupsLemmas.{pairs-in_order}
use Rattle.sr_domain.proofs.groups.names_with.Goals as goal

pub returns : goal.returns
returns c =
    let names = c.args.names.now in
    let pair = c.args.pair.now in
    let low = c.partition_point-start.result in
    let up = pairs-in_order names c.requires in
    let key = λ (n : PairName). n.pair in
    let isnt_past = λ (n : PairName). is_le (pair_cmp n.pair pair) in
    run-of pair_total key names pair low c.partition_point-count.result
    (IsPartitionPoint-from_clause (λ (n : PairName). is_lt (pair_cmp n.pair pair)) names low c.partition_point-start.ensures.partitioned (partitioned-lt pair_total key names pair up) (λ a r f' k. search rules))
    (IsPartitionPoint-from_clause isnt_past _ c.partition_point-count.result c.partition_point-count.ensures.partitioned
    (partitioned-rest isnt_past names low (partitioned-le pair_total key names pair up)) (λ a r f' k. search rules))
