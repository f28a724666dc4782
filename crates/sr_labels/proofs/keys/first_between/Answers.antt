use Rattle.std.proofs.Common.{rules, arith}
use Rattle.std.proofs.lemmas.List.Sorted.{IsPartitionPoint-from_clause}
use Rattle.sr_labels.specs.Keys.{is_before}
use Rattle.sr_labels.proofs.KeyPlaces.{partitioned}
use Rattle.sr_labels.proofs.keys.first_between.Goals as goal

pub returns-clause-before : goal.returns-clause-before
returns-clause-before c k d lt = (IsPartitionPoint-from_clause (is_before c.args.from c.args.to) c.args.keys.now c.partition_point.result c.partition_point.ensures.partitioned (partitioned c.args.keys.now c.args.from c.args.to c.requires) (λ a r f' t. search rules)).0 k d (omega arith) lt

pub returns-clause-after : goal.returns-clause-after
returns-clause-after c k d le lt = (IsPartitionPoint-from_clause (is_before c.args.from c.args.to) c.args.keys.now c.partition_point.result c.partition_point.ensures.partitioned (partitioned c.args.keys.now c.args.from c.args.to c.requires) (λ a r f' t. search rules)).1 k d le lt
