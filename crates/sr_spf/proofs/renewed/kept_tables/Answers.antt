use Rattle.std.specs.List.{AllZip, range_with_len}
use Rattle.std.proofs.lemmas.Result.{IfOk-weaker}
use Rattle.sr_model.specs.Graph.{node_count}
use Rattle.sr_spf.specs.Renewed.{IsFoundTable}
use Rattle.sr_spf.proofs.RenewedLemmas.{tables-few, tables-renewed}
use Rattle.sr_spf.proofs.renewed.kept_tables.Goals as goal

pub renewed-requires : goal.renewed-requires
renewed-requires g c =
    let zip : AllZip (IsFoundTable c.args.graph.now c.args.renewal.now.stays.items) (range_with_len 0 (node_count c.args.graph.now)) c.in_ok-tables.tables.items = rw (← c.node_count.ensures.count) c.in_ok-tables.ensures in
    tables-few c.args.graph.now c.args.old.now c.args.renewal.now.stays.items (λ t. t) c.in_ok-tables.tables.items c.requires.old zip

pub returns : goal.returns
returns g c =
    let zip : AllZip (IsFoundTable c.args.graph.now c.args.renewal.now.stays.items) (range_with_len 0 (node_count c.args.graph.now)) c.in_ok-tables.tables.items = rw (← c.node_count.ensures.count) c.in_ok-tables.ensures in
    IfOk-weaker c.renewed.result _ _
    (λ hops made. tables-renewed c.args.graph.now c.args.old.now c.args.renewal.now.stays.items c.in_ok-tables.tables.items hops c.requires.old zip made)
    c.renewed.ensures
