use Rattle.std.proofs.lemmas.Result.{IfOk-weaker}
use Rattle.sr_spf.proofs.RenewedLemmas.{found-in_order}
use Rattle.sr_spf.proofs.renewed.found_rows.Goals as goal

pub returns : goal.returns
returns g c =
    IfOk-weaker c.made_of_each.result _ _
    (λ all zip. found-in_order c.args.graph.now c.args.renewal.now.stays.items all.items c.node_count.ensures.graph (rw (← c.node_count.ensures.count) zip))
    c.made_of_each.ensures
