use Rattle.std.proofs.Common.{sym, ◌∙◌}
use Rattle.sr_diff.proofs.ThereLemmas.{lost-told}
use Rattle.sr_diff.proofs.lost.is_lost.Goals as goal

pub returns : goal.returns
returns c =
    lost-told c.args.net.now c.args.other.now.net c.args.item.now c.in_ok-found.found c.is_none.result
    (sym c.is_repair.ensures ∙ c.if-not-is_repair.false)
    c.is_none.ensures
    c.in_ok-found.ensures
