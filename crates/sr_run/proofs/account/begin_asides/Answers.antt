use Rattle.std.proofs.Common.{Option, IfSome, subst, sym}
use Rattle.sr_domain.specs.Net.{IsNetOf}
use Rattle.sr_repair.specs.Version.{NumberedNet}
use Rattle.sr_run.specs.Handlers.{AwaitsAsides}
use Rattle.sr_run.proofs.account.begin_asides.Goals as goal

pub returns : goal.returns
returns c =
    let facts = c.args.facts.now in
    let net = c.in-Ok.found.now.net in
    let counted = c.in_ok-count.ensures in
    let is = subst (λ (o : Option NumberedNet). IfSome o (λ (v : NumberedNet). IsNetOf facts v.net)) c.in-Ok.ensures c.requires.net in
    subst (λ (o : Option NumberedNet). AwaitsAsides facts o c.in_ok-count.count) (sym c.in-Ok.ensures)
    (counted.0, counted.1, c.nothing_is_lost.ensures facts net counted.0 c.are_in_order.ensures c.requires.range is counted.1, counted.2)
