use Rattle.std.proofs.Common.{refl}
use Rattle.sr_print.specs.Told.Told.{NextHops}
use Rattle.sr_run.specs.Questions.{TellsNextHops, IsRefused}
use Rattle.sr_run.proofs.NameLemmas.{has-ends}
use Rattle.sr_run.proofs.HandlerLemmas.{puts-of}
use Rattle.sr_run.proofs.distances.next.Goals as goal

pub returns : goal.returns
returns c =
    let net = c.in-Ok.found.now.net in
    let hops = c.next_hops.result.now in
    puts-of (TellsNextHops c.args.ends.now) c.args.current.now c.in-Ok.found.now _ _ (NextHops net hops) c.in-Ok.ensures
    (has-ends (IsRefused (NextHops net hops)) net c.args.ends.now c.in-Ok-find_ends.found.from.0 c.in-Ok-find_ends.found.to.0 _ c.in-Ok-find_ends.ensures (hops, c.next_hops.ensures.hops, refl))
    refl (λ number. rw c.net.ensures.value at c.in_ok-put_next.ensures.line)
