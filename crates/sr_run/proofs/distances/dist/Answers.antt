use Rattle.std.proofs.Common.{refl}
use Rattle.sr_print.specs.Told.Told.{Distance}
use Rattle.sr_run.specs.Questions.{TellsDistance, IsRefused}
use Rattle.sr_run.proofs.NameLemmas.{has-ends}
use Rattle.sr_run.proofs.HandlerLemmas.{puts-of}
use Rattle.sr_run.proofs.distances.dist.Goals as goal

pub returns : goal.returns
returns c =
    let cost = c.distance.result in
    puts-of (TellsDistance c.args.ends.now) c.args.current.now c.in-Ok.found.now _ _ (Distance cost) c.in-Ok.ensures
    (has-ends (IsRefused (Distance cost)) c.in-Ok.found.now.net c.args.ends.now c.in-Ok-find_ends.found.from.0 c.in-Ok-find_ends.found.to.0 _ c.in-Ok-find_ends.ensures (cost, c.distance.ensures, refl))
    refl (λ number. c.in_ok-put_dist.ensures.line)
