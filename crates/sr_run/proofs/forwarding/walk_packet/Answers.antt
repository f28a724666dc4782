use Rattle.std.proofs.Common.{◌≡◌, true, inr, rules}
use Rattle.std.specs.Prelude.{is_some}
use Rattle.sr_model.specs.Label.{labels_at}
use Rattle.sr_run.specs.Questions.{IsRefused, TellsWalk, TellsWalkOf, TellsWalkTo}
use Rattle.sr_run.proofs.NameLemmas.{has-ends}
use Rattle.sr_run.proofs.HandlerLemmas.{carries-weaker, told-of}
use Rattle.sr_run.proofs.forwarding.walk_packet.Goals as goal

pub returns : goal.returns
returns c =
    let net = c.in-Ok.found.now.net in
    let from = c.in-Ok-find_ends.found.from.0 in
    let to = c.in-Ok-find_ends.found.to.0 in
    let some : is_some (labels_at net to).index ≡ true = search rules in
    carries-weaker (TellsWalkOf net from to c.args.choice) _ _ _ _
    (λ told is. told-of (TellsWalk c.args.ends.now c.args.choice) c.args.current.now c.in-Ok.found.now told c.in-Ok.ensures
    (has-ends (IsRefused told) net c.args.ends.now from to (λ u v. TellsWalkTo net c.args.ends.now.to u v c.args.choice told) c.in-Ok-find_ends.ensures (inr (some, is))))
    c.put_walk_of.ensures
