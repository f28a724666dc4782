use Rattle.std.proofs.Common.{◌≡◌, ◌+◌, [], ◌∷◌, ◌++◌, ap, ◌∙◌}
use Rattle.std.proofs.lemmas.List.{get_or_default}
use Rattle.sr_encode.specs.declared.waypoint.Waypoint.{Waypoint}
use Rattle.sr_encode.specs.Waypoints.{no_waypoint, waypoint_at}
use Rattle.sr_encode.proofs.met.Met.meet.Goals as goal

pub returns : goal.returns
returns c =
    let same : c.index-from.result.now ≡ waypoint_at c.args.self.now.queue.items c.args.i =
    c.index-from.ensures ∙ get_or_default c.args.self.now.queue.items c.args.i c.index-from.result.now no_waypoint c.requires.room.place in
    record {
      queue = c.in_ok-push.ensures.items
          ∙ ap (λ (t : Waypoint). c.args.self.now.queue.items ++ (record { node = c.args.v; first = t.first; depth = t.depth + 1; parent = c.args.i; segment = c.args.segment }) ∷ []) same;
      unmet = c.without-self.ensures;
    }
