use Rattle.std.proofs.Common.{ℕ, ◌≡◌, sym, rules}
use Rattle.std.proofs.lemmas.Cmp.{ranked}
use Rattle.std.proofs.lemmas.List.Sorted.{answers_always}
use Rattle.sr_encode.specs.declared.waypoint.Waypoint.{Waypoint}
use Rattle.sr_encode.specs.Waypoints.{no_waypoint, waypoint_at}
use Rattle.sr_encode.proofs.served.place_over.Goals as goal

abbrev key : Waypoint → ℕ
key waypoint = waypoint.first.0

pub returns : goal.returns
returns c =
    let at = c.in-Ok.ensures.position key (answers_always _ _ _ (λ f a r f' k. search rules)) in
    let first : (waypoint_at c.args.queue.now c.in-Ok.place).first.0 ≡ c.args.link.0 = ranked _ c.args.link.0 _ (sym (at no_waypoint)) in
    (c.in-Ok.ensures.bound, first, c.if-queue-place-ne0.false)
