use Rattle.std.proofs.Common.{ap, ◌∙◌}
use Rattle.sr_store.proofs.Keeping.{turns_to}
use Rattle.sr_store.proofs.side.show_next.Goals as goal

pub publish_as-requires : goal.publish_as-requires
publish_as-requires g c next is views h at =
    let side = c.append.new.self in
    let desk = c.in-Ok-append.ensures.desk in
    let same = (rw (desk, c.in-Ok-append.ensures.pending, c.requires.idle) at is) ∙ c.in-Ok.ensures in
    turns_to side.desk.shown.value c.args.side.desk.shown.value next c.args.next.now views side.desk.place.id _
    (ap (λ d. d.shown.value) desk) same c.requires.store h at
