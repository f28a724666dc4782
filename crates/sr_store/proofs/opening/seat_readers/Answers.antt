use Rattle.std.proofs.Common.{ap, ◌∙◌, arith}
use Rattle.std.proofs.lemmas.List.Elements.{All-push}
use Rattle.sr_store.specs.Seats.{IsSeat}
use Rattle.sr_store.proofs.Seating.{seats-push}
use Rattle.sr_store.proofs.opening.seat_readers.Goals as goal

pub loop-number-preserved : goal.loop-number-preserved
loop-number-preserved g c =
    let was = c.loop-number.invariant in
    let kept = c.in_ok-reader.ensures.kept in
    let made = rw (c.in-Some.is, was.list) at c.in_ok-reader.ensures.reader in
    let pushed = c.push_reserved.ensures in
    let before = c.loop-number.readers.items in
    let list = c.args.writer.now.list in
    record {
      list = kept.0 ∙ was.list;
      stuck = kept.1 ∙ was.stuck;
      readers = rw pushed.items (All-push (IsSeat list) before c.in-Some.reader was.readers made.0);
      seats = rw pushed.items (seats-push list.store 0 before c.in-Some.reader was.seats (ap (λ h. h.store) made.0.0) (omega (arith, made.1, was.count, c.loop-number.readers.ok)));
      count = omega (arith, pushed.len, was.count);
      room = omega (arith, pushed.capacity, was.room);
      places = omega (arith, c.loop-number-test.true);
    }
