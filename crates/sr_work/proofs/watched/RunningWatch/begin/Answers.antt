use Rattle.std.proofs.Common.{[], ◌∷◌, refl, sym, ap, ◌∙◌, arith}
use Rattle.sr_repair.specs.Version.{NumberedNet}
use Rattle.sr_work.proofs.Publishing.{seats-placed}
use Rattle.sr_work.proofs.watched.RunningWatch.begin.Goals as goal

pub invariant_of-result : goal.invariant_of-result
invariant_of-result g c =
    let e1 = c.in_ok-first.ensures in
    let e2 = c.in_ok-shown.ensures in
    let e3 = c.in_ok-current.ensures in
    let made = c.in_ok-writer.ensures in
    let same = made.writer.0 ∙ ap (λ (v : NumberedNet). v ∷ []) (e2 ∙ sym e1) in (
      made.seats.1 ∙ sym c.len-given.ensures,
      record {
        inspect = _;
        readers = c.in_ok-writer.readers.items;
        started = rw (e1 ∙ sym e3) c.in-Ok.ensures.started;
        placed = seats-placed c.in_ok-writer.writer.list _ c.in_ok-writer.readers.items same made.readers;
        seats = made.seats.0;
        given_is = omega (arith, c.in_ok-writer.readers.ok, c.len-given.ensures);
        versions = refl;
        begins = ([], sym same);
        numbers = rw same (refl, tt);
        few = c.requires.few.2;
      },
    )
