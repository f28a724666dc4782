use Rattle.std.proofs.Common.{arith, ap, sym}
use Rattle.std.proofs.lemmas.List.{at_drop_more, at_drop_all}
use Rattle.sr_store.specs.Closes.{turns_of}
use Rattle.sr_store.proofs.closing.turns_of_all.Goals as goal

pub loop-reader-preserved : goal.loop-reader-preserved
loop-reader-preserved g c =
    let all = c.deref-reader-items.ensures.value in
    let here = at_drop_more turns_of c.args.readers.now.items c.loop-reader.reader-index c.reader-item.result (rw (sym all) c.loop-reader-test.true) in
    let item = rw all at c.reader-item.is in
    let same = ap (λ r. r.turns) item in
    record {
      bound = omega arith;
      sum = omega (arith, c.loop-reader.invariant.sum, here, same, c.turns.ensures, c.saturating_add-turns.ensures);
    }

pub returns : goal.returns
returns g c =
    let all = c.deref-reader-items.ensures.value in
    let none = at_drop_all turns_of c.args.readers.now.items c.loop-reader.reader-index (rw (sym all) c.loop-reader-test.false) in
    omega (arith, none, c.loop-reader.invariant.sum, c.loop-reader.invariant.bound)
