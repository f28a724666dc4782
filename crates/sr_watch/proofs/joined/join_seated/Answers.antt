use Rattle.std.proofs.Common.{arith}
use Rattle.std.proofs.lemmas.List.{nil_from_length}
use Rattle.sr_watch.specs.Rounds.{inspection_by}
use Rattle.sr_watch.proofs.Watchers.{one-back, seated-step, back-end, rounds-end}
use Rattle.sr_watch.proofs.joined.join_seated.Goals as goal

pub loop-preserved : goal.loop-preserved
loop-preserved g c =
    let was = c.loop.invariant in
    let steps = c.in-Some.ensures.cases in
    let how = inspection_by g.V.Numbered.number_of g.I.Inspect.means in
    let done = rw steps.0 at was.done in
    record {
      left = omega (arith, was.left, steps.1);
      room = omega (arith, was.room, steps.1, c.push_reserved.ensures.len, c.push_reserved.ensures.capacity);
      done = rw c.push_reserved.ensures.items (one-back how c.args.seated.items c.next.new.self.rest.items c.loop.back.items c.loop.whole c.gather-whole.result c.loop.all.items c.gather-whole.new.all.items c.in-Some.one c.join-reader.result.reader done c.join-reader.ensures.kept
          (λ t. (let e = c.gather-whole.ensures t in (e.0, seated-step how c.in-Some.one c.join-reader.result c.loop.all.items c.gather-whole.new.all.items c.join-reader.ensures e.1))));
    }

pub returns-clause-back : goal.returns-clause-back
returns-clause-back g c =
    let rest = c.loop.left.rest in
    let nil = nil_from_length rest.items (omega (arith, rest.ok, c.loop.invariant.left, c.loop-test.false, c.loop.auto.counter-end)) in
    back-end (inspection_by g.V.Numbered.number_of g.I.Inspect.means) c.args.seated.items c.loop.back.items c.loop.whole c.loop.all.items (rw nil at c.loop.invariant.done)

pub returns-clause-rounds : goal.returns-clause-rounds
returns-clause-rounds g c =
    let rest = c.loop.left.rest in
    let nil = nil_from_length rest.items (omega (arith, rest.ok, c.loop.invariant.left, c.loop-test.false, c.loop.auto.counter-end)) in
    rounds-end (inspection_by g.V.Numbered.number_of g.I.Inspect.means) c.args.seated.items c.loop.back.items c.loop.whole c.loop.all.items (rw nil at c.loop.invariant.done)
