use Rattle.std.proofs.Common.{arith}
use Rattle.std.proofs.lemmas.List.{nil_from_length}
use Rattle.sr_watch.specs.Rounds.{inspection_by}
use Rattle.sr_watch.proofs.Watchers.{one-apart, apart-step, apart-end}
use Rattle.sr_watch.proofs.joined.join_apart.Goals as goal

pub loop-preserved : goal.loop-preserved
loop-preserved g c =
    let steps = c.in-Some.ensures.cases in
    let how = inspection_by g.V.Numbered.number_of g.I.Inspect.means in
    let was = rw steps.0 at c.loop.invariant.done in
    record {
      left = omega (arith, c.loop.invariant.left, steps.1);
      done = one-apart how c.args.apart.items c.next.new.self.rest.items c.loop.whole c.gather-whole.result c.loop.all.items c.gather-whole.new.all.items c.in-Some.one was
          (λ t. (let e = c.gather-whole.ensures t in (e.0, apart-step how c.in-Some.one c.join-result.result c.loop.all.items c.gather-whole.new.all.items c.join-result.ensures e.1)));
    }

pub returns : goal.returns
returns g c =
    let rest = c.loop.left.rest in
    let nil = nil_from_length rest.items (omega (arith, rest.ok, c.loop.invariant.left, c.loop-test.false, c.loop.auto.counter-end)) in
    apart-end (inspection_by g.V.Numbered.number_of g.I.Inspect.means) c.args.apart.items c.loop.whole c.loop.all.items (rw nil at c.loop.invariant.done)
