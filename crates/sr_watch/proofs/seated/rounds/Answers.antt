use Rattle.std.proofs.Common.{◌≡◌, ◌+◌, [], refl, length, length-append, ◌∷◌, ap, sym, ◌∙◌, arith}
use Rattle.std.proofs.lemmas.Grind.{common_steps}
use Rattle.sr_watch.specs.Rounds.{inspection_by}
use Rattle.sr_store.proofs.Growth.{begins-self}
use Rattle.sr_watch.proofs.Chains.{kept-then, chain-more, chain-rising}
use Rattle.sr_watch.proofs.seated.rounds.Goals as goal

pub loop-past-init : goal.loop-past-init
loop-past-init g c =
    let made = c.new-made.ensures.items in
    record {
      kept = record { list = begins-self c.args.reader.list; seat = refl };
      chain = rw made (begins-self c.args.reader.list);
      count = ap length made;
      turns = grind (arith, common_steps);
    }

pub returns : goal.returns
returns g c =
    let was = c.loop-past.invariant in
    let how = inspection_by g.V.Numbered.number_of g.I.Inspect.means in
    let task = c.args.task in
    let count : length c.loop-past.made.items ≡ task.rounds = omega (arith, was.count, c.loop-past-test.false, c.loop-past.auto.past-end) in
    record {
      kept = was.kept;
      took = record {
        chain = was.chain;
        count_is = count;
        turns = omega (arith, was.turns, was.count, count);
        rising = chain-rising how task task.first c.args.reader.list c.loop-past.reader.list c.loop-past.made.items was.chain c.is_numbered.ensures;
      };
    }

pub returns-in-Err-push : goal.returns-in-Err-push
returns-in-Err-push g c = record {
  kept = kept-then c.args.reader c.loop-past.reader c.turn.new.reader c.loop-past.invariant.kept c.turn.ensures.kept;
  took = tt;
}

pub returns-in-Err : goal.returns-in-Err
returns-in-Err g c = record {
  kept = kept-then c.args.reader c.loop-past.reader c.turn.new.reader c.loop-past.invariant.kept c.turn.ensures.kept;
  took = tt;
}

pub loop-past-preserved : goal.loop-past-preserved
loop-past-preserved g c =
    let was = c.loop-past.invariant in
    let step = c.in-Ok.ensures in
    let items = c.in-Ok-push.ensures.items in
    let how = inspection_by g.V.Numbered.number_of g.I.Inspect.means in
    let task = c.args.task in
    let start = c.args.reader.list in
    let before = c.loop-past.reader.list in
    let now = c.turn.new.reader.list in
    let seen = c.in-Ok.seen in
    record {
      kept = kept-then c.args.reader c.loop-past.reader c.turn.new.reader was.kept step.kept;
      chain = rw items (chain-more how task task.first start before now c.loop-past.made.items seen (task.first + c.loop-past.past) (ap (λ n. task.first + n) (sym was.count)) step.kept.list step.round was.chain);
      count = ap length items ∙ (length-append c.loop-past.made.items (seen ∷ []) ∙ ap (λ n. n + 1) was.count);
      turns = omega (arith, was.turns, step.turns);
    }
