use Rattle.std.proofs.Common.{◌+◌, length, length-append, ◌∷◌, [], ap, sym, ◌∙◌}
use Rattle.std.specs.Arc.{arc_value}
use Rattle.sr_watch.specs.Rounds.{inspection_by}
use Rattle.sr_watch.proofs.Chains.{repeats-more}
use Rattle.sr_watch.proofs.apart.looks.Goals as goal

pub loop-past-preserved : goal.loop-past-preserved
loop-past-preserved g c =
    let was = c.loop-past.invariant in
    let items = c.in-Ok-push.ensures.items in
    let how = inspection_by g.V.Numbered.number_of g.I.Inspect.means in
    let task = c.args.task in
    record {
      all = rw items (repeats-more how task task.first (arc_value c.args.version) c.loop-past.made.items c.in-Ok.seen (task.first + c.loop-past.past) (ap (λ n. task.first + n) (sym was.count)) (rw c.deref-in-loop-past.ensures at c.in-Ok.ensures) was.all);
      count = ap length items ∙ (length-append c.loop-past.made.items (c.in-Ok.seen ∷ []) ∙ ap (λ n. n + 1) was.count);
    }
