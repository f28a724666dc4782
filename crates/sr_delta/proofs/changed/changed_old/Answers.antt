use Rattle.std.proofs.Common.{◌≡◌, ◌<◌, arith}
use Rattle.sr_model.specs.Graph.{Graph, link_count}
use Rattle.sr_delta.proofs.ChangeLemmas.{old-push, old-skip}
use Rattle.sr_delta.proofs.changed.changed_old.Goals as goal
use Rattle.sr_delta.proofs.changed.changed_old.Goals.{in-Some+in_ok-push-in-Some, in-None}

pub loop-l-preserved : goal.loop-l-preserved
loop-l-preserved c =
    let g : Graph = c.args.old.now in
    let h : Graph = c.args.new.now in
    let within : c.loop-l.l < link_count g = omega (arith, c.loop-l-test.true, c.link_count-l-end.ensures.count) in
    elim c.match-change_of.branch [
      | in-Some+in_ok-push-in-Some w ↦ rw (w.list-is, w.in_ok-push-in-Some.ensures.items)
          (old-push g h c.link_count-l-end.ensures.named c.loop-l.l within c.loop-l.list.items w.in-Some.change c.loop-l.invariant w.in-Some.ensures.0 w.in-Some.ensures.1)
      | in-None w ↦ rw w.list-is (old-skip g h c.loop-l.l c.loop-l.list.items c.loop-l.invariant w.in-None.ensures)
    ]

pub returns : goal.returns
returns c =
    let all : c.loop-l.l ≡ link_count c.args.old.now = omega (arith, c.loop-l-test.false, c.link_count-l-end.ensures.count, c.loop-l.auto.l-end) in
    rw all at c.loop-l.invariant
