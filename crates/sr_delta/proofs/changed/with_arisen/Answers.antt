use Rattle.std.proofs.Common.{◌≡◌, ◌<◌, arith}
use Rattle.sr_model.specs.Graph.{Graph, link_count}
use Rattle.sr_delta.proofs.ChangeLemmas.{new-none, new-push, new-skip, new-all}
use Rattle.sr_delta.proofs.changed.with_arisen.Goals as goal
use Rattle.sr_delta.proofs.changed.with_arisen.Goals.{in-Some+in_ok-push-in-Some, in-None}

pub loop-k-init : goal.loop-k-init
loop-k-init c = new-none c.args.old.now c.args.new.now c.args.list.items c.requires.list

pub loop-k-preserved : goal.loop-k-preserved
loop-k-preserved c =
    let g : Graph = c.args.old.now in
    let h : Graph = c.args.new.now in
    let within : c.loop-k.k < link_count h = omega (arith, c.loop-k-test.true, c.link_count-k-end.ensures.count) in
    elim c.match-arisen_of.branch [
      | in-Some+in_ok-push-in-Some w ↦ rw (w.list-is, w.in_ok-push-in-Some.ensures.items)
          (new-push g h c.link_count-k-end.ensures.named c.loop-k.k within c.loop-k.list.items w.in-Some.change c.loop-k.invariant w.in-Some.ensures.2 w.in-Some.ensures.0 w.in-Some.ensures.1)
      | in-None w ↦ rw w.list-is (new-skip g h c.loop-k.k c.loop-k.list.items c.loop-k.invariant w.in-None.ensures)
    ]

pub returns : goal.returns
returns c =
    let all : c.loop-k.k ≡ link_count c.args.new.now = omega (arith, c.loop-k-test.false, c.link_count-k-end.ensures.count, c.loop-k.auto.k-end) in
    new-all c.args.old.now c.args.new.now c.loop-k.list.items (rw all at c.loop-k.invariant)
