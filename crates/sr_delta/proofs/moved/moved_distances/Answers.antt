use Rattle.std.proofs.Common.{◌≡◌, arith, subst}
use Rattle.sr_spf.specs.Trees.{tree_count}
use Rattle.sr_delta.specs.Moved.{AreMoved}
use Rattle.sr_delta.proofs.MovedLemmas.{moved-more, moved-none}
use Rattle.sr_delta.proofs.moved.moved_distances.Goals as goal

pub loop-u-init : goal.loop-u-init
loop-u-init c = λ g h old new. rw c.in_ok-sets.ensures.items (moved-none g h)

pub loop-u-preserved : goal.loop-u-preserved
loop-u-preserved c = λ g h old new. rw c.in_ok-push.ensures.items (moved-more g h c.loop-u.sets.items c.loop-u.u c.moved_from.result (c.loop-u.invariant g h old new) (c.moved_from.ensures g h old new))

pub returns : goal.returns
returns c = λ g h old new.
    let all : c.loop-u.u ≡ tree_count c.args.old.now = let not = c.loop-u-test.false in let most = c.loop-u.auto.u-end in omega (arith, not, most, c.node_count-count.ensures.count) in
    subst (AreMoved g h c.loop-u.sets.items) all (c.loop-u.invariant g h old new)
