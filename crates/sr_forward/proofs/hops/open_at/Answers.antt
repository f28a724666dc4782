use Rattle.std.proofs.Common.{◌∙◌, ◌+◌, ap, sym, drop, List}
use Rattle.std.specs.Prelude.{slice_get}
use Rattle.sr_model.specs.declared.link.LinkNo.{LinkNo}
use Rattle.sr_model.specs.declared.entry.Out.{Out}
use Rattle.sr_forward.specs.Choices.{open_hops}
use Rattle.sr_forward.proofs.HopLemmas.{open-first, open-next, open-not}
use Rattle.sr_forward.proofs.hops.open_at.Goals as goal
use Rattle.sr_forward.proofs.hops.open_at.Goals.{then-not-has+else-left-eq0, else-not-has}

pub returns-then-left-eq0 : goal.returns-then-left-eq0
returns-then-left-eq0 c =
    open-first c.args.closed.now c.args.hops.now c.links-links.result.now c.links-links.ensures c.loop-at.at c.loop-at-test.true c.has.result c.has.ensures c.if-not-has.true c.get.result c.get.ensures
    ∙ ap (slice_get (open_hops c.args.closed.now (drop c.loop-at.at c.args.hops.now))) (sym c.if-left-eq0.true)
    ∙ c.loop-at.invariant

pub loop-at-preserved : goal.loop-at-preserved
loop-at-preserved c = elim c.if-not-has.branch [
  | then-not-has+else-left-eq0 w ↦
      ap (slice_get (open_hops c.args.closed.now (drop (c.loop-at.at + 1) c.args.hops.now))) w.left-is
      ∙ open-next c.args.closed.now c.args.hops.now c.links-links.result.now c.links-links.ensures c.loop-at.at c.loop-at-test.true c.has.result c.has.ensures w.if-not-has.true c.loop-at.left w.if-left-eq0.false
      ∙ c.loop-at.invariant
  | else-not-has w ↦
      ap (slice_get (open_hops c.args.closed.now (drop (c.loop-at.at + 1) c.args.hops.now))) w.left-is
      ∙ ap (λ (hs : List (LinkNo × Out)). slice_get hs c.loop-at.left) (open-not c.args.closed.now c.args.hops.now c.links-links.result.now c.links-links.ensures c.loop-at.at c.loop-at-test.true c.has.result c.has.ensures w.if-not-has.false)
      ∙ c.loop-at.invariant
]
