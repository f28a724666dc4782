use Rattle.std.proofs.Common.{◌≡◌, ℕ, ◌+◌, ◌*◌, arith, subst}
use Rattle.sr_lanes.specs.Marks.{AreMarked}
use Rattle.sr_lanes.proofs.MarkLemmas.{marked-more}
use Rattle.sr_lanes.proofs.marks.mark_groups.Goals as goal

pub loop-group-preserved : goal.loop-group-preserved
loop-group-preserved c =
    let at : ℕ = 8 * c.loop-group.group in
    let next : at + 8 ≡ 8 * (c.loop-group.group + 1) = omega arith in
    let eight = c.mark_eight.ensures in
    subst (λ (n : ℕ). AreMarked c.args.row.now c.args.cost c.args.base.now c.args.hits.now n c.mark_eight.new.hits) next
    (marked-more c.args.row.now c.args.cost c.args.base.now c.args.hits.now c.loop-group.hits c.mark_eight.new.hits at (at + 8) (omega arith) c.loop-group.invariant eight.inside eight.below eight.above)
