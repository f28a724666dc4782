use Rattle.std.proofs.Common.{◌≡◌, ℕ, ◌+◌, ◌*◌, ◌++◌, take, arith, subst}
use Rattle.std.proofs.Math.Seq.{take-add}
use Rattle.sr_lanes.proofs.EqualLemmas.{chunks_of_equal}
use Rattle.sr_lanes.proofs.equal.groups_equal.Goals as goal

pub returns-then-not-eight_equal : goal.returns-then-not-eight_equal
returns-then-not-eight_equal c =
    let unequal = c.if-not-eight_equal.true in (
      (λ yes. absurd cc),
      (λ same.
          let eight = c.eight_equal.ensures.1 (chunks_of_equal c.args.a.now c.args.b.now (8 * c.loop-group.group) (8 * c.args.groups) (omega arith) same) in
          absurd cc),
    )

pub loop-group-preserved : goal.loop-group-preserved
loop-group-preserved c =
    let was = c.loop-group.invariant in
    let a = c.args.a.now in
    let b = c.args.b.now in
    let at : ℕ = 8 * c.loop-group.group in
    let next : at + 8 ≡ 8 * (c.loop-group.group + 1) = omega arith in
    let block = c.eight_equal.ensures.0 c.if-not-eight_equal.false in
    subst (λ (n : ℕ). take n a ≡ take n b) next (rw (take-add at 8 a, take-add at 8 b) (λ i. was i ++ block i))
