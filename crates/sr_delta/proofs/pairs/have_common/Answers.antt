use Rattle.std.proofs.Common.{◌≡◌, ◌<◌, ◌≤◌, length, arith, sym, subst, ◌∙◌}
use Rattle.std.specs.Prelude.{Contains, slice_index_or}
use Rattle.std.proofs.lemmas.List.{get_or_default}
use Rattle.sr_delta.proofs.PairLemmas.{each-up}
use Rattle.sr_delta.proofs.pairs.have_common.Goals as goal

pub loop-i-preserved : goal.loop-i-preserved
loop-i-preserved c =
    each-up
    (λ k. Contains c.args.other.now (slice_index_or c.args.one.now k 0) → ⊥)
    c.loop-i.i
    c.loop-i.invariant
    (λ has. let this = c.is_in_list.ensures.1 has in let not = c.if-is_in_list.false in cc)

pub returns : goal.returns
returns c =
    let end : length c.args.one.now ≤ c.loop-i.i = omega (arith, c.loop-i-test.false) in (
      λ is. absurd (cc),
      λ h.
          let at : slice_index_or c.args.one.now h.1.0 0 ≡ h.0 = get_or_default c.args.one.now h.1.0 0 h.0 h.1.1 ∙ h.1.2 in
          absurd (c.loop-i.invariant h.1.0 (let lt : h.1.0 < length c.args.one.now = h.1.1 in omega (arith, end)) (subst (λ r. Contains c.args.other.now r) (sym at) h.2)),
    )
