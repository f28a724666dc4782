use Rattle.std.proofs.Common.{rules, ◌≡◌, ℕ, ◌<◌, ◌+◌, length, slice_index_or, None, Ok, arith, ◌∙◌}
use Rattle.std.proofs.lemmas.List.{get_or-set_other, get_or_default, length_push}
use Rattle.sr_threads.proofs.TakingLemmas.{taken-more, last-is, made-more}
use Rattle.sr_threads.proofs.taking.by_number.Goals as goal

pub loop-number-preserved : goal.loop-number-preserved
loop-number-preserved g c =
    let Belongs : ℕ → g.row.T.Denot → Type 0 = λ i made. g.F.Fn.post c.args.f.now (i, tt) (Ok made) in
    let number = c.loop-number.number in
    let places = c.loop-number.places.items in
    let all = c.loop-number.all.items in
    let made = c.in_ok-or_made.field-0 in
    let lt : number < length places = omega (arith, c.loop-number-test.true, c.loop-number.invariant.2.long) in
    let now : c.index_mut.result.now ≡ slice_index_or places number None = c.index_mut.ensures.value ∙ get_or_default places number c.index_mut.result.now None lt in
    let long : length c.push.new.self.items ≡ length all + 1 = rw c.in_ok-push.ensures.items (length_push all made) in (
      made-more Belongs number all c.push.new.self.items made c.loop-number.invariant.0 c.in_ok-or_made.ensures.made c.in_ok-push.ensures.items,
      omega (arith, long, c.loop-number.invariant.1),
      search rules,
      λ i le. get_or-set_other places number i c.take-found.new.self None (λ (same : i ≡ number). omega (arith, le, same)) ∙ c.loop-number.invariant.3 i (omega (arith, le)),
      taken-more c.args.places.items all c.push.new.self.items made number c.loop-number.invariant.1 c.in_ok-push.ensures.items c.loop-number.invariant.4
          (λ one is. last-is _ c.take-found.result made one (c.take-found.ensures.value ∙ now ∙ c.loop-number.invariant.3 number (omega arith) ∙ is) c.in_ok-or_made.ensures.kept),
    )
