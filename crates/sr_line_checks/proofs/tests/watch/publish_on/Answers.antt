use Rattle.std.proofs.Common.{ap, sym, ◌∙◌, subst, arith}
use Rattle.std.proofs.lemmas.Option.{same_Some}
use Rattle.sr_store.specs.Histories.{History}
use Rattle.sr_store.specs.Lists.{EndsWith}
use Rattle.sr_store.proofs.Keeping.{ends_with}
use Rattle.sr_line_checks.specs.declared.tests.stamps.Stamp.{Stamp}
use Rattle.sr_line_checks.proofs.tests.watch.publish_on.Goals as goal

pub loop-past-init : goal.loop-past-init
loop-past-init g c = record {
  free = c.requires.open;
  last = λ (v : Stamp) at.
      let here = same_Some _ v (subst (λ vs. EndsWith vs v) c.requires.list at) in
      omega (arith, ap (λ (s : Stamp). s.number) here);
}

pub publish-requires-clause-next : goal.publish-requires-clause-next
publish-requires-clause-next g c v at =
    let made = ap (λ (s : Stamp). s.number) c.in_ok-next.ensures.ok in
    omega (arith, made, c.loop-past.invariant.last v at)

pub loop-past-preserved : goal.loop-past-preserved
loop-past-preserved g c =
    let list = c.in_ok-publish.ensures.list in
    let made = ap (λ (s : Stamp). s.number) c.in_ok-next.ensures.ok in
    record {
      free = list.1;
      last = λ (v : Stamp) at.
          let there = subst (λ (h : History Stamp). EndsWith h.versions v) list.0 at in
          let here = same_Some _ v (sym (ends_with c.loop-past.writer.list.versions _) ∙ there) in
          omega (arith, made, ap (λ (s : Stamp). s.number) here);
    }
