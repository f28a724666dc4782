use Rattle.std.proofs.Common.{◌≡◌, ◌<◌, arith, length, ap, ◌∙◌, sym}
use Rattle.sr_domain.proofs.AnnouncedLemmas.{filter-kept_at, filter-dropped_at, pushed}
use Rattle.sr_account.specs.Steps.{has_link}
use Rattle.sr_account.proofs.SurveyLemmas.{linked-test}
use Rattle.sr_account.proofs.survey.with_links.Goals as goal
use Rattle.sr_account.proofs.survey.with_links.Goals.{then-is_among+in_ok-push, else-is_among}

pub loop-announcement-preserved : goal.loop-announcement-preserved
loop-announcement-preserved c =
    let anns = c.args.announcements.now in
    let i = c.loop-announcement.announcement-index in
    let a = c.announcement-item.result in
    let within : i < length anns = omega arith in
    let test = has_link c.args.facts.now in
    let asked : has_link c.args.facts.now a ≡ c.is_among.result = linked-test c.args.facts.now a c.pair.result c.in_ok-pairs.pairs.items c.sort_unstable.new.self.items c.deref.result.now c.is_among.result c.is_among.ensures c.pair.ensures c.deref.ensures.value c.sort_unstable.ensures.permutation c.in_ok-pairs.ensures in
    elim c.if-is_among.branch [
      | then-is_among+in_ok-push w ↦
          ap (λ v. v.items) w.out-is ∙ pushed c.loop-announcement.out.items _ w.push.new.self.items _ _ w.in_ok-push.ensures.items c.loop-announcement.invariant
          (filter-kept_at test anns i a within (sym c.announcement-item.is) (asked ∙ w.if-is_among.true))
      | else-is_among w ↦
          ap (λ v. v.items) w.out-is ∙ c.loop-announcement.invariant
          ∙ sym (filter-dropped_at test anns i a within (sym c.announcement-item.is) (asked ∙ w.if-is_among.false))
    ]
