use Rattle.std.proofs.Common.{◌≡◌, ◌<◌, arith, length, ap, ◌∙◌, sym, Bool}
use Rattle.std.specs.List.{list_any}
use Rattle.sr_model.specs.Key.{mirror}
use Rattle.sr_model.specs.KeyOrder.{same_key}
use Rattle.sr_lsdb.specs.declared.announcement.Announcement.{Announcement}
use Rattle.sr_domain.specs.Announced.{is_announced}
use Rattle.sr_domain.specs.Links.{link_by}
use Rattle.sr_domain.proofs.AnnouncedLemmas.{filter-dropped_at}
use Rattle.std.specs.List.{filter_map}
use Rattle.std.proofs.Common.{List, map}
use Rattle.sr_account.specs.Steps.{link_pair}
use Rattle.sr_account.proofs.SurveyLemmas.{pairs-more, pairs-same}
use Rattle.sr_account.proofs.survey.list_pairs.Goals as goal
use Rattle.sr_account.proofs.survey.list_pairs.Goals.{then-holds+in-Some+in_ok-push-in-Some, then-holds+in-None, else-holds}

pub loop-announcement-preserved : goal.loop-announcement-preserved
loop-announcement-preserved c =
    let anns = c.args.announcements.now in
    let i = c.loop-announcement.announcement-index in
    let a = c.announcement-item.result in
    let within : i < length anns = omega arith in
    let test : Announcement → Bool = λ b. is_announced anns (mirror b.key) in
    let asked : test a ≡ c.holds.result = sym (c.requires.keys.each (mirror a.key)) ∙ ap (λ k. list_any (same_key k) c.args.keys.now) (sym c.mirrored.ensures) ∙ sym c.holds.ensures in
    elim c.if-holds.branch [
      | then-holds+in-Some+in_ok-push-in-Some w ↦
          ap (λ v. v.items) w.pairs-is
          ∙ pairs-more (link_by c.args.facts.now) test anns i a w.in-Some.link w.pair.result c.loop-announcement.pairs.items _ within (sym c.announcement-item.is) (asked ∙ w.if-holds.true) (sym w.link_by.ensures ∙ w.in-Some.is) w.pair.ensures c.loop-announcement.invariant w.in_ok-push-in-Some.ensures.items
      | then-holds+in-None w ↦
          ap (λ v. v.items) w.pairs-is
          ∙ pairs-same (link_by c.args.facts.now) test anns i a c.loop-announcement.pairs.items within (sym c.announcement-item.is) (asked ∙ w.if-holds.true) (sym w.link_by.ensures ∙ w.in-None.is) c.loop-announcement.invariant
      | else-holds w ↦
          ap (λ v. v.items) w.pairs-is ∙ c.loop-announcement.invariant
          ∙ sym (ap (λ (l : List Announcement). map link_pair (filter_map (link_by c.args.facts.now) l)) (filter-dropped_at test anns i a within (sym c.announcement-item.is) (asked ∙ w.if-holds.false)))
    ]
