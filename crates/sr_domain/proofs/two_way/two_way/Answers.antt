use Rattle.std.proofs.Common.{◌≡◌, ◌<◌, arith, length, ap, ◌∙◌, sym, Bool}
use Rattle.std.specs.List.{list_any}
use Rattle.sr_model.specs.declared.name.LinkKey.{LinkKey}
use Rattle.sr_model.specs.Key.{mirror}
use Rattle.sr_model.specs.KeyOrder.{same_key}
use Rattle.sr_lsdb.specs.declared.announcement.Announcement.{Announcement}
use Rattle.sr_domain.specs.Announced.{is_announced}
use Rattle.sr_domain.proofs.AnnouncedLemmas.{filter-kept_at, filter-dropped_at, pushed}
use Rattle.sr_domain.proofs.two_way.two_way.Goals as goal
use Rattle.sr_domain.proofs.two_way.two_way.Goals.{then-holds+in_ok-push, else-holds}

pub loop-announcement-preserved : goal.loop-announcement-preserved
loop-announcement-preserved c =
    let within : c.loop-announcement.announcement-index < length c.args.announcements.now = omega arith in
    let test : Announcement → Bool = λ a. is_announced c.args.announcements.now (mirror a.key) in
    let asked : (k : LinkKey) → is_announced c.args.announcements.now k ≡ list_any (same_key k) c.deref.result.now = λ k. sym (c.in_ok-keys.ensures.each k) ∙ ap (list_any (same_key k)) (sym c.deref.ensures.value) in
    elim c.if-holds.branch [
      | then-holds+in_ok-push w ↦
          ap (λ v. v.items) w.out-is ∙ pushed c.loop-announcement.out.items _ w.push.new.self.items _ _ w.in_ok-push.ensures.items c.loop-announcement.invariant
          (filter-kept_at test c.args.announcements.now c.loop-announcement.announcement-index c.announcement-item.result within (sym c.announcement-item.is) (asked _ ∙ ap (λ k. list_any (same_key k) c.deref.result.now) (sym c.mirrored.ensures) ∙ sym c.holds.ensures ∙ w.if-holds.true))
      | else-holds w ↦
          ap (λ v. v.items) w.out-is ∙ c.loop-announcement.invariant
          ∙ sym (filter-dropped_at test c.args.announcements.now c.loop-announcement.announcement-index c.announcement-item.result within (sym c.announcement-item.is) (asked _ ∙ ap (λ k. list_any (same_key k) c.deref.result.now) (sym c.mirrored.ensures) ∙ sym c.holds.ensures ∙ w.if-holds.false))
    ]
