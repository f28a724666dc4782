use Rattle.std.proofs.Common.{◌<◌, arith, length, ap, ◌∙◌, sym, take}
use Rattle.sr_lsdb.specs.Announcement.{adj_sid_label, adj_sid_labels, lesser, least}
use Rattle.sr_lsdb.proofs.AnnouncementLemmas.{filter_map-some, filter_map-none, least-push}
use Rattle.sr_lsdb.proofs.announcement.least_label.Goals as goal
use Rattle.sr_lsdb.proofs.announcement.least_label.Goals.{in-Some, in-None}

pub loop-sid-preserved : goal.loop-sid-preserved
loop-sid-preserved c =
    let within : c.loop-sid.sid-index < length c.args.sids.now = omega arith in
    elim c.match-adj_sid_label.branch [
      | in-Some w ↦
          w.found-is ∙ w.lesser-found.ensures ∙ ap (λ f. lesser f w.in-Some.label) c.loop-sid.invariant ∙ sym (least-push (adj_sid_labels c.args.backup (take c.loop-sid.sid-index c.args.sids.now)) w.in-Some.label)
          ∙ ap least (sym (filter_map-some (adj_sid_label c.args.backup) c.args.sids.now c.loop-sid.sid-index _ w.in-Some.label within (sym c.adj_sid_label.ensures ∙ w.in-Some.is)))
      | in-None w ↦
          w.found-is ∙ c.loop-sid.invariant
          ∙ ap least (sym (filter_map-none (adj_sid_label c.args.backup) c.args.sids.now c.loop-sid.sid-index _ within (sym c.adj_sid_label.ensures ∙ w.in-None.is)))
    ]
