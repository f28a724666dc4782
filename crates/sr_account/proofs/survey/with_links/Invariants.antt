use Rattle.std.proofs.Common.{◌≡◌, filter, take}
use Rattle.sr_account.specs.Steps.{has_link}
use Rattle.sr_account.proofs.survey.with_links.Given as goal

abbrev pub invariant-loop-announcement : goal.invariant-loop-announcement
invariant-loop-announcement l = l.out.items ≡ filter (has_link l.facts) (take l.announcement-index l.announcements)
