use Rattle.std.proofs.Common.{◌≡◌, map, take}
use Rattle.sr_account.specs.Steps.{ends_of}
use Rattle.sr_account.proofs.survey.list_ends.Given as goal

abbrev pub invariant-loop-announcement : goal.invariant-loop-announcement
invariant-loop-announcement l = l.ends.items ≡ map ends_of (take l.announcement-index l.announcements)
