use Rattle.std.proofs.Common.{◌≡◌, ◌++◌, drop}
use Rattle.sr_account.specs.Steps.{names_in}
use Rattle.sr_account.proofs.survey.list_names.Given as goal

abbrev pub invariant-loop-announcement : goal.invariant-loop-announcement
invariant-loop-announcement l = l.names.items ++ names_in (drop l.announcement-index l.announcements) ≡ names_in l.announcements
