-- What is told to a question why there is no repair.
use Rattle.std.specs.Prelude.{◌≡◌}
use Rattle.sr_script.specs.declared.name.RepairName.{RepairName}
use Rattle.sr_print.specs.Told.{Told}
use Rattle.sr_print.specs.Told.Told.{Why}
use Rattle.sr_repair.specs.Version.{NumberedNet}
use Rattle.sr_why.specs.declared.reason.Cause.{Cause}
use Rattle.sr_why.specs.Reasons.{IsReason}
use Rattle.sr_run.specs.Names.{OfAffected}
use Rattle.sr_run.specs.Questions.{IsRefused}

-- `why`: the reason of the case and the destination that are named
abbrev pub TellsReason : RepairName → NumberedNet → Told → Type 0
TellsReason repair version told = OfAffected (IsRefused told) version.net repair (λ case d.
    (reason : Cause) × IsReason version.net case d reason × (told ≡ Why version.net reason))
