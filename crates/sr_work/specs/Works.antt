-- Background work as contracts see it, and what each call makes of it.
use Rattle.std.specs.Prelude.{ℕ, ◌≡◌, ◌*◌, ◌≤◌, List, [], ◌∷◌}
use Rattle.sr_model.specs.declared.audit.RoundReport.{RoundReport}
use Rattle.sr_repair.specs.Version.{NumberedNet}
use Rattle.sr_store.specs.Counts.{opened, spread, usage_turned}
use Rattle.sr_store.specs.declared.usage.Usage.{Usage}
use Rattle.sr_work.specs.Watched.{watched_from, with_next, IsNumberedNext}
use Rattle.sr_work.specs.Reports.{IsHoldReport, AreReports}
use Rattle.sr_work.specs.declared.work.Work.{Work}
use Rattle.sr_work.specs.declared.work.Work.TheVariants.{Idle, Holds, Watches}

-- a watch was started from this version, with as many readers as were given of those that were asked for
pub record StartsWatch (watchers rounds : ℕ) (version : NumberedNet)
    (work : Work) (before after : Usage) : Type 0 where
  pub given : ℕ
  pub few : given ≤ watchers
  pub work_is : work ≡ Watches (watched_from watchers rounds given version)
  pub counts : after ≡ opened before watchers given

-- where a watch runs, the version has the number after that of the last one that it could meet
abbrev pub MayFollow : Work → NumberedNet → Type 0
MayFollow Idle version = Unit {0}
MayFollow (Holds held) version = Unit {0}
MayFollow (Watches watched) version = IsNumberedNext watched.versions version

-- the work once the version is published: a watch can meet it
abbrev pub after_publishing : Work → NumberedNet → Work
after_publishing Idle version = Idle
after_publishing (Holds held) version = Holds held
after_publishing (Watches watched) version = Watches (with_next watched version)

-- the usage once a version is published
abbrev pub usage_published : Work → Usage → Usage
usage_published Idle usage = usage
usage_published (Holds held) usage = usage
usage_published (Watches watched) usage = spread usage

-- the reports of the work: none; the one of a hold; or those of a watch
abbrev pub AreReportsOf : Work → List RoundReport → Type 0
AreReportsOf Idle reports = reports ≡ []
AreReportsOf (Holds held) reports = (report : RoundReport) × (reports ≡ report ∷ []) × IsHoldReport held report
AreReportsOf (Watches watched) reports = AreReports watched.watchers watched.rounds watched.versions reports

-- the usage once the work is joined: each reader took a turn in each round
abbrev pub usage_joined : Work → Usage → Usage
usage_joined Idle usage = usage
usage_joined (Holds held) usage = usage
usage_joined (Watches watched) usage = usage_turned usage (watched.given * watched.rounds)
