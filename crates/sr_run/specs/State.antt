-- What a session shows of a domain, and what it keeps.
use Rattle.std.specs.Prelude.{◌≡◌, ℕ, ◌+◌, ◌-◌, ◌*◌, ◌<◌, ◌≤◌, Bool, true, false, List, length, slice_get, Option, Some, None, IfSome}
use Rattle.sr_model.specs.declared.audit.Counts.{Counts}
use Rattle.sr_model.specs.Label.{Net}
use Rattle.sr_lsdb.specs.Editing.{Editing, with_accepted}
use Rattle.sr_domain.specs.Net.{IsNetOf}
use Rattle.sr_repair.specs.Version.{NumberedNet}
use Rattle.sr_cert.specs.Draft.{CertDraft, IsDraftWithin}
use Rattle.sr_audit.specs.Counted.{AreAuditCounts}
use Rattle.sr_model.specs.declared.limits.TheConstants.{MOST_ROUNDS, MOST_VERSION}
use Rattle.sr_store.specs.Counts.{counted}
use Rattle.sr_store.specs.declared.usage.Usage.{Usage}
use Rattle.sr_work.specs.Watched.{Watched}
use Rattle.sr_work.specs.Works.{MayFollow}
use Rattle.sr_work.specs.declared.work.Work.{Work}
use Rattle.sr_work.specs.declared.work.Work.TheVariants.{Idle, Holds, Watches}
use Rattle.sr_run.specs.Domain.{Domain, opening_domain, Background, BegunWatch, WatchTotals, last_version, version_before, number_of, versions_since}
use Rattle.sr_run.specs.Domain.Background.{AtRest, OfHold, OfWatch}
use Rattle.sr_run.specs.Usage.{Lent, unused}
use Rattle.sr_run.specs.Searches.{CountsSearches}

-- the accepted and the tentative facts with how many edits are staged, the version of the last accepted commit, that of
-- the one before, and the certificate that is open, where one is
pub record State : Type 0 where
  pub editing : Editing
  pub current : Option NumberedNet
  pub previous : Option NumberedNet
  pub draft : Option CertDraft

-- what a session shows of the domain: of its nets the last two, with their numbers
abbrev pub state_of : Domain → State
state_of domain = record {
  editing = domain.editing;
  current = last_version domain.nets;
  previous = version_before domain.nets;
  draft = domain.draft;
}

-- the nodes and links of the open certificate, where one is, are those of this version
abbrev pub IsDraftOf : Option NumberedNet → Option CertDraft → Type 0
IsDraftOf current None = Unit {0}
IsDraftOf None (Some draft) = ⊥
IsDraftOf (Some version) (Some draft) = IsDraftWithin version.net draft

-- what a session keeps: no more versions than there may be, counted from 1; the last net is that of the accepted facts,
-- and an open certificate speaks of it
pub record IsKeptState (state : State) : Type 0 where
  pub few : number_of state.current ≤ MOST_VERSION
  pub counted : IfSome state.current (λ version. 0 < version.number)
  pub fresh : IfSome state.current (λ version. IsNetOf state.editing.accepted version.net)
  pub drafted : IsDraftOf state.current state.draft

-- the state after the tentative facts are accepted with this version
abbrev pub with_next_version : State → NumberedNet → State
with_next_version state version =
    record { editing = with_accepted state.editing; current = Some version; previous = state.current; draft = None }

-- the version after the last one, of the net of the tentative facts
pub record IsNextVersion (state : State) (version : NumberedNet) : Type 0 where
  pub counted : version.number ≡ number_of state.current + 1
  pub net : IsNetOf state.editing.tentative version.net

-- a session between two lines: its state, the work that runs beside it, the usage of the work's stores, and what the
-- counter of searches stands at
pub record Session : Type 0 where
  pub state : State
  pub work : Work
  pub usage : Usage
  pub searches : ℕ

-- whether work runs
abbrev pub is_running : Work → Bool
is_running Idle = false
is_running (Holds version) = true
is_running (Watches watched) = true

-- a session before its first line, with this usage and a counter that stands at this
abbrev pub session_before : Usage → ℕ → Session
session_before usage searches =
    record { state = state_of opening_domain; work = Idle; usage = usage; searches = searches }

-- the version has an audit
abbrev pub HasAudit : NumberedNet → Type 0
HasAudit version = (counts : Counts) × AreAuditCounts version.net counts

-- the work has something to report: the version of a hold has an audit, and so has the first of a watch
abbrev pub CanReport : Work → Type 0
CanReport Idle = Unit {0}
CanReport (Holds version) = HasAudit version
CanReport (Watches watched) =
    (version : NumberedNet) × (slice_get watched.versions 0 ≡ Some version) × HasAudit version

-- what a session keeps of its work: it has something to report, and the next version may be published to it
pub record IsKeptWork (state : State) (work : Work) : Type 0 where
  pub reports : CanReport work
  pub follows : (next : NumberedNet) → next.number ≡ number_of state.current + 1 → MayFollow work next

-- this is the running watch that was begun so
pub record IsWatchOf (nets : List Net) (begun : BegunWatch) (watched : Watched) : Type 0 where
  pub watchers : watched.watchers ≡ begun.watchers
  pub rounds : watched.rounds ≡ begun.rounds
  pub versions : watched.versions ≡ versions_since begun.from nets
  pub since : begun.from ≤ length nets

-- the work is what runs in the background of a domain with these nets
abbrev pub IsWorkOf : List Net → Background → Work → Type 0
IsWorkOf nets AtRest Idle = Unit {0}
IsWorkOf nets AtRest (Holds version) = ⊥
IsWorkOf nets AtRest (Watches watched) = ⊥
IsWorkOf nets (OfHold held) Idle = ⊥
IsWorkOf nets (OfHold held) (Holds version) = version ≡ held
IsWorkOf nets (OfHold held) (Watches watched) = ⊥
IsWorkOf nets (OfWatch begun) Idle = ⊥
IsWorkOf nets (OfWatch begun) (Holds version) = ⊥
IsWorkOf nets (OfWatch begun) (Watches watched) = IsWatchOf nets begun watched

-- the turns that running readers take until they are joined
abbrev pub turns_due : Work → ℕ
turns_due Idle = 0
turns_due (Holds version) = 0
turns_due (Watches watched) = watched.given * watched.rounds

-- what the counts of a usage, each of which stops at its last value, show of all watches so far
pub record ShowsWatches (totals : WatchTotals) (work : Work) (usage : Usage) : Type 0 where
  pub places : usage.places ≡ counted totals.places
  pub published : usage.published ≡ counted totals.commits
  pub given : ℕ
  pub given_is : usage.given ≡ counted given
  pub few : given ≤ totals.places
  pub turns : ℕ
  pub turns_are : usage.turns ≡ counted turns
  pub enough : totals.rounds ≤ turns + turns_due work + MOST_ROUNDS * (totals.places - given)

-- the session, which was lent this, shows the domain
pub record IsShown (lent : Lent) (session : Session) (domain : Domain) : Type 0 where
  pub state : state_of domain ≡ session.state
  pub work : IsWorkOf domain.nets domain.background session.work
  pub usage : lent.usage ≡ unused → ShowsWatches domain.totals session.work session.usage
  pub searches : CountsSearches domain lent.searches session.searches
