-- The status tells how a run ended.
use Rattle.std.proofs.Common.{◌≡◌, ℕ, ◌≤◌, ◌⊎◌, true, false, List, [], length, refl, ap, sym, subst, arith, length-append, inl, inr, None, Some}
use Rattle.std.specs.Prelude.{String}
use Rattle.std.specs.declared.option.Option.{Option}
use Rattle.std.specs.declared.alloc.Global.{Global}
use Rattle.std.specs.Io.KnownBytes.{Consumes}
use Rattle.std.proofs.KnownBytes.{Appends-nil, Consumes-nil}
use Rattle.sr_base.specs.Faults.{Rose}
use Rattle.sr_engine.specs.Lines.{most_bytes}
use Rattle.sr_engine.specs.Endings.{Devices, CountsShow, OutputIs, status_of}
use Rattle.sr_engine.specs.declared.end.End.{End}
use Rattle.sr_engine.specs.declared.end.End.TheVariants.{Done, ReadFailed, WriteFailed, Memory, TooMuch}
use Rattle.sr_run.specs.Domain.{opening_domain}
use Rattle.sr_run.specs.State.{Session, IsShown, session_before}
use Rattle.sr_run.specs.Usage.{Lent, lent_of, ServesWatches}
use Rattle.sr_run.specs.Searches.{CountsSearches}
use Rattle.sr_run.specs.Session.{conduct}
use Rattle.sr_run.specs.Handlers.{RunsLent, session_conduct}
use Rattle.sr_make.specs.Making.{MakingShows, Makes}
use Rattle.sr_make.specs.Script.{made_script}
use Rattle.sr_words.specs.declared.task.AskedTask.{AskedTask}
use Rattle.sr_words.specs.declared.task.AskedTask.TheVariants as task
use Rattle.sr_words.specs.Tasks.{Asked, BeginWithMake, IsTaskOf}
use Rattle.sr_words.proofs.TaskLemmas.{one-task}
use Rattle.sr_run.specs.Program.{Execution, execution_of, EndShows, TaskShows, StatusShows, RunsTo, RunsThrough}
use Rattle.sr_run.proofs.Likeness.{answered-like, script-like, begins-like}
use Rattle.sr_run.proofs.Simulation.{session-follows, script-delivers}
use Rattle.sr_run.proofs.UsageLemmas.{shown-first, serves-all}

-- what was lent to the run
abbrev lent_in : Execution → Lent
lent_in run = lent_of run.used run.counted

-- what a run of the session shows holds of the domain that it shows
end-shows : (run : Execution) (end : End) (final : Session) → OutputIs session_conduct run.new.left (record { opening = session_before run.used run.counted; taken = run.taken; out = run.out; final = final }) end
    → CountsShow run.old run.new end → run.usage ≡ final.usage → run.count ≡ final.searches → EndShows run end
end-shows run (Done refused) final output counts usage count =
    let script = script-like session_conduct conduct (IsShown (lent_in run)) (session-follows (lent_in run)) (session_before run.used run.counted) final opening_domain run.taken run.out refused output.2 (shown-first (lent_in run)) in
    record {
      at_end = output.0;
      few = output.1;
      final = script.0;
      script = script.1;
      delivers = script-delivers run.taken run.out refused script.0 script.1;
      serves = λ fresh. subst (ServesWatches script.0.totals) (sym usage) (serves-all run.taken run.out refused script.0 final output.1 script.1 (script.2.usage fresh) script.2.work);
      searches = subst (CountsSearches script.0 run.counted) (sym count) script.2.searches;
      reads = counts.0;
      writes = counts.1;
    }
end-shows run ReadFailed final output counts usage count = (answered-like session_conduct conduct (IsShown (lent_in run)) (session-follows (lent_in run)) (session_before run.used run.counted) opening_domain run.taken run.out output (shown-first (lent_in run)), counts.0, counts.1)
end-shows run WriteFailed final output counts usage count = (begins-like session_conduct conduct (IsShown (lent_in run)) (session-follows (lent_in run)) (session_before run.used run.counted) opening_domain run.new.left run.taken run.out output (shown-first (lent_in run)), counts.0, counts.1)
end-shows run Memory final output counts usage count = (begins-like session_conduct conduct (IsShown (lent_in run)) (session-follows (lent_in run)) (session_before run.used run.counted) opening_domain run.new.left run.taken run.out output (shown-first (lent_in run)), counts.0, counts.1)
end-shows run TooMuch final output counts usage count = (output.0, answered-like session_conduct conduct (IsShown (lent_in run)) (session-follows (lent_in run)) (session_before run.used run.counted) opening_domain _ run.out output.1 (shown-first (lent_in run)), counts.0, counts.1)

-- a run over a script
pub runs-to : (words : List (String Global)) (old new : Devices) (lent back : Lent) (end : End) (status : ℕ) → Asked words task.Run
    → RunsLent old new lent back end → status ≡ status_of end → RunsTo words old new lent back status
runs-to words old new lent back end status ask did is =
    let ran = did.ran in
    let run : Execution = execution_of old new ran.taken ran.out lent back in
    record {
      taken = ran.taken;
      took = ran.took;
      few = ran.few;
      out = ran.out;
      appended = ran.appended;
      shows = inl (record { asked = task.Run; asks = ask; end = end; is = is; shows = end-shows run end did.final ran.output did.counts did.usage_is did.searches_are });
    }

-- the making of a script
pub makes-to : (words : List (String Global)) (nodes start : ℕ) (old new : Devices) (lent : Lent) (end : End) (status : ℕ) → Asked words (task.Make nodes start)
    → new.left ≡ old.left → new.read_faults ≡ old.read_faults → Makes (made_script nodes start) old.held new.held old.write_faults new.write_faults end → status ≡ status_of end → RunsTo words old new lent lent status
makes-to words nodes start old new lent end status ask left reads makes is =
    record {
      taken = [];
      took = subst (λ (o : Option (List ℕ)). Consumes old.left o []) (sym left) (Consumes-nil old.left);
      few = omega arith;
      out = makes.out;
      appended = makes.appended;
      shows = inl (record { asked = task.Make nodes start; asks = ask; end = end; is = is; shows = record { taken = refl; reads = reads; usage = refl; searches = refl; shows = makes.shows } });
    }

-- nothing was done
runs-nowhere : (words : List (String Global)) (devices : Devices) (lent : Lent) (status : ℕ)
    → StatusShows words (execution_of devices devices [] [] lent lent) status → RunsTo words devices devices lent lent status
runs-nowhere words devices lent status shows = record {
  taken = [];
  took = Consumes-nil devices.left;
  few = omega arith;
  out = [];
  appended = Appends-nil devices.held;
  shows = shows;
}

-- words that are no command
pub runs-nothing : (words : List (String Global)) (devices : Devices) (lent : Lent) → IsTaskOf words None → RunsTo words devices devices lent lent 2
runs-nothing words devices lent none = runs-nowhere words devices lent 2 (inr (inl (none, refl, record { taken = refl; out = refl; reads = refl; writes = refl; usage = refl; searches = refl })))

-- words that couldn't be read
pub runs-unread : (words : List (String Global)) (devices : Devices) (lent : Lent) (status : ℕ) → BeginWithMake words → status ≡ status_of Memory → RunsTo words devices devices lent lent status
runs-unread words devices lent status begin is = runs-nowhere words devices lent status (inr (inr (begin, is, record { taken = refl; out = refl; reads = refl; writes = refl; usage = refl; searches = refl })))

took-few : (bytes taken : List ℕ) (left : Option (List ℕ)) → Consumes (Some bytes) left taken → length taken ≤ length bytes
took-few bytes taken None t = absurd t
took-few bytes taken (Some rest) t = omega (arith, ap length t, length-append taken rest)

-- a run that meets no fault ends with 0, 1 or 5
end-known : (run : Execution) (end : End) (status : ℕ) → length run.taken ≤ most_bytes → ¬ Rose run.old.read_faults run.new.read_faults → ¬ Rose run.old.write_faults run.new.write_faults
    → status ≡ status_of end → EndShows run end → (status ≡ 0) ⊎ (status ≡ 1) ⊎ (status ≡ 5)
end-known run (Done false) status few reads writes is shows = inl is
end-known run (Done true) status few reads writes is shows = inr (inl is)
end-known run ReadFailed status few reads writes is shows = absurd (reads shows.1)
end-known run WriteFailed status few reads writes is shows = absurd (writes shows.1)
end-known run Memory status few reads writes is shows = inr (inr is)
end-known run TooMuch status few reads writes is shows = absurd (omega (arith, few, shows.0))

-- the making of a script that meets no fault ends with 0 or 5
made-known : (script out : List ℕ) (before now : ℕ) (end : End) (status : ℕ) → ¬ Rose before now → status ≡ status_of end → MakingShows script out before now end → (status ≡ 0) ⊎ (status ≡ 5)
made-known script out before now (Done false) status writes is shows = inl is
made-known script out before now (Done true) status writes is shows = absurd shows
made-known script out before now ReadFailed status writes is shows = absurd shows
made-known script out before now WriteFailed status writes is shows = absurd (writes shows.1)
made-known script out before now Memory status writes is shows = inr is
made-known script out before now TooMuch status writes is shows = absurd shows

module _ (words : List (String Global)) (run : Execution) (status : ℕ) where
  -- a script that is answered
  answered-through : Asked words task.Run → length run.taken ≤ most_bytes → ¬ Rose run.old.read_faults run.new.read_faults → ¬ Rose run.old.write_faults run.new.write_faults
      → StatusShows words run status → (status ≡ 0) ⊎ (status ≡ 1) ⊎ (status ≡ 5)
  answered-through ask few reads writes (inl did) =
      end-known run did.end status few reads writes did.is (subst (λ (t : AskedTask). TaskShows t run did.end) (one-task words did.asked task.Run did.asks ask) did.shows)
  answered-through ask few reads writes (inr (inl none)) = absurd (none.0 task.Run ask)
  answered-through ask few reads writes (inr (inr unread)) = inr (inr unread.1)

  -- a script that is made
  made-through : (nodes start : ℕ) → Asked words (task.Make nodes start) → ¬ Rose run.old.write_faults run.new.write_faults → StatusShows words run status → (status ≡ 0) ⊎ (status ≡ 5)
  made-through nodes start ask writes (inl did) =
      let shows = subst (λ (t : AskedTask). TaskShows t run did.end) (one-task words did.asked (task.Make nodes start) did.asks ask) did.shows in
      made-known (made_script nodes start) run.out run.old.write_faults run.new.write_faults did.end status writes did.is shows.shows
  made-through nodes start ask writes (inr (inl none)) = absurd (none.0 (task.Make nodes start) ask)
  made-through nodes start ask writes (inr (inr unread)) = inr unread.1

pub completes : (words : List (String Global)) (old new : Devices) (lent back : Lent) (status : ℕ) → RunsTo words old new lent back status → RunsThrough words old new status
completes words old new lent back status r =
    let run : Execution = execution_of old new r.taken r.out lent back in
    record {
      answers = λ bytes is ask few reads writes.
          let took : length r.taken ≤ length bytes = took-few bytes r.taken new.left (subst (λ (o : Option (List ℕ)). Consumes o new.left r.taken) is r.took) in
          answered-through words run status ask (omega (arith, took, few)) reads writes r.shows;
      makes = λ nodes start ask writes. made-through words run status nodes start ask writes r.shows;
    }
