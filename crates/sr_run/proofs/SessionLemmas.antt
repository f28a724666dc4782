-- From what a session keeps of a domain, of its work, of its usage and of its counter, to what is told of the domain.
use Rattle.std.proofs.Common.{◌≡◌, ℕ, ◌+◌, ◌-◌, ◌*◌, ◌<◌, ◌≤◌, ◌++◌, Bool, true, false, not, List, [], ◌∷◌, length, length-append, slice_get, Option, Some, None, IfSome, MatchResult, refl, sym, subst, ap, ◌∙◌, inl, inr, arith}
use Rattle.std.proofs.Math.Nat.{mul-le-mul_left}
use Rattle.std.specs.declared.alloc.AllocError.{AllocError}
use Rattle.std.specs.declared.result.Result.{Result}
use Rattle.std.specs.declared.result.Result.TheVariants.{Ok, Err}
use Rattle.sr_model.specs.declared.audit.RoundReport.{RoundReport}
use Rattle.sr_model.specs.Label.{Net}
use Rattle.sr_repair.specs.Version.{NumberedNet, version_of}
use Rattle.sr_script.specs.declared.name.RepairName.{RepairName}
use Rattle.sr_script.specs.declared.command.Command.{Command}
use Rattle.sr_script.specs.declared.command.Command.TheVariants.{Commit as CommitWord, Prove as ProveWord, Hold as HoldWord, Watch as WatchWord, Join as JoinWord, Why as WhyWord}
use Rattle.sr_print.specs.declared.refusal.Refusal.{Refusal}
use Rattle.sr_print.specs.Told.{Told, spelled, is_refusal}
use Rattle.sr_print.specs.Told.Told.{Version, Hold, Watch, Joined, Refused}
use Rattle.sr_print.specs.Work.{report_lines, joined_line}
use Rattle.sr_store.specs.Counts.{counted, opened}
use Rattle.sr_store.specs.declared.usage.Usage.{Usage}
use Rattle.sr_work.specs.Works.{StartsWatch, MayFollow, AreReportsOf, after_publishing, usage_published, usage_joined}
use Rattle.sr_work.specs.declared.work.Work.{Work}
use Rattle.sr_work.specs.declared.work.Work.TheVariants.{Idle, Holds, Watches}
use Rattle.sr_base.specs.declared.SinkFault.{SinkFault}
use Rattle.sr_engine.specs.Replies.{Gives, AtEnd}
use Rattle.sr_engine.specs.Written.{Written, Puts}
use Rattle.sr_model.specs.declared.limits.TheConstants.{MOST_VERSION}
use Rattle.sr_run.specs.declared.stop.Stop.{Stop}
use Rattle.sr_run.specs.declared.stop.Stop.TheVariants.{Refused as Refusing, Memory}
use Rattle.sr_run.specs.declared.session.Reply.{Reply}
use Rattle.sr_run.specs.declared.session.Reply.TheVariants.{Text, Audit, Asides}
use Rattle.sr_run.specs.Domain.{Domain, Background, WatchTotals, last_version, number_of, versions_since, with_net, with_hold, with_watch, with_joined, with_asked, with_commit_during, with_watch_begun}
use Rattle.sr_run.specs.Domain.Background.{AtRest, OfHold, OfWatch}
use Rattle.sr_run.specs.Background.{BeginsHold, BeginsWatch, BeginsWork, AreDue, JoinsReporting, JoinsWork, EndsWork, watch_from}
use Rattle.sr_run.specs.Edits.{Refuses, Commits}
use Rattle.sr_run.specs.Usage.{Lent}
use Rattle.sr_run.specs.Searches.{IsCommitWork, CountsCommitWork}
use Rattle.sr_run.specs.Session.{AsksSearching, Tells, TellsOf, after_question}
use Rattle.sr_run.specs.State.{State, Session, IsShown, IsWorkOf, ShowsWatches, CanReport, HasAudit, IsKeptWork, IsNextVersion, is_running, state_of, with_next_version}
use Rattle.sr_run.specs.Handlers.{PutsTold, PutsJoined, Carries, Moves, RepliesTo, SessionReplies, SessionTells, StepsAs, SessionEnds, IsOfDomain, IsHindrance, IsNoRefusal, IsPublished, IsReply, MayBegin, CommitsVersion, CountsCommit, CountsQuestion}
use Rattle.sr_run.proofs.StepLemmas.{Stays, quiet-stays, stays-itself}
use Rattle.sr_run.proofs.SearchLemmas.{counts-still, counts-stays, counts-accepted, counts-asked}
use Rattle.sr_run.proofs.VersionLemmas.{since-more, since-last, last-number}
use Rattle.sr_run.proofs.HandlerLemmas.{accepted-next}
use Rattle.sr_seq.proofs.ListLemmas.{get-left, get-last}

-- a session of these parts
abbrev pub session : State → Work → Usage → ℕ → Session
session state work usage searches = record { state = state; work = work; usage = usage; searches = searches }

-- ---- commands that leave the work alone

work-stays : (old new : Domain) (work : Work) → Stays old new → IsWorkOf old.nets old.background work → IsWorkOf new.nets new.background work
work-stays old new work s is =
    subst (λ (nets : List Net). IsWorkOf nets new.background work) (sym s.nets) (subst (λ (b : Background). IsWorkOf old.nets b work) (sym s.background) is)

still-shown : (lent : Lent) (old new : State) (work : Work) (usage : Usage) (searches : ℕ) (domain next : Domain) → IsShown lent (session old work usage searches) domain → state_of next ≡ new → Stays domain next
    → IsShown lent (session new work usage searches) next
still-shown lent old new work usage searches domain next like is s = record {
  state = is;
  work = work-stays domain next work s like.work;
  usage = λ fresh. subst (λ (t : WatchTotals). ShowsWatches t work usage) (sym s.totals) (like.usage fresh);
  searches = counts-stays domain next lent.searches searches s like.searches;
}

-- what is told of the domain alone
pub lifted : (command : Command) (old new : State) (work : Work) (usage : Usage) (searches : ℕ) (told : Told) → IsOfDomain command → CanReport work
    → Moves (λ domain t next. Tells domain command t next) old new told → SessionTells (λ domain t next. Tells domain command t next) (session old work usage searches) (session new work usage searches) told
lifted command old new work usage searches told quiet can m = record {
  reports = can;
  steps = λ lent domain like.
      let next = m domain like.state in
      (next.0, still-shown lent old new work usage searches domain next.0 like next.1 (quiet-stays domain command told next.0 quiet next.2), next.2);
}

-- a command that leaves the work alone
pub replies-lifted : (command : Command) (old new : State) (work : Work) (usage : Usage) (searches : ℕ) (before after : List ℕ) (result : Result Reply Stop) → IsOfDomain command → CanReport work
    → RepliesTo command old new before after result → SessionReplies command (session old work usage searches) (session new work usage searches) before after result
replies-lifted command old new work usage searches before after (Ok Text) quiet can r =
    record { told = r.told; is = lifted command old new work usage searches r.told quiet can r.is; accepted = r.accepted; appended = r.appended }
replies-lifted command old new work usage searches before after (Ok Audit) quiet can r = (r.0, r.1, ap (λ (s : State). session s work usage searches) r.2, r.3, can)
replies-lifted command old new work usage searches before after (Ok (Asides count)) quiet can r = (r.0, r.1, ap (λ (s : State). session s work usage searches) r.2, r.3, can)
replies-lifted command old new work usage searches before after (Err (Refusing reason)) quiet can r = lifted command old new work usage searches (Refused reason) quiet can r
replies-lifted command old new work usage searches before after (Err (Memory error)) quiet can r = tt

-- ---- `prove` and `why`

module _ (tells : NumberedNet → Told → Type 0) (state : State) (work : Work) (usage : Usage) (searches now : ℕ) (told : Told) (can : CanReport work) (is : TellsOf tells state.current told) where
  told-shown : (lent : Lent) (domain : Domain) → IsShown lent (session state work usage searches) domain → TellsOf tells (last_version domain.nets) told
  told-shown lent domain like = subst (λ (s : State). TellsOf tells s.current told) (sym like.state) is

  -- it is answered, for which at most one search was made
  searching-answered : is_refusal told ≡ false → now ≤ searches + 1 → SessionTells (AsksSearching tells) (session state work usage searches) (session state work usage now) told
  searching-answered accepted more = record {
    reports = can;
    steps = λ lent domain like. (
      with_asked domain,
      record { state = like.state; work = like.work; usage = like.usage; searches = counts-asked domain lent.searches searches now more like.searches },
      (told-shown lent domain like, ap (λ (refused : Bool). after_question refused domain) (sym accepted)),
    );
  }

  -- or it is refused, and none was made
  searching-refused : is_refusal told ≡ true → now ≡ searches → SessionTells (AsksSearching tells) (session state work usage searches) (session state work usage now) told
  searching-refused refused same = record {
    reports = can;
    steps = λ lent domain like. (
      domain,
      subst (λ (n : ℕ). IsShown lent (session state work usage n) domain) (sym same) like,
      (told-shown lent domain like, ap (λ (refused : Bool). after_question refused domain) (sym refused)),
    );
  }

-- what was told to a question for which distances are searched for
pub searching-told : (tells : NumberedNet → Told → Type 0) (old : Session) (state : State) (work : Work) (usage : Usage) (searches now : ℕ) (before after : List ℕ) (result : Result (Unit {0}) Stop) → session state work usage searches ≡ old → CanReport work
    → Carries (TellsOf tells state.current) before after result → CountsQuestion searches now result → Carries (SessionTells (AsksSearching tells) old (session state work usage now)) before after result
searching-told tells old state work usage searches now before after (Ok done) same can c counts = record {
  told = c.told;
  is = subst (λ (s : Session). SessionTells (AsksSearching tells) s (session state work usage now) c.told) same
      (searching-answered tells state work usage searches now c.told can c.is c.accepted counts.1);
  accepted = c.accepted;
  appended = c.appended;
}
searching-told tells old state work usage searches now before after (Err (Refusing reason)) same can c counts =
    subst (λ (s : Session). SessionTells (AsksSearching tells) s (session state work usage now) (Refused reason)) same
    (searching-refused tells state work usage searches now (Refused reason) can c refl counts)
searching-told tells old state work usage searches now before after (Err (Memory error)) same can c counts = tt

-- ---- `commit`

-- a refused commit keeps all but the edits
rejected-stays : (domain : Domain) (reason : Refusal) (next : Domain) → Commits domain (Refused reason) next → Stays domain next
rejected-stays domain reason next (inl full) = subst (Stays domain) (sym full.1.1) (stays-itself domain)
rejected-stays domain reason next (inr (room, inl rejects)) = subst (Stays domain) (sym rejects.dropped) (record { nets = refl; background = refl; totals = refl; asked = refl; tried = refl })
rejected-stays domain reason next (inr (room, inr accepts)) =
    let e : Refused reason ≡ Version (version_of (length domain.nets + 1) accepts.net) = accepts.told_is in absurd (cc)

pub commit-rejected : (old new : State) (work : Work) (usage : Usage) (searches : ℕ) (reason : Refusal) → CanReport work → Moves Commits old new (Refused reason)
    → SessionTells Commits (session old work usage searches) (session new work usage searches) (Refused reason)
commit-rejected old new work usage searches reason can m = record {
  reports = can;
  steps = λ lent domain like.
      let next = m domain like.state in
      (next.0, still-shown lent old new work usage searches domain next.0 like next.1 (rejected-stays domain reason next.0 next.2), next.2);
}

-- what is published can still be reported
can-published : (work : Work) (version : NumberedNet) → CanReport work → CanReport (after_publishing work version)
can-published Idle version can = tt
can-published (Holds held) version can = can
can-published (Watches watched) version can = (can.0, get-left watched.versions (version ∷ []) 0 can.0 can.1, can.2)

-- what runs once a net is accepted
work-published : (nets : List Net) (background : Background) (work : Work) (net : Net) (version : NumberedNet) → version ≡ version_of (length nets + 1) net
    → IsWorkOf nets background work → IsWorkOf (net ∷ nets) background (after_publishing work version)
work-published nets AtRest Idle net version is w = tt
work-published nets AtRest (Holds held) net version is w = absurd w
work-published nets AtRest (Watches watched) net version is w = absurd w
work-published nets (OfHold held) Idle net version is w = absurd w
work-published nets (OfHold held) (Holds here) net version is w = w
work-published nets (OfHold held) (Watches watched) net version is w = absurd w
work-published nets (OfWatch begun) Idle net version is w = absurd w
work-published nets (OfWatch begun) (Holds here) net version is w = absurd w
work-published nets (OfWatch begun) (Watches watched) net version is w = record {
  watchers = w.watchers;
  rounds = w.rounds;
  versions = ap (λ (vs : List NumberedNet). vs ++ version ∷ []) w.versions
      ∙ ap (λ (v : NumberedNet). versions_since begun.from nets ++ v ∷ []) is
      ∙ sym (since-more begun.from net nets (omega (arith, w.since)));
  since = omega (arith, w.since);
}

-- and the counts
usage-published : (nets : List Net) (background : Background) (totals : WatchTotals) (work : Work) (usage : Usage) (version : NumberedNet) → IsWorkOf nets background work
    → ShowsWatches totals work usage → ShowsWatches (with_commit_during background totals) (after_publishing work version) (usage_published work usage)
usage-published nets AtRest totals Idle usage version w s = s
usage-published nets AtRest totals (Holds held) usage version w s = absurd w
usage-published nets AtRest totals (Watches watched) usage version w s = absurd w
usage-published nets (OfHold held) totals Idle usage version w s = absurd w
usage-published nets (OfHold held) totals (Holds here) usage version w s = s
usage-published nets (OfHold held) totals (Watches watched) usage version w s = absurd w
usage-published nets (OfWatch begun) totals Idle usage version w s = absurd w
usage-published nets (OfWatch begun) totals (Holds here) usage version w s = absurd w
usage-published nets (OfWatch begun) totals (Watches watched) usage version w s = record {
  places = s.places;
  published = omega (arith, s.published);
  given = s.given;
  given_is = s.given_is;
  few = s.few;
  turns = s.turns;
  turns_are = s.turns_are;
  enough = s.enough;
}

pub commit-accepted : (old : State) (work : Work) (usage : Usage) (searches count : ℕ) (version : NumberedNet) → IsNextVersion old version → number_of old.current < MOST_VERSION → CanReport work → IsCommitWork old.current version.net count
    → SessionTells Commits (session old work usage searches) (session (with_next_version old version) (after_publishing work version) (usage_published work usage) (searches + count)) (Version version)
commit-accepted old work usage searches count version next room can within = record {
  reports = can-published work version can;
  steps = λ lent domain like.
      let a = accepted-next old version room next domain like.state in (
        with_net domain version.net,
        record {
          state = a.0;
          work = work-published domain.nets domain.background work version.net version a.2 like.work;
          usage = λ fresh. usage-published domain.nets domain.background domain.totals work usage version like.work (like.usage fresh);
          searches = counts-accepted domain version.net lent.searches searches count like.searches (subst (λ (s : State). IsCommitWork s.current version.net count) (sym like.state) within);
        },
        a.1,
      );
}

-- the number after the last one follows in each running watch
pub follows-published : (work : Work) (version next : NumberedNet) → next.number ≡ version.number + 1 → MayFollow (after_publishing work version) next
follows-published Idle version next after = tt
follows-published (Holds held) version next after = tt
follows-published (Watches watched) version next after = λ last is.
    let at : length (watched.versions ++ version ∷ []) - 1 ≡ length watched.versions = omega (arith, length-append watched.versions (version ∷ [])) in
    let here : slice_get (watched.versions ++ version ∷ []) (length watched.versions) ≡ Some last = subst (λ (k : ℕ). slice_get (watched.versions ++ version ∷ []) k ≡ Some last) at is in
    let same : Some version ≡ Some last = sym (get-last watched.versions version) ∙ here in
    let one : version ≡ last = cc in
    omega (arith, after, ap (λ (v : NumberedNet). v.number) one)

-- ---- `hold` and `watch`

-- where no work runs, a domain is at rest
rests : (nets : List Net) (background : Background) (work : Work) → work ≡ Idle → IsWorkOf nets background work → background ≡ AtRest
rests nets AtRest work is w = refl
rests nets (OfHold held) work is w = absurd (subst (IsWorkOf nets (OfHold held)) is w)
rests nets (OfWatch begun) work is w = absurd (subst (IsWorkOf nets (OfWatch begun)) is w)

-- work begins on the last version
begins-here : (refuses : Refusal → Type 0) (begins : NumberedNet → Type 0) (last : Option NumberedNet) (background : Background) (version : NumberedNet)
    → last ≡ Some version → background ≡ AtRest → begins version → BeginsWork refuses begins last background
begins-here refuses begins last background version is rest b =
    subst (λ (o : Option NumberedNet). BeginsWork refuses begins o background) (sym is) (subst (λ (x : Background). BeginsWork refuses begins (Some version) x) (sym rest) b)

-- or is refused
hindered-here : (refuses : Refusal → Type 0) (begins : NumberedNet → Type 0) (nets : List Net) (last : Option NumberedNet) (background : Background) (work : Work) (reason : Refusal)
    → IsWorkOf nets background work → IsHindrance last work reason → refuses reason → BeginsWork refuses begins last background
hindered-here refuses begins nets None background work reason w h r = subst refuses h r
hindered-here refuses begins nets (Some version) AtRest Idle reason w h r = absurd h
hindered-here refuses begins nets (Some version) AtRest (Holds held) reason w h r = absurd w
hindered-here refuses begins nets (Some version) AtRest (Watches watched) reason w h r = absurd w
hindered-here refuses begins nets (Some version) (OfHold here) Idle reason w h r = absurd w
hindered-here refuses begins nets (Some version) (OfHold here) (Holds held) reason w h r = subst refuses h r
hindered-here refuses begins nets (Some version) (OfHold here) (Watches watched) reason w h r = absurd w
hindered-here refuses begins nets (Some version) (OfWatch begun) Idle reason w h r = absurd w
hindered-here refuses begins nets (Some version) (OfWatch begun) (Holds held) reason w h r = absurd w
hindered-here refuses begins nets (Some version) (OfWatch begun) (Watches watched) reason w h r = subst refuses h r

current-shown : (lent : Lent) (s : Session) (domain : Domain) → IsShown lent s domain → last_version domain.nets ≡ s.state.current
current-shown lent s domain like = ap (λ (x : State). x.current) like.state

module _ (old : Session) (reason : Refusal) (can : CanReport old.work) (h : IsHindrance old.state.current old.work reason) where
  hindered : (lent : Lent) (domain : Domain) → IsShown lent old domain → (refuses : Refusal → Type 0) (begins : NumberedNet → Type 0) → refuses reason → BeginsWork refuses begins (last_version domain.nets) domain.background
  hindered lent domain like refuses begins r =
      hindered-here refuses begins domain.nets (last_version domain.nets) domain.background old.work reason like.work
      (subst (λ (o : Option NumberedNet). IsHindrance o old.work reason) (sym (current-shown lent old domain like)) h) r

  -- `hold` is refused
  pub hold-hindered : SessionTells BeginsHold old old (Refused reason)
  hold-hindered = record { reports = can; steps = λ lent domain like. (domain, like, hindered lent domain like (Refuses domain (Refused reason) domain) _ (refl, refl)) }

  -- `watch` is refused
  pub watch-hindered : (watchers rounds : ℕ) → SessionTells (BeginsWatch watchers rounds) old old (Refused reason)
  watch-hindered watchers rounds = record { reports = can; steps = λ lent domain like. (domain, like, hindered lent domain like (Refuses domain (Refused reason) domain) _ (refl, refl)) }

-- a hold begins
pub hold-begun : (old : Session) (version : NumberedNet) → MayBegin old version → SessionTells BeginsHold old (session old.state (Holds version) old.usage old.searches) (Hold version.number)
hold-begun old version may = record {
  reports = may.audit;
  steps = λ lent domain like.
      let last : last_version domain.nets ≡ Some version = current-shown lent old domain like ∙ may.current in
      let rest = rests domain.nets domain.background old.work may.idle like.work in (
        with_hold domain version,
        record {
          state = like.state;
          work = refl;
          usage = λ fresh.
              let s = subst (λ (w : Work). ShowsWatches domain.totals w old.usage) may.idle (like.usage fresh) in
              record { places = s.places; published = s.published; given = s.given; given_is = s.given_is; few = s.few; turns = s.turns; turns_are = s.turns_are; enough = s.enough };
          searches = counts-still domain (with_hold domain version) lent.searches old.searches refl refl refl like.searches;
        },
        begins-here (Refuses domain (Hold version.number) (with_hold domain version)) _ (last_version domain.nets) domain.background version last rest (refl, refl),
      );
}

-- rounds of watchers without a reader, and of those with one
watch-product : (watchers rounds given : ℕ) → given ≤ watchers → rounds ≤ 16 → watchers * rounds ≤ 16 * (watchers - given) + given * rounds
watch-product watchers rounds given le few =
    let split : watchers ≡ (watchers - given) + given = omega (arith, le) in
    let apart : (watchers - given) * rounds ≤ (watchers - given) * 16 = mul-le-mul_left {m = rounds} {n = 16} (watchers - given) few in
    let all : watchers * rounds ≡ (watchers - given) * rounds + given * rounds = ap (λ (n : ℕ). n * rounds) split ∙ grind (arith) in
    omega (arith, apart, all)

usage-begun : (totals : WatchTotals) (usage : Usage) (watchers rounds given : ℕ) (version : NumberedNet) → given ≤ watchers → rounds ≤ 16 → ShowsWatches totals Idle usage
    → ShowsWatches (with_watch_begun totals (watch_from watchers rounds version)) (Watches (record { watchers = watchers; rounds = rounds; given = given; versions = version ∷ [] })) (opened usage watchers given)
usage-begun totals usage watchers rounds given version le few s =
    let product = watch-product watchers rounds given le few in
    record {
      places = omega (arith, s.places);
      published = s.published;
      given = s.given + given;
      given_is = omega (arith, s.given_is);
      few = omega (arith, s.few, le);
      turns = s.turns;
      turns_are = s.turns_are;
      enough = omega (arith, s.enough, s.few, product, le);
    }

-- a watch begins
pub watch-begun : (old : Session) (version : NumberedNet) (watchers rounds : ℕ) (work : Work) (usage : Usage) → rounds ≤ 16 → MayBegin old version → StartsWatch watchers rounds version work old.usage usage
    → SessionTells (BeginsWatch watchers rounds) old (session old.state work usage old.searches) (Watch watchers rounds version.number)
watch-begun old version watchers rounds work usage few may starts =
    let running : Work = Watches (record { watchers = watchers; rounds = rounds; given = starts.given; versions = version ∷ [] }) in
    record {
      reports = subst CanReport (sym starts.work_is) (version, refl, may.audit);
      steps = λ lent domain like.
          let last : last_version domain.nets ≡ Some version = current-shown lent old domain like ∙ may.current in
          let rest = rests domain.nets domain.background old.work may.idle like.work in (
            with_watch domain (watch_from watchers rounds version),
            record {
              state = like.state;
              work = subst (IsWorkOf domain.nets (OfWatch (watch_from watchers rounds version))) (sym starts.work_is)
                  (record { watchers = refl; rounds = refl; versions = sym (since-last domain.nets version last); since = omega (arith, last-number domain.nets version last) });
              usage = λ fresh.
                  let s = subst (λ (w : Work). ShowsWatches domain.totals w old.usage) may.idle (like.usage fresh) in
                  subst (λ (u : Usage). ShowsWatches (with_watch_begun domain.totals (watch_from watchers rounds version)) work u) (sym starts.counts)
                  (subst (λ (w : Work). ShowsWatches (with_watch_begun domain.totals (watch_from watchers rounds version)) w (opened old.usage watchers starts.given)) (sym starts.work_is)
                  (usage-begun domain.totals old.usage watchers rounds starts.given version starts.few few s));
              searches = counts-still domain (with_watch domain (watch_from watchers rounds version)) lent.searches old.searches refl refl refl like.searches;
            },
            begins-here (Refuses domain (Watch watchers rounds version.number) (with_watch domain (watch_from watchers rounds version))) _ (last_version domain.nets) domain.background version last rest (refl, refl),
          );
    }

-- the next version follows in a watch that has just begun
pub follows-begun : (watchers rounds given : ℕ) (version next : NumberedNet) → next.number ≡ version.number + 1 → MayFollow (Watches (record { watchers = watchers; rounds = rounds; given = given; versions = version ∷ [] })) next
follows-begun watchers rounds given version next after = λ last is. let same : version ≡ last = cc in omega (arith, after, ap (λ (v : NumberedNet). v.number) same)

-- ---- `join`, and the end

due-joined : (nets : List Net) (background : Background) (work : Work) (reports : List RoundReport) → IsWorkOf nets background work → AreReportsOf work reports → AreDue background nets reports
due-joined nets AtRest Idle reports w r = r
due-joined nets AtRest (Holds held) reports w r = absurd w
due-joined nets AtRest (Watches watched) reports w r = absurd w
due-joined nets (OfHold held) Idle reports w r = absurd w
due-joined nets (OfHold held) (Holds here) reports w r = subst (λ (v : NumberedNet). AreDue (OfHold v) nets reports) w r
due-joined nets (OfHold held) (Watches watched) reports w r = absurd w
due-joined nets (OfWatch begun) Idle reports w r = absurd w
due-joined nets (OfWatch begun) (Holds here) reports w r = absurd w
due-joined nets (OfWatch begun) (Watches watched) reports w r = rw (w.watchers, w.rounds, w.versions) at r

usage-joined : (totals : WatchTotals) (work : Work) (usage : Usage) → ShowsWatches totals work usage → ShowsWatches totals Idle (usage_joined work usage)
usage-joined totals Idle usage s = s
usage-joined totals (Holds held) usage s =
    record { places = s.places; published = s.published; given = s.given; given_is = s.given_is; few = s.few; turns = s.turns; turns_are = s.turns_are; enough = s.enough }
usage-joined totals (Watches watched) usage s = record {
  places = s.places;
  published = s.published;
  given = s.given;
  given_is = s.given_is;
  few = s.few;
  turns = s.turns + watched.given * watched.rounds;
  turns_are = omega (arith, s.turns_are);
  enough = omega (arith, s.enough);
}

-- what runs is joined
pub joined : (old : Session) (reports : List RoundReport) (usage : Usage) → AreReportsOf old.work reports → usage ≡ usage_joined old.work old.usage
    → StepsAs (λ domain next. JoinsReporting domain reports next) old (session old.state Idle usage old.searches)
joined old reports usage are is = record {
  reports = tt;
  steps = λ lent domain like. (
    with_joined domain,
    record {
      state = like.state;
      work = tt;
      usage = λ fresh. subst (λ (u : Usage). ShowsWatches domain.totals Idle u) (sym is) (usage-joined domain.totals old.work old.usage (like.usage fresh));
      searches = counts-still domain (with_joined domain) lent.searches old.searches refl refl refl like.searches;
    },
    (due-joined domain.nets domain.background old.work reports like.work are, refl),
  );
}

-- and told
pub joined-told : (old new : Session) (before after : List ℕ) → PutsJoined old new before after → PutsTold (SessionTells JoinsWork old new) before after
joined-told old new before after p = record {
  told = Joined p.reports;
  is = record {
    reports = p.joins.reports;
    steps = λ lent domain like. let next = p.joins.steps lent domain like in (next.0, next.1, (p.reports, next.2, refl));
  };
  accepted = refl;
  appended = p.appended;
}

running-ends : (nets : List Net) (background : Background) (work : Work) (domain next : Domain) (reports : List RoundReport) → is_running work ≡ true → IsWorkOf nets background work
    → JoinsReporting domain reports next → EndsWork background domain (report_lines reports ++ joined_line (length reports)) next
running-ends nets AtRest Idle domain next reports runs w j = cc
running-ends nets AtRest (Holds held) domain next reports runs w j = absurd w
running-ends nets AtRest (Watches watched) domain next reports runs w j = absurd w
running-ends nets (OfHold held) work domain next reports runs w j = (reports, j, refl)
running-ends nets (OfWatch begun) work domain next reports runs w j = (reports, j, refl)

-- work that runs is joined at the end
pub ends-joined : (old new : Session) (reports : List RoundReport) → is_running old.work ≡ true → StepsAs (λ domain next. JoinsReporting domain reports next) old new
    → SessionEnds old (report_lines reports ++ joined_line (length reports)) new
ends-joined old new reports runs j = record {
  reports = j.reports;
  steps = λ lent domain like.
      let next = j.steps lent domain like in
      (next.0, next.1, running-ends domain.nets domain.background old.work domain next.0 reports runs like.work next.2);
}

resting-ends : (nets : List Net) (background : Background) (work : Work) (domain : Domain) → is_running work ≡ false → IsWorkOf nets background work → EndsWork background domain [] domain
resting-ends nets AtRest work domain runs w = (refl, refl)
resting-ends nets (OfHold held) Idle domain runs w = absurd w
resting-ends nets (OfHold held) (Holds here) domain runs w = cc
resting-ends nets (OfHold held) (Watches watched) domain runs w = absurd w
resting-ends nets (OfWatch begun) Idle domain runs w = absurd w
resting-ends nets (OfWatch begun) (Holds here) domain runs w = absurd w
resting-ends nets (OfWatch begun) (Watches watched) domain runs w = cc

-- where no work runs, the end says nothing
pub ends-resting : (old : Session) → CanReport old.work → is_running old.work ≡ false → SessionEnds old [] old
ends-resting old can runs = record {
  reports = can;
  steps = λ lent domain like. (domain, like, resting-ends domain.nets domain.background old.work domain runs like.work);
}

-- ---- as the session's functions have it: `here` is what the session keeps as its parts

pub hold-told : (old here : Session) (version : NumberedNet) (work : Work) (number : ℕ) → here ≡ old → MayBegin old version → work ≡ Holds version → number ≡ version.number
    → SessionTells BeginsHold old (session here.state work here.usage here.searches) (Hold number)
hold-told old here version work number same may is counted =
    subst (λ (s : Session). SessionTells BeginsHold old (session s.state work s.usage s.searches) (Hold number)) (sym same)
    (subst (λ (w : Work). SessionTells BeginsHold old (session old.state w old.usage old.searches) (Hold number)) (sym is)
    (subst (λ (n : ℕ). SessionTells BeginsHold old (session old.state (Holds version) old.usage old.searches) (Hold n)) (sym counted) (hold-begun old version may)))

pub watch-told : (old here : Session) (version : NumberedNet) (watchers rounds : ℕ) (work : Work) (usage : Usage) (number : ℕ) → here ≡ old → rounds ≤ 16 → MayBegin old version
    → StartsWatch watchers rounds version work here.usage usage → number ≡ version.number → SessionTells (BeginsWatch watchers rounds) old (session here.state work usage here.searches) (Watch watchers rounds number)
watch-told old here version watchers rounds work usage number same few may starts counted =
    subst (λ (n : ℕ). SessionTells (BeginsWatch watchers rounds) old (session here.state work usage here.searches) (Watch watchers rounds n)) (sym counted)
    (subst (λ (s : Session). SessionTells (BeginsWatch watchers rounds) old (session s.state work usage s.searches) (Watch watchers rounds version.number)) (sym same)
    (watch-begun old version watchers rounds work usage few may (subst (λ (s : Session). StartsWatch watchers rounds version work s.usage usage) same starts)))

pub joined-puts : (old here : Session) (reports : List RoundReport) (usage : Usage) (before after : List ℕ) → here ≡ old → AreReportsOf here.work reports → usage ≡ usage_joined here.work here.usage
    → ((number : ℕ) → after ≡ before ++ spelled number (Joined reports)) → PutsJoined old (session here.state Idle usage here.searches) before after
joined-puts old here reports usage before after same are is text =
    let j : StepsAs (λ domain next. JoinsReporting domain reports next) here (session here.state Idle usage here.searches) = joined here reports usage are is in
    record { reports = reports; joins = subst (λ (s : Session). StepsAs (λ domain next. JoinsReporting domain reports next) s (session here.state Idle usage here.searches)) same j; appended = text }

pub hold-refused : (old here : Session) (reason : Refusal) → here ≡ old → CanReport here.work → IsHindrance old.state.current old.work reason → SessionTells BeginsHold old here (Refused reason)
hold-refused old here reason same can h =
    subst (λ (s : Session). SessionTells BeginsHold old s (Refused reason)) (sym same) (hold-hindered old reason (subst (λ (s : Session). CanReport s.work) same can) h)

pub watch-refused : (old here : Session) (watchers rounds : ℕ) (reason : Refusal) → here ≡ old → CanReport here.work → IsHindrance old.state.current old.work reason → SessionTells (BeginsWatch watchers rounds) old here (Refused reason)
watch-refused old here watchers rounds reason same can h =
    subst (λ (s : Session). SessionTells (BeginsWatch watchers rounds) old s (Refused reason)) (sym same) (watch-hindered old reason (subst (λ (s : Session). CanReport s.work) same can) h watchers rounds)

-- how a command that was told is answered
pub told-replies : (command : Command) (old new : Session) (before after : List ℕ) (told : Result (Unit {0}) Stop) (result : Result Reply Stop)
    → Carries (SessionTells (λ domain t next. Tells domain command t next) old new) before after told → IsReply told result → SessionReplies command old new before after result
told-replies command old new before after (Ok done) result c r = subst (SessionReplies command old new before after) (sym r) c
told-replies command old new before after (Err (Refusing reason)) result c r = subst (SessionReplies command old new before after) (sym r) c
told-replies command old new before after (Err (Memory error)) result c r = subst (SessionReplies command old new before after) (sym r) tt

-- a commit that was accepted and published
pub commit-told : (old : Session) (here new : State) (work after_work : Work) (usage counted : Usage) (searches now : ℕ) (before after : List ℕ) → session here work usage searches ≡ old → CanReport work
    → CommitsVersion here new before after (Ok tt) → CountsCommit here new searches now (Ok tt) → IsPublished new.current work usage after_work counted
    → PutsTold (SessionTells Commits old (session new after_work counted now)) before after
commit-told old here new work after_work usage counted searches now before after same can committed counts published =
    let version = committed.0 in
    let some : new.current ≡ Some version = ap (λ (s : State). s.current) committed.2 in
    let p : IsPublished (Some version) work usage after_work counted = subst (λ (o : Option NumberedNet). IsPublished o work usage after_work counted) some published in
    let within : CountsCommitWork here.current version.net searches now =
    subst (λ (o : Option NumberedNet). IfSome o (λ v. CountsCommitWork here.current v.net searches now)) some counts in
    let tells : SessionTells Commits old (session (with_next_version here version) (after_publishing work version) (usage_published work usage) (searches + within.0)) (Version version) =
    subst (λ (s : Session). SessionTells Commits s (session (with_next_version here version) (after_publishing work version) (usage_published work usage) (searches + within.0)) (Version version)) same
    (commit-accepted here work usage searches within.0 version committed.1 committed.3 can within.2) in
    record {
      told = Version version;
      is = subst (λ (s : State). SessionTells Commits old (session s after_work counted now) (Version version)) (sym committed.2)
          (subst (λ (w : Work). SessionTells Commits old (session (with_next_version here version) w counted now) (Version version)) (sym p.0)
          (subst (λ (u : Usage). SessionTells Commits old (session (with_next_version here version) (after_publishing work version) u now) (Version version)) (sym p.1)
          (subst (λ (n : ℕ). SessionTells Commits old (session (with_next_version here version) (after_publishing work version) (usage_published work usage) n) (Version version)) (sym within.1) tells)));
      accepted = refl;
      appended = committed.4;
    }

pub commit-refused : (old : Session) (here new : State) (work : Work) (usage : Usage) (searches now : ℕ) (reason : Refusal) → session here work usage searches ≡ old → CanReport work → Moves Commits here new (Refused reason) → now ≡ searches
    → SessionTells Commits old (session new work usage now) (Refused reason)
commit-refused old here new work usage searches now reason same can m still =
    subst (λ (n : ℕ). SessionTells Commits old (session new work usage n) (Refused reason)) (sym still)
    (subst (λ (s : Session). SessionTells Commits s (session new work usage searches) (Refused reason)) same (commit-rejected here new work usage searches reason can m))

-- ---- what a session keeps of its work

-- where the last version stays, it keeps it
pub kept-still : (old new : State) (work : Work) → new.current ≡ old.current → IsKeptWork old work → IsKeptWork new work
kept-still old new work same kept = record {
  reports = kept.reports;
  follows = λ next after. kept.follows next (after ∙ ap (λ (o : Option NumberedNet). number_of o + 1) same);
}

-- where the next one was published
pub kept-published : (here new : State) (work after_work : Work) (usage counted : Usage) (before after : List ℕ) → CommitsVersion here new before after (Ok tt)
    → IsPublished new.current work usage after_work counted → IsKeptWork here work → IsKeptWork new after_work
kept-published here new work after_work usage counted before after committed published kept =
    let version = committed.0 in
    let some : new.current ≡ Some version = ap (λ (s : State). s.current) committed.2 in
    let p : IsPublished (Some version) work usage after_work counted = subst (λ (o : Option NumberedNet). IsPublished o work usage after_work counted) some published in
    subst (IsKeptWork new) (sym p.0)
    (record {
      reports = can-published work version kept.reports;
      follows = λ next more. follows-published work version next (more ∙ ap (λ (o : Option NumberedNet). number_of o + 1) some);
    })

-- the next version may be published
pub may-publish : (here new : State) (work : Work) (before after : List ℕ) → CommitsVersion here new before after (Ok tt) → IsKeptWork here work → IfSome new.current (MayFollow work)
may-publish here new work before after committed kept =
    let version = committed.0 in
    let some : new.current ≡ Some version = ap (λ (s : State). s.current) committed.2 in
    subst (λ (o : Option NumberedNet). IfSome o (MayFollow work)) (sym some) (kept.follows version committed.1.counted)

-- and where nothing runs
pub kept-idle : (state : State) (work : Work) → work ≡ Idle → IsKeptWork state work
kept-idle state work is = subst (IsKeptWork state) (sym is) (record { reports = tt; follows = λ next after. tt })

-- where a hold has begun
pub kept-hold : (state : State) (version : NumberedNet) (work : Work) → work ≡ Holds version → HasAudit version → IsKeptWork state work
kept-hold state version work is audit = subst (IsKeptWork state) (sym is) (record { reports = audit; follows = λ next after. tt })

-- and a watch
pub kept-watch : (state : State) (version : NumberedNet) (watchers rounds : ℕ) (work : Work) (usage counted : Usage) → state.current ≡ Some version → HasAudit version
    → StartsWatch watchers rounds version work usage counted → IsKeptWork state work
kept-watch state version watchers rounds work usage counted some audit starts =
    subst (IsKeptWork state) (sym starts.work_is)
    (record {
      reports = (version, refl, audit);
      follows = λ next after. follows-begun watchers rounds starts.given version next (after ∙ ap (λ (o : Option NumberedNet). number_of o + 1) some);
    })

-- a commit that wasn't accepted keeps the last version
pub commit-keeps : (here new : State) (before after : List ℕ) (stop : Stop) → CommitsVersion here new before after (Err stop) → new.current ≡ here.current
commit-keeps here new before after (Refusing reason) h = h.0
commit-keeps here new before after (Memory error) h = h

-- and is told so
pub commit-stopped : (old : Session) (here new : State) (work : Work) (usage : Usage) (searches now : ℕ) (before after : List ℕ) (stop : Stop) → session here work usage searches ≡ old → CanReport work
    → CommitsVersion here new before after (Err stop) → CountsCommit here new searches now (Err stop) → Carries (SessionTells Commits old (session new work usage now)) before after (Err stop)
commit-stopped old here new work usage searches now before after (Refusing reason) same can h counts = commit-refused old here new work usage searches now reason same can h.1 counts
commit-stopped old here new work usage searches now before after (Memory error) same can h counts = tt

pub not-true : (b : Bool) → true ≡ not b → b ≡ false
not-true true e = cc
not-true false e = refl

pub not-false : (b : Bool) → false ≡ not b → b ≡ true
not-false true e = refl
not-false false e = cc

-- a command that is none of these leaves background work alone
pub of-domain : (command : Command) → (command ≡ CommitWord → ⊥) → ((repair : RepairName) → command ≡ ProveWord repair → ⊥) → ((repair : RepairName) → command ≡ WhyWord repair → ⊥) → (command ≡ HoldWord → ⊥) → ((t : ℕ) → (r : ℕ) → command ≡ WatchWord t r → ⊥) → (command ≡ JoinWord → ⊥) → IsOfDomain command
of-domain CommitWord a p y b w j = a refl
of-domain (ProveWord repair) a p y b w j = p repair refl
of-domain (WhyWord repair) a p y b w j = y repair refl
of-domain HoldWord a p y b w j = b refl
of-domain (WatchWord t r) a p y b w j = w t r refl
of-domain JoinWord a p y b w j = j refl
of-domain command a p y b w j = tt

-- the last version of a session that committed was published, or the work was given up
pub kept-either : (here new : State) (current : Option NumberedNet) (work after_work : Work) (usage counted : Usage) (before after : List ℕ) (result : Result (Unit {0}) AllocError) → current ≡ new.current
    → CommitsVersion here new before after (Ok tt) → MatchResult result (λ _. IsPublished current work usage after_work counted) (λ _. after_work ≡ Idle) → IsKeptWork here work → IsKeptWork new after_work
kept-either here new current work after_work usage counted before after (Ok done) is committed published kept =
    kept-published here new work after_work usage counted before after committed (subst (λ (o : Option NumberedNet). IsPublished o work usage after_work counted) is published) kept
kept-either here new current work after_work usage counted before after (Err error) is committed idle kept = kept-idle new after_work idle

-- a running session's end
pub ends-told : (old new : Session) (text : List ℕ) (before after : Written) (put : Result (Unit {0}) SinkFault) (result : Result Bool SinkFault) → is_running old.work ≡ true → PutsJoined old new [] text
    → Puts before after text put → IsNoRefusal put result → Gives (AtEnd SessionEnds old) before after result new
ends-told old new text before after (Ok done) result runs p puts r =
    subst (λ (x : Result Bool SinkFault). Gives (AtEnd SessionEnds old) before after x new) (sym r)
    (record { said = text; says = puts; is = (refl, subst (λ (t : List ℕ). SessionEnds old t new) (sym (p.appended 0)) (ends-joined old new p.reports runs p.joins)) })
ends-told old new text before after (Err fault) result runs p puts r =
    subst (λ (x : Result Bool SinkFault). Gives (AtEnd SessionEnds old) before after x new) (sym r)
    (record {
      text = text;
      breaks = puts;
      begins = inr (record { refused = false; new = new; is = (refl, subst (λ (t : List ℕ). SessionEnds old t new) (sym (p.appended 0)) (ends-joined old new p.reports runs p.joins)) });
    })
