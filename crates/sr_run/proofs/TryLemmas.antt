-- What is told to a question that is tried, and what a session shows after it.
use Rattle.std.proofs.Common.{◌≡◌, ℕ, ◌+◌, ◌<◌, length, List, Option, refl, sym, subst, ap, ◌∙◌, inl, inr, arith}
use Rattle.sr_lsdb.specs.Editing.{Editing}
use Rattle.sr_domain.specs.Net.{IsNetOf}
use Rattle.sr_domain.specs.Rules.{IsFirstBrokenRule}
use Rattle.sr_script.specs.declared.command.Command.{Command}
use Rattle.sr_script.specs.declared.command.Command.TheVariants.{Aside, AuditFull}
use Rattle.sr_print.specs.declared.refusal.Refusal.{Refusal}
use Rattle.sr_print.specs.Told.{Told}
use Rattle.sr_print.specs.Told.Told.{Refused}
use Rattle.sr_repair.specs.Version.{NumberedNet, version_of}
use Rattle.sr_work.specs.declared.work.Work.{Work}
use Rattle.sr_store.specs.declared.usage.Usage.{Usage}
use Rattle.sr_model.specs.declared.limits.TheConstants.{MOST_VERSION}
use Rattle.sr_run.specs.Domain.{Domain, last_version, number_of, with_tried}
use Rattle.sr_run.specs.Searches.{CountsSearches, IsCommitWork}
use Rattle.sr_run.specs.Asked.{TellsQuestion}
use Rattle.sr_run.specs.Tries.{Tries}
use Rattle.sr_run.specs.State.{State, Session, IsShown, CanReport, IsNextVersion, state_of}
use Rattle.sr_run.specs.Session.{TellsOf}
use Rattle.sr_run.specs.Account.{TellsAsides}
use Rattle.sr_run.specs.Failures.{TellsAudit}
use Rattle.sr_run.specs.Handlers.{PutsTold, SessionTells, MakesTried, RefusesTry, TriesFrom}
use Rattle.sr_run.proofs.HandlerLemmas.{number-length}
use Rattle.sr_run.proofs.SearchLemmas.{counts-tried}
use Rattle.sr_run.proofs.SessionLemmas.{session}

-- how many nets a domain has is the number that the session shows
nets-shown : (state : State) (domain : Domain) → state_of domain ≡ state → number_of state.current ≡ length domain.nets
nets-shown state domain same = ap (λ (s : State). number_of s.current) (sym same) ∙ number-length domain.nets

-- a refusal is told of each domain that the session shows
refused-shown : (question : Command) (state : State) (domain : Domain) (reason : Refusal) → state_of domain ≡ state → RefusesTry state reason → Tries question domain (Refused reason) domain
refused-shown question state domain reason same (inl full) = inl (omega (arith, full.0, nets-shown state domain same), (ap Refused full.1, refl))
refused-shown question state domain reason same (inr (room, (rule, broken, is))) =
    inr (
      omega (arith, room, nets-shown state domain same),
      inl (record {
        rule = rule;
        broken = subst (λ (s : State). IsFirstBrokenRule s.editing.tentative rule) (sym same) broken;
        refused = (ap Refused is, refl);
      }),
    )

-- so is what the version tells that was made
asked-shown : (question : Command) (state : State) (domain : Domain) (version : NumberedNet) (told : Told) → state_of domain ≡ state → number_of state.current < MOST_VERSION → IsNextVersion state version
    → TellsQuestion question state.editing.tentative state.current version told → Tries question domain told (with_tried domain version.net)
asked-shown question state domain version told same room next tells =
    let count = nets-shown state domain same in
    let edited : domain.editing ≡ state.editing = ap (λ (s : State). s.editing) same in
    let number : version.number ≡ length domain.nets + 1 = omega (arith, next.counted, count) in
    inr (
      omega (arith, room, count),
      inr (record {
        net = version.net;
        is_net = subst (λ (e : Editing). IsNetOf e.tentative version.net) (sym edited) next.net;
        tells = subst (λ (k : ℕ). TellsQuestion question domain.editing.tentative (last_version domain.nets) (version_of k version.net) told) number
            (subst (λ (s : State). TellsQuestion question s.editing.tentative s.current version told) (sym same) tells);
        tried = refl;
      }),
    )

module _ (question : Command) (state : State) (work : Work) (usage : Usage) (searches now : ℕ) (can : CanReport work) where
  refused-told : (reason : Refusal) → RefusesTry state reason → now ≡ searches → SessionTells (Tries question) (session state work usage searches) (session state work usage now) (Refused reason)
  refused-told reason refuses same = record {
    reports = can;
    steps = λ lent domain like. (
      domain,
      subst (λ (n : ℕ). IsShown lent (session state work usage n) domain) (sym same) like,
      refused-shown question state domain reason like.state refuses,
    );
  }

  asked-told : (version : NumberedNet) (count : ℕ) (told : Told) → number_of state.current < MOST_VERSION → IsNextVersion state version → now ≡ searches + count → IsCommitWork state.current version.net count
      → TellsQuestion question state.editing.tentative state.current version told → SessionTells (Tries question) (session state work usage searches) (session state work usage now) told
  asked-told version count told room next more within tells = record {
    reports = can;
    steps = λ lent domain like. (
      with_tried domain version.net,
      record {
        state = like.state;
        work = like.work;
        usage = like.usage;
        searches = subst (λ (n : ℕ). CountsSearches (with_tried domain version.net) lent.searches n) (sym more)
            (counts-tried domain version.net lent.searches searches count like.searches (subst (λ (s : State). IsCommitWork s.current version.net count) (sym like.state) within));
      },
      asked-shown question state domain version told like.state room next tells,
    );
  }

  -- what was told to a question that is tried
  from-told : (told : Told) → TriesFrom question state searches now told → SessionTells (Tries question) (session state work usage searches) (session state work usage now) told
  from-told told (inl (reason, refuses, is, same)) =
      subst (λ (t : Told). SessionTells (Tries question) (session state work usage searches) (session state work usage now) t) (sym is) (refused-told reason refuses same)
  from-told told (inr (tried, (version, some, room, next, work), tells)) =
      asked-told version work.0 told room next work.1 work.2 (subst (λ (o : Option NumberedNet). TellsOf (TellsQuestion question state.editing.tentative state.current) o told) some tells)

-- the same of a session that is known to be of these parts
pub tried-told : (question : Command) (old : Session) (state : State) (work : Work) (usage : Usage) (searches now : ℕ) → session state work usage searches ≡ old → CanReport work
    → (told : Told) → TriesFrom question state searches now told → SessionTells (Tries question) old (session state work usage now) told
tried-told question old state work usage searches now is can told t =
    subst (λ (s : Session). SessionTells (Tries question) s (session state work usage now) told) is (from-told question state work usage searches now can told t)

-- what was appended
pub puts-tried : (question : Command) (old : Session) (state : State) (work : Work) (usage : Usage) (searches now : ℕ) → session state work usage searches ≡ old → CanReport work
    → (before after : List ℕ) → PutsTold (TriesFrom question state searches now) before after → PutsTold (SessionTells (Tries question) old (session state work usage now)) before after
puts-tried question old state work usage searches now is can before after p = record {
  told = p.told;
  is = tried-told question old state work usage searches now is can p.told p.is;
  accepted = p.accepted;
  appended = p.appended;
}

-- an audit of the version that was made
pub audit-tried : (question : Command) (old : Session) (state : State) (work : Work) (usage : Usage) (searches now : ℕ) → session state work usage searches ≡ old → CanReport work
    → (tried : Option NumberedNet) → question ≡ AuditFull → MakesTried state searches now tried → (told : Told) → TellsOf TellsAudit tried told → SessionTells (Tries question) old (session state work usage now) told
audit-tried question old state work usage searches now is can tried audit makes told t =
    subst (λ (k : Command). SessionTells (Tries k) old (session state work usage now) told) (sym audit)
    (tried-told AuditFull old state work usage searches now is can told (inr (tried, makes, t)))

-- what isn't used of the tentative facts
pub asides-tried : (question : Command) (old : Session) (state : State) (work : Work) (usage : Usage) (searches now : ℕ) → session state work usage searches ≡ old → CanReport work
    → (tried : Option NumberedNet) → question ≡ Aside → MakesTried state searches now tried → (told : Told) → TellsOf (TellsAsides state.editing.tentative) tried told → SessionTells (Tries question) old (session state work usage now) told
asides-tried question old state work usage searches now is can tried aside makes told t =
    subst (λ (k : Command). SessionTells (Tries k) old (session state work usage now) told) (sym aside)
    (tried-told Aside old state work usage searches now is can told (inr (tried, makes, t)))
