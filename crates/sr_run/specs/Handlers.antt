-- What the session's functions say: what was appended is told, or why they stopped is.
use Rattle.std.specs.Prelude.{◌≡◌, ℕ, ◌+◌, ◌<◌, ◌≤◌, ◌⊎◌, Bool, true, false, List, ◌++◌, length, Option, Some, None, is_some, IfSome, MatchResult}
use Rattle.std.specs.declared.alloc.AllocError.{AllocError}
use Rattle.std.specs.declared.result.Result.{Result}
use Rattle.std.specs.declared.result.Result.TheVariants.{Ok, Err}
use Rattle.sr_model.specs.declared.case.Case.{Case}
use Rattle.sr_model.specs.Case.{IsAffected}
use Rattle.sr_model.specs.declared.link.LinkNo.{LinkNo}
use Rattle.sr_model.specs.declared.name.LinkKey.{LinkKey}
use Rattle.sr_model.specs.declared.rule.DomainRule.{DomainRule}
use Rattle.sr_model.specs.Label.{Net}
use Rattle.sr_model.specs.Key.{pair_of}
use Rattle.sr_lsdb.specs.Edit.{Edit}
use Rattle.sr_lsdb.specs.Edit.Edit.{SetCost, TakeDown, BringUp}
use Rattle.sr_lsdb.specs.declared.stage_fault.StageFault.{StageFault}
use Rattle.sr_lsdb.specs.declared.stage_fault.StageFault.TheVariants.{Stale, Full, Memory as WantingMemory}
use Rattle.sr_script.specs.declared.name.EndNames.{EndNames}
use Rattle.sr_script.specs.declared.name.LinkName.{LinkName}
use Rattle.sr_script.specs.declared.name.RepairName.{RepairName}
use Rattle.sr_script.specs.declared.command.Command.{Command}
use Rattle.sr_model.specs.declared.link.TheConstants.{MOST_METRIC}
use Rattle.sr_script.specs.declared.command.TheConstants.{MOST_WORKERS, MOST_EACH}
use Rattle.sr_model.specs.declared.limits.TheConstants.{MOST_DEPTH, MOST_WATCHERS, MOST_ROUNDS, MOST_VERSION}
use Rattle.sr_script.specs.declared.command.Command.TheVariants.{Cost, Depth, Load, Prove, ProofOpen, ProofVia, ProofNode, ProofAdj, ProofRow, ProofDone, Commit, AuditFull, Aside as AsideWord, Hold, Watch, Join, Why}
use Rattle.sr_script.specs.Says.{is_question}
use Rattle.sr_print.specs.declared.refusal.Refusal.{Refusal}
use Rattle.sr_print.specs.declared.refusal.Refusal.TheVariants as refusal
use Rattle.sr_print.specs.Told.{Told, spelled, is_refusal}
use Rattle.sr_print.specs.Told.Told.{Staged, Version, Joined, Refused as RefusedTold}
use Rattle.sr_engine.specs.Endings.{Devices, Ran, CountsShow}
use Rattle.sr_engine.specs.Replies.{Allowed, Conduct}
use Rattle.sr_engine.specs.declared.end.End.{End}
use Rattle.sr_engine.specs.Written.{Written, Says, Breaks, Puts}
use Rattle.sr_base.specs.declared.SinkFault.{SinkFault}
use Rattle.sr_model.specs.declared.audit.Item.{Item}
use Rattle.sr_model.specs.declared.audit.RoundReport.{RoundReport}
use Rattle.sr_model.specs.Audit.{IsAudit, counts_of}
use Rattle.sr_lsdb.specs.declared.facts.Facts.{Facts}
use Rattle.sr_account.specs.declared.aside.Aside.{Aside}
use Rattle.sr_account.specs.Asides.{AreAsides}
use Rattle.sr_account.specs.Laws.{IsAccountOf}
use Rattle.sr_print.specs.Account.{asides_text}
use Rattle.sr_print.specs.Repairs.{item_lines, summary_line}
use Rattle.sr_print.specs.Refused.{refused_line}
use Rattle.sr_repair.specs.Version.{NumberedNet}
use Rattle.sr_script.specs.declared.line.LineFault.{LineFault}
use Rattle.sr_cert.specs.declared.draft.CertLine.{CertLine}
use Rattle.sr_cert.specs.Draft.{CertDraft, with_line}
use Rattle.sr_run.specs.declared.stop.Stop.{Stop}
use Rattle.sr_run.specs.declared.stop.Stop.TheVariants.{Refused, Memory}
use Rattle.sr_run.specs.declared.edits.LinkEdit.{LinkEdit}
use Rattle.sr_run.specs.declared.edits.LinkEdit.TheVariants.{Cost as CostEdit, Down as DownEdit, Up as UpEdit}
use Rattle.sr_run.specs.declared.session.Reply.{Reply}
use Rattle.sr_run.specs.declared.tries.Tried.{Tried}
use Rattle.sr_run.specs.declared.tries.Tried.TheVariants.{Text as TriedText, Audit as TriedAudit, Asides as TriedAsides}
use Rattle.sr_run.specs.declared.session.Reply.TheVariants.{Text, Audit, Asides}
use Rattle.sr_store.specs.declared.usage.Usage.{Usage}
use Rattle.sr_work.specs.declared.work.Work.{Work}
use Rattle.sr_work.specs.declared.work.Work.TheVariants.{Idle, Holds, Watches}
use Rattle.sr_work.specs.Works.{after_publishing, usage_published}
use Rattle.sr_run.specs.Domain.{Domain, number_of}
use Rattle.sr_domain.specs.Rules.{IsFirstBrokenRule}
use Rattle.sr_run.specs.Edits.{Commits}
use Rattle.sr_run.specs.Asked.{TellsQuestion}
use Rattle.sr_run.specs.Background.{JoinsReporting}
use Rattle.sr_run.specs.Names.{IsNamedNode, NamesNode, OfEnds, OfAnnounced, OfNamedLink, OfFailure, OfAffected, IsLinkOf, key_meant}
use Rattle.sr_run.specs.Session.{Tells, TellsOf, Answers, EndsScript, IsRefusedAs}
use Rattle.sr_run.specs.Searches.{CountsCommitWork}
use Rattle.sr_run.specs.State.{State, Session, IsShown, CanReport, HasAudit, IsNextVersion, session_before, state_of, with_next_version}
use Rattle.sr_run.specs.Usage.{Lent}

-- what is told was appended, and it is no refusal: so it is spelled whatever the line's number
pub record PutsTold (tells : Told → Type 0) (before after : List ℕ) : Type 0 where
  pub told : Told
  pub is : tells told
  pub accepted : is_refusal told ≡ false
  pub appended : (number : ℕ) → after ≡ before ++ spelled number told

-- what is told was appended; or the line is refused, and that is told; memory may run out at any time
abbrev pub Carries : (Told → Type 0) → List ℕ → List ℕ → Result (Unit {0}) Stop → Type 0
Carries tells before after (Ok done) = PutsTold tells before after
Carries tells before after (Err (Refused reason)) = tells (RefusedTold reason)
Carries tells before after (Err (Memory error)) = Unit {0}

-- whatever domain a session in the first state shows, there is one after it that a session in the second state shows
abbrev pub Moves : (Domain → Told → Domain → Type 0) → State → State → Told → Type 0
Moves tells old new told = (domain : Domain) → state_of domain ≡ old
    → (next : Domain) × (state_of next ≡ new) × tells domain told next

-- the open certificate after a line: that of before, or the same with one more line
abbrev pub MayGrowBy : Option CertDraft → CertLine → Option CertDraft → Type 0
MayGrowBy old line new =
    (new ≡ old) ⊎ ((draft : CertDraft) × (old ≡ Some draft) × (new ≡ Some (with_line draft line)))

-- a command is carried out
abbrev pub CarriesOut : Command → State → State → List ℕ → List ℕ → Result (Unit {0}) Stop → Type 0
CarriesOut command old new before after result =
    Carries (Moves (λ domain told next. Tells domain command told next) old new) before after result

-- the second session has something to report of its work; and whatever domain the first one shows, there is one after
-- this step that the second one shows
pub record StepsAs (step : Domain → Domain → Type 0) (old new : Session) : Type 0 where
  pub reports : CanReport new.work
  pub steps : (lent : Lent) (domain : Domain) → IsShown lent old domain
      → (next : Domain) × IsShown lent new next × step domain next

-- this is told, and the second session is the one after it
abbrev pub SessionTells : (Domain → Told → Domain → Type 0) → Session → Session → Told → Type 0
SessionTells tells old new told = StepsAs (λ domain next. tells domain told next) old new

-- what a session answers to a line
abbrev pub SessionAnswers : Session → ℕ → List ℕ → List ℕ → Bool → Session → Type 0
SessionAnswers old number line out refused new =
    StepsAs (λ domain next. Answers domain number line out refused next) old new

-- what a session answers at the end of a script
abbrev pub SessionEnds : Session → List ℕ → Session → Type 0
SessionEnds old out new = StepsAs (λ domain next. EndsScript domain out next) old new

-- the conduct of a session
abbrev pub session_conduct : Conduct Session
session_conduct = record { answers = SessionAnswers; ends = SessionEnds }

-- the arguments are in range, as those of each command that a line says
abbrev pub IsAsked : Command → Type 0
IsAsked (Cost link metric) = (0 < metric) × (metric ≤ MOST_METRIC)
IsAsked (Depth depth) = depth ≤ MOST_DEPTH
IsAsked (Load workers each) = (0 < workers) × (workers ≤ MOST_WORKERS) × (0 < each) × (each ≤ MOST_EACH)
IsAsked (Watch watchers rounds) = (0 < watchers) × (watchers ≤ MOST_WATCHERS) × (rounds ≤ MOST_ROUNDS)
IsAsked _ = Unit {0}

-- the command neither begins nor joins background work, nor publishes to it, and searches for no distances
abbrev pub IsOfDomain : Command → Type 0
IsOfDomain Commit = ⊥
IsOfDomain (Prove repair) = ⊥
IsOfDomain (Why repair) = ⊥
IsOfDomain Hold = ⊥
IsOfDomain (Watch watchers rounds) = ⊥
IsOfDomain Join = ⊥
IsOfDomain _ = Unit {0}

-- such a command whose answer is appended at once
abbrev pub IsOfText : Command → Type 0
IsOfText AuditFull = ⊥
IsOfText AsideWord = ⊥
IsOfText Commit = ⊥
IsOfText (Prove repair) = ⊥
IsOfText (Why repair) = ⊥
IsOfText Hold = ⊥
IsOfText (Watch watchers rounds) = ⊥
IsOfText Join = ⊥
IsOfText _ = Unit {0}

-- such a command that has nothing to do with certificates
abbrev pub IsUncertified : Command → Type 0
IsUncertified (ProofOpen repair) = ⊥
IsUncertified (ProofVia link) = ⊥
IsUncertified (ProofNode node) = ⊥
IsUncertified (ProofAdj link) = ⊥
IsUncertified (ProofRow cells) = ⊥
IsUncertified (ProofDone labels) = ⊥
IsUncertified command = IsOfText command

-- the command is a question whose answer is appended at once
abbrev pub IsTextQuestion : Command → Type 0
IsTextQuestion AuditFull = ⊥
IsTextQuestion AsideWord = ⊥
IsTextQuestion command = is_question command ≡ true

-- the two systems are these nodes
abbrev pub AreEnds : Net → EndNames → ℕ → ℕ → Type 0
AreEnds net ends from to = IsNamedNode net.graph ends.from from × IsNamedNode net.graph ends.to to

-- the refusal names the first of the two systems that isn't a node
abbrev pub LacksEnd : Net → EndNames → Refusal → Type 0
LacksEnd net ends reason = OfEnds (λ missing. reason ≡ missing) net.graph ends (λ from to. ⊥)

-- the key of the announced link of this name
pub record IsAnnounced (net : Net) (name : LinkName) (key : LinkKey) : Type 0 where
  pub from : NamesNode net.graph name.from
  pub to : NamesNode net.graph name.to
  pub key_is : key_meant net name ≡ Some key

-- the refusal names what is missing of it: an end, or the link
abbrev pub LacksAnnounced : Net → LinkName → Refusal → Type 0
LacksAnnounced net name reason = OfAnnounced (λ missing. reason ≡ missing) net name (λ key. ⊥)

-- the link of the net of this name, and its ends are nodes
pub record IsNamedLink (net : Net) (name : LinkName) (link : LinkNo) : Type 0 where
  pub from : NamesNode net.graph name.from
  pub to : NamesNode net.graph name.to
  pub link_is : IsLinkOf net name link

-- the refusal names what is missing of it: an end, or the link
abbrev pub LacksLink : Net → LinkName → Refusal → Type 0
LacksLink net name reason = OfNamedLink (λ missing. reason ≡ missing) net name (λ link. ⊥)

-- the case and the destination's node that a line asks of
pub record IsFailureOf (net : Net) (repair : RepairName) (case : Case) (d : ℕ) : Type 0 where
  pub from : NamesNode net.graph repair.link.from
  pub to : NamesNode net.graph repair.link.to
  pub kind : case.kind ≡ repair.kind
  pub link : IsLinkOf net repair.link case.link
  pub dest : IsNamedNode net.graph repair.dest d

-- the refusal names what is missing of them: a node, or the link
abbrev pub LacksFailure : Net → RepairName → Refusal → Type 0
LacksFailure net repair reason = OfFailure (λ missing. reason ≡ missing) net repair (λ case d. ⊥)

-- the same with an index and affected
pub record IsAffectedOf (net : Net) (repair : RepairName) (case : Case) (d : ℕ) : Type 0 where
  pub failure : IsFailureOf net repair case d
  pub affected : IsAffected net case d

-- the refusal names what is missing of them: a node, the link, an index, or that the case affects the destination
abbrev pub LacksAffected : Net → RepairName → Refusal → Type 0
LacksAffected net repair reason = OfAffected (λ missing. reason ≡ missing) net repair (λ case d. ⊥)

-- what the staging of an edit answered is told: how many are staged, or the refusal
abbrev pub TellsStaged : Result ℕ StageFault → Told → Type 0
TellsStaged (Ok count) told = told ≡ Staged count
TellsStaged (Err (Stale stored given)) told = told ≡ RefusedTold (refusal.Stale stored given)
TellsStaged (Err Full) told = told ≡ RefusedTold refusal.StagedFull
TellsStaged (Err (WantingMemory error)) told = ⊥

-- the edit of a link, by its key
abbrev pub edit_of : LinkEdit → LinkKey → Edit
edit_of (CostEdit metric) key = SetCost key metric
edit_of DownEdit key = TakeDown (pair_of key)
edit_of UpEdit key = BringUp (pair_of key)

-- a metric is that of a link in use
abbrev pub IsLinkEdit : LinkEdit → Type 0
IsLinkEdit (CostEdit metric) = (0 < metric) × (metric ≤ MOST_METRIC)
IsLinkEdit DownEdit = Unit {0}
IsLinkEdit UpEdit = Unit {0}

-- what isn't used of the facts is yet to be written, that many lines of it: there is a version of their net, and
-- whatever they have is used in that or told once
abbrev pub AwaitsAsides : Facts → Option NumberedNet → ℕ → Type 0
AwaitsAsides facts None count = ⊥
AwaitsAsides facts (Some version) count =
    (asides : List Aside) × AreAsides facts asides × IsAccountOf facts version.net asides × (length asides ≡ count)

-- a command is carried out: what is told was appended, or nothing was, and it is the audit of the last version or what
-- isn't used of the accepted facts, which is yet to be written; or the line is refused, and that is told; memory may
-- run out at any time
abbrev pub RepliesTo : Command → State → State → List ℕ → List ℕ → Result Reply Stop → Type 0
RepliesTo command old new before after (Ok Text) = CarriesOut command old new before after (Ok tt)
RepliesTo command old new before after (Ok Audit) =
    (command ≡ AuditFull) × (is_some old.current ≡ true) × (new ≡ old) × (after ≡ before)
RepliesTo command old new before after (Ok (Asides count)) =
    (command ≡ AsideWord) × AwaitsAsides old.editing.accepted old.current count × (new ≡ old) × (after ≡ before)
RepliesTo command old new before after (Err stop) = CarriesOut command old new before after (Err stop)

-- a session carries a command out: the same
abbrev pub SessionReplies : Command → Session → Session → List ℕ → List ℕ → Result Reply Stop → Type 0
SessionReplies command old new before after (Ok Text) =
    PutsTold (SessionTells (λ domain told next. Tells domain command told next) old new) before after
SessionReplies command old new before after (Ok Audit) =
    (command ≡ AuditFull) × (is_some old.state.current ≡ true) × (new ≡ old) × (after ≡ before) × CanReport new.work
SessionReplies command old new before after (Ok (Asides count)) =
    (command ≡ AsideWord) × AwaitsAsides old.state.editing.accepted old.state.current count × (new ≡ old)
    × (after ≡ before) × CanReport new.work
SessionReplies command old new before after (Err stop) =
    Carries (SessionTells (λ domain told next. Tells domain command told next) old new) before after (Err stop)

-- what is given to the line of this number by what is told so
abbrev pub GivesTold : (Domain → Told → Domain → Type 0) → ℕ → Session → Allowed Session
GivesTold tells number old = λ said refused new.
    (told : Told) × SessionTells tells old new told × (said ≡ spelled number told) × (refused ≡ is_refusal told)

-- what a command gives
abbrev pub GivesCommand : Command → ℕ → Session → Allowed Session
GivesCommand command number old = GivesTold (λ domain told next. Tells domain command told next) number old

-- what a line of this number with a fault gives
abbrev pub RefusesLine : LineFault → ℕ → Session → Allowed Session
RefusesLine fault number old = λ said refused new.
    (reason : Refusal) × IsRefusedAs fault reason
    × (said ≡ refused_line number reason) × (refused ≡ true) × (new ≡ old)

-- the lines of an audit of the version, and of how many answers of each sort it has
abbrev pub audit_text : NumberedNet → List Item → List ℕ
audit_text version items = item_lines version.net items ++ summary_line version.number (counts_of items)

-- the audit of the version is written, or a beginning of it
abbrev pub WritesAudit : Option NumberedNet → Written → Written → Result (Unit {0}) SinkFault → Type 0
WritesAudit None before after result = ⊥
WritesAudit (Some version) before after result =
    (items : List Item) × IsAudit version.net items × Puts before after (audit_text version items) result

-- the lines of all cases of the net are written, or a beginning of them
abbrev pub WritesCases : Net → Written → Written → Result (Unit {0}) SinkFault → Type 0
WritesCases net before after result =
    (items : List Item) × IsAudit net items × Puts before after (item_lines net items) result

-- how many answers of each sort an audit of the version has is written, or a beginning of it
abbrev pub WritesCounts : NumberedNet → Written → Written → Result (Unit {0}) SinkFault → Type 0
WritesCounts version before after result =
    (items : List Item) × IsAudit version.net items
    × Puts before after (summary_line version.number (counts_of items)) result

-- there is a version, of which the audit is yet to be written, or that there is none is refused
abbrev pub BeginsAudit : Option NumberedNet → Result Reply Stop → Type 0
BeginsAudit None result = result ≡ Err (Refused refusal.NoVersion)
BeginsAudit (Some version) result = result ≡ Ok Audit

-- there is a version, and what isn't used of these facts is yet to be written, or that there is none is refused; memory
-- may run out
abbrev pub BeginsAsides : Facts → Option NumberedNet → Result ℕ Stop → Type 0
BeginsAsides facts current (Ok count) = AwaitsAsides facts current count
BeginsAsides facts current (Err (Refused reason)) = (current ≡ None) × (reason ≡ refusal.NoVersion)
BeginsAsides facts current (Err (Memory error)) = Unit {0}

-- what isn't used of the facts is written, or a beginning of it
abbrev pub WritesAsides : Facts → Written → Written → Result (Unit {0}) SinkFault → Type 0
WritesAsides facts before after result =
    (asides : List Aside) × AreAsides facts asides × Puts before after (asides_text asides) result

-- the refusal of the line of this number is written, or a beginning of it
abbrev pub WritesRefusal : ℕ → Refusal → Written → Written → Result Bool SinkFault → Type 0
WritesRefusal number reason before after result =
    MatchResult result
    (λ refused. (refused ≡ true) × Says before after (refused_line number reason))
    (Breaks before after (refused_line number reason))

-- what was told is told by its text, or the same stopped it
abbrev pub IsReply : Result (Unit {0}) Stop → Result Reply Stop → Type 0
IsReply told result = MatchResult told (λ _. result ≡ Ok Text) (λ stop. result ≡ Err stop)

-- the commit is accepted with the next version, and told; or it is refused, and that is told, or memory ran out, and
-- the last version stays
abbrev pub CommitsVersion : State → State → List ℕ → List ℕ → Result (Unit {0}) Stop → Type 0
CommitsVersion old new before after (Ok done) =
    (version : NumberedNet) × IsNextVersion old version × (new ≡ with_next_version old version)
    × (number_of old.current < MOST_VERSION) × ((number : ℕ) → after ≡ before ++ spelled number (Version version))
CommitsVersion old new before after (Err (Refused reason)) =
    (new.current ≡ old.current) × Moves Commits old new (RefusedTold reason)
CommitsVersion old new before after (Err (Memory error)) = new.current ≡ old.current

-- what the counter of searches says of the making of the version after this one: it grew by what its net may take, and
-- not at all where a rule is broken; where memory ran out it didn't fall
abbrev pub CountsMaking : Option NumberedNet → ℕ → ℕ → Result (Result NumberedNet DomainRule) AllocError → Type 0
CountsMaking current before after (Ok (Ok version)) = CountsCommitWork current version.net before after
CountsMaking current before after (Ok (Err rule)) = after ≡ before
CountsMaking current before after (Err error) = before ≤ after

-- what the counter of searches says of a commit: it grew by what an accepted net may take, and not at all where the
-- commit was refused; where memory ran out it didn't fall
abbrev pub CountsCommit : State → State → ℕ → ℕ → Result (Unit {0}) Stop → Type 0
CountsCommit old new before after (Ok done) =
    IfSome new.current (λ version. CountsCommitWork old.current version.net before after)
CountsCommit old new before after (Err (Refused reason)) = after ≡ before
CountsCommit old new before after (Err (Memory error)) = before ≤ after

-- what it says of a question by `prove` or `why`: it grew by one at most, and not at all where the line was refused;
-- where memory ran out it didn't fall
abbrev pub CountsQuestion : ℕ → ℕ → Result (Unit {0}) Stop → Type 0
CountsQuestion before after (Ok done) = (before ≤ after) × (after ≤ before + 1)
CountsQuestion before after (Err (Refused reason)) = after ≡ before
CountsQuestion before after (Err (Memory error)) = before ≤ after

-- an answer that was written is no refusal, or there was the fault
abbrev pub IsNoRefusal : Result (Unit {0}) SinkFault → Result Bool SinkFault → Type 0
IsNoRefusal written result = MatchResult written (λ _. result ≡ Ok false) (λ fault. result ≡ Err fault)

-- work may begin on this version, which has an audit
pub record MayBegin (session : Session) (version : NumberedNet) : Type 0 where
  pub current : session.state.current ≡ Some version
  pub idle : session.work ≡ Idle
  pub audit : HasAudit version

-- this refusal says why no work may begin
abbrev pub IsHindrance : Option NumberedNet → Work → Refusal → Type 0
IsHindrance None work reason = reason ≡ refusal.NoVersion
IsHindrance (Some version) Idle reason = ⊥
IsHindrance (Some version) (Holds held) reason = reason ≡ refusal.WatchRunning
IsHindrance (Some version) (Watches watched) reason = reason ≡ refusal.WatchRunning

-- no work may begin for this reason, or memory ran out
abbrev pub MayNotBegin : Session → Stop → Type 0
MayNotBegin session (Refused reason) = IsHindrance session.state.current session.work reason
MayNotBegin session (Memory error) = Unit {0}

-- the last version, where there is one, was published to the work
abbrev pub IsPublished : Option NumberedNet → Work → Usage → Work → Usage → Type 0
IsPublished None work usage published counted = (published ≡ work) × (counted ≡ usage)
IsPublished (Some version) work usage published counted =
    (published ≡ after_publishing work version) × (counted ≡ usage_published work usage)

-- the work is joined, and its reports were appended
pub record PutsJoined (old new : Session) (before after : List ℕ) : Type 0 where
  pub reports : List RoundReport
  pub joins : StepsAs (λ domain next. JoinsReporting domain reports next) old new
  pub appended : (number : ℕ) → after ≡ before ++ spelled number (Joined reports)

-- the run of a script with what was lent: how it ended, and that the session's usage and its counter were given back
pub record RunsLent (old new : Devices) (lent back : Lent) (end : End) : Type 0 where
  pub final : Session
  pub ran : Ran session_conduct (session_before lent.usage lent.searches) old new end final
  pub counts : CountsShow old new end
  pub usage_is : back.usage ≡ final.usage
  pub searches_are : back.searches ≡ final.searches

-- no version would be made of the tentative facts for this reason: all versions were made, or the facts break a rule
abbrev pub RefusesTry : State → Refusal → Type 0
RefusesTry state reason =
    ((MOST_VERSION ≤ number_of state.current) × (reason ≡ refusal.VersionsFull))
    ⊎ ((number_of state.current < MOST_VERSION)
    × ((rule : DomainRule) × IsFirstBrokenRule state.editing.tentative rule × (reason ≡ refusal.Rule rule)))

-- the version after the last one was made of the tentative facts, and the counter of searches went no further than its
-- commit would let it go
abbrev pub MakesTried : State → ℕ → ℕ → Option NumberedNet → Type 0
MakesTried state counted count tried =
    (version : NumberedNet) × (tried ≡ Some version) × (number_of state.current < MOST_VERSION)
    × IsNextVersion state version × CountsCommitWork state.current version.net counted count

-- why there is none: all versions were made, or the tentative facts break a rule, and nothing was searched; or memory
-- ran out
abbrev pub TriesNone : State → ℕ → ℕ → Stop → Type 0
TriesNone state counted count (Refused reason) = RefusesTry state reason × (count ≡ counted)
TriesNone state counted count (Memory error) = Unit {0}

-- what is told to a question that is tried, and how far the counter of searches went: it is refused, or the version
-- that was made tells it
abbrev pub TriesFrom : Command → State → ℕ → ℕ → Told → Type 0
TriesFrom question state counted count told =
    ((reason : Refusal) × RefusesTry state reason × (told ≡ RefusedTold reason) × (count ≡ counted))
    ⊎ ((tried : Option NumberedNet) × MakesTried state counted count tried
    × TellsOf (TellsQuestion question state.editing.tentative state.current) tried told)

-- how a question that is tried is answered: by what was appended, by an audit or by what isn't used of the tentative
-- facts, which is yet to be written, or not
abbrev pub TriedAs : Command → State → ℕ → ℕ → List ℕ → List ℕ → Result Tried Stop → Type 0
TriedAs question state counted count before after (Ok TriedText) =
    PutsTold (TriesFrom question state counted count) before after
TriedAs question state counted count before after (Ok (TriedAudit tried)) =
    (question ≡ AuditFull) × MakesTried state counted count tried
TriedAs question state counted count before after (Ok (TriedAsides lines)) =
    (question ≡ AsideWord)
    × (tried : Option NumberedNet) × MakesTried state counted count tried
    × AwaitsAsides state.editing.tentative tried lines
TriedAs question state counted count before after (Err (Refused reason)) =
    TriesFrom question state counted count (RefusedTold reason)
TriedAs question state counted count before after (Err (Memory error)) = Unit {0}
