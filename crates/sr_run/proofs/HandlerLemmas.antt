-- From what is told of a version, or of edits, to what is told to a command.
use Rattle.std.proofs.Common.{◌≡◌, ℕ, ◌+◌, ◌<◌, ◌≤◌, ◌++◌, false, List, [], ◌∷◌, length, Option, Some, None, refl, sym, subst, ap, ◌∙◌, inl, inr, arith}
use Rattle.std.specs.declared.result.Result.{Result}
use Rattle.std.specs.declared.result.Result.TheVariants.{Ok, Err}
use Rattle.sr_model.specs.declared.name.LinkKey.{LinkKey}
use Rattle.sr_model.specs.declared.rule.DomainRule.{DomainRule}
use Rattle.sr_model.specs.Label.{Net}
use Rattle.sr_lsp.specs.declared.lsp.Lsp.{Lsp}
use Rattle.sr_lsp.specs.Lsp.{Reads}
use Rattle.sr_lsdb.specs.declared.facts.Facts.{Facts}
use Rattle.sr_lsdb.specs.declared.stage_fault.StageFault.{StageFault}
use Rattle.sr_lsdb.specs.declared.stage_fault.StageFault.TheVariants.{Stale, Full, Memory as WantingMemory}
use Rattle.sr_lsdb.specs.Edit.{Edit}
use Rattle.sr_lsdb.specs.Edit.Edit.{Announce}
use Rattle.sr_lsdb.specs.Editing.{Editing, with_accepted, with_none_staged}
use Rattle.sr_lsdb.specs.Staging.{Stages, StagesLsp}
use Rattle.sr_domain.specs.Net.{IsNetOf}
use Rattle.sr_domain.specs.Rules.{IsFirstBrokenRule}
use Rattle.sr_script.specs.declared.command.Command.{Command}
use Rattle.sr_script.specs.declared.command.Command.TheVariants.{AuditFull, Aside, Commit, Prove, Hold, Watch, Join, Why}
use Rattle.sr_script.specs.declared.name.LinkName.{LinkName}
use Rattle.sr_repair.specs.Version.{NumberedNet, version_of}
use Rattle.sr_cert.specs.Draft.{CertDraft}
use Rattle.sr_print.specs.declared.refusal.Refusal.{Refusal}
use Rattle.sr_print.specs.declared.refusal.Refusal.TheVariants.{Rule, VersionsFull}
use Rattle.sr_print.specs.Told.{Told, Shown, spelled, is_refusal}
use Rattle.sr_print.specs.Told.Told.{Staged, Dropped, Version, Show, Refused}
use Rattle.sr_model.specs.declared.limits.TheConstants.{MOST_VERSION}
use Rattle.sr_run.specs.declared.stop.Stop.{Stop}
use Rattle.sr_run.specs.declared.stop.Stop.TheVariants.{Refused as Refusing, Memory}
use Rattle.sr_run.specs.declared.session.Reply.{Reply}
use Rattle.sr_run.specs.Domain.{Domain, last_version, version_before, number_of, with_staged, with_dropped, with_draft, with_net}
use Rattle.sr_run.specs.Edits.{Refuses, StagesEdit, Announces, EditsNamed, EditsLink, DropsStaged, Commits}
use Rattle.sr_run.specs.Certificates.{Drafting, DraftsOf}
use Rattle.sr_run.specs.State.{IsKeptState, IsNextVersion, State, state_of, with_next_version}
use Rattle.sr_run.specs.Session.{Asks, WritesDraft, Tells, TellsOf, Shows, shown_of, version_nodes, version_links}
use Rattle.sr_run.specs.Handlers.{PutsTold, Carries, CarriesOut, Moves, RepliesTo, IsReply, IsOfDomain, IsOfText, TellsStaged, IsAnnounced, LacksAnnounced}
use Rattle.sr_run.proofs.NameLemmas.{has-announced, lacks-announced, announced-weaker}

-- what is told so is told so
pub carries-weaker : (P Q : Told → Type 0) (before after : List ℕ) (result : Result (Unit {0}) Stop) → ((told : Told) → P told → Q told) → Carries P before after result → Carries Q before after result
carries-weaker P Q before after (Ok done) f c = record { told = c.told; is = f c.told c.is; accepted = c.accepted; appended = c.appended }
carries-weaker P Q before after (Err (Refusing reason)) f c = f _ c
carries-weaker P Q before after (Err (Memory error)) f c = tt

-- a question about the last version is told to whatever domain the session shows
pub asked : (tells : NumberedNet → Told → Type 0) (state : State) (told : Told) → TellsOf tells state.current told → Moves (Asks tells) state state told
asked tells state told is domain same =
    (domain, same, (subst (λ (o : Option NumberedNet). TellsOf tells o told) (sym (ap (λ (s : State). s.current) same)) is, refl))

-- so is one about the accepted facts and the last two versions
pub asked-facts : (tells : Facts → Option NumberedNet → NumberedNet → Told → Type 0) (state : State) (told : Told) → TellsOf (tells state.editing.accepted state.previous) state.current told
    → Moves (λ domain t next. Asks (tells domain.editing.accepted (version_before domain.nets)) domain t next) state state told
asked-facts tells state told is domain same =
    (domain, same, (subst (λ (s : State). TellsOf (tells s.editing.accepted s.previous) s.current told) (sym same) is, refl))

-- what is told to a line of a certificate, whatever domain the session shows
pub drafted : (drafts : NumberedNet → Drafting) (state : State) (draft : Option CertDraft) (told : Told) → DraftsOf drafts state.current state.draft told draft
    → Moves (WritesDraft drafts) state (record { editing = state.editing; current = state.current; previous = state.previous; draft = draft }) told
drafted drafts state draft told is domain same = (
  with_draft domain draft,
  ap (λ (s : State). (let x : State = record { editing = s.editing; current = s.current; previous = s.previous; draft = draft } in x)) same,
  (draft, subst (λ (s : State). DraftsOf drafts s.current s.draft told draft) (sym same) is, refl),
)

-- and so is the command that says such a line
pub drafted-told : (command : Command) (drafts : NumberedNet → Drafting) (old now : State) (draft : Option CertDraft) (before after : List ℕ) (result : Result (Unit {0}) Stop)
    → ((domain : Domain) (told : Told) (next : Domain) → WritesDraft drafts domain told next → Tells domain command told next) → old ≡ now
    → Carries (λ told. DraftsOf drafts old.current old.draft told draft) before after result
    → CarriesOut command now (record { editing = old.editing; current = old.current; previous = old.previous; draft = draft }) before after result
drafted-told command drafts old now draft before after result means is =
    carries-weaker _ _ before after result
    (λ told d. subst (λ (s : State). Moves (λ domain t next. Tells domain command t next) s (record { editing = old.editing; current = old.current; previous = old.previous; draft = draft }) told) is
    (λ domain same.
    let next = drafted drafts old draft told d domain same in
    (next.0, next.1, means domain told next.0 next.2)))

-- what is told of the last version
pub told-of : (tells : NumberedNet → Told → Type 0) (current : Option NumberedNet) (version : NumberedNet) (told : Told) → current ≡ Some version → tells version told → TellsOf tells current told
told-of tells current version told is t = subst (λ (o : Option NumberedNet). TellsOf tells o told) (sym is) t

-- what is told of the last version, and was appended
pub puts-of : (tells : NumberedNet → Told → Type 0) (current : Option NumberedNet) (version : NumberedNet) (before after : List ℕ) (told : Told)
    → current ≡ Some version → tells version told → is_refusal told ≡ false → ((number : ℕ) → after ≡ before ++ spelled number told) → PutsTold (TellsOf tells current) before after
puts-of tells current version before after told is t accepted appended =
    record { told = told; is = subst (λ (o : Option NumberedNet). TellsOf tells o told) (sym is) t; accepted = accepted; appended = appended }

-- ---- what a session shows of a domain

with-editing : (domain : Domain) (editing new : Editing) → editing ≡ new → (let s : State = record { editing = editing; current = last_version domain.nets; previous = version_before domain.nets; draft = domain.draft } in s) ≡ record { editing = new; current = last_version domain.nets; previous = version_before domain.nets; draft = domain.draft }
with-editing domain editing new e = ap (λ (x : Editing). (let s : State = record { editing = x; current = last_version domain.nets; previous = version_before domain.nets; draft = domain.draft } in s)) e

same-current : (old : State) (domain : Domain) (new : Editing) → old ≡ state_of domain → (let s : State = record { editing = new; current = last_version domain.nets; previous = version_before domain.nets; draft = domain.draft } in s) ≡ record { editing = new; current = old.current; previous = old.previous; draft = old.draft }
same-current old domain new here = ap (λ (x : State). (let s : State = record { editing = new; current = x.current; previous = x.previous; draft = x.draft } in s)) (sym here)

last-shown : (old now : State) (domain : Domain) (version : NumberedNet) → old ≡ now → old.current ≡ Some version → state_of domain ≡ now → last_version domain.nets ≡ Some version
last-shown old now domain version is some same = ap (λ (s : State). s.current) (same ∙ sym is) ∙ some

-- ---- edits

-- an edit that was staged, or not, is told of the domain that the session shows
stages-shown : (edit : Edit) (domain : Domain) (new : Editing) (staged : Result ℕ StageFault) (told : Told) → Stages edit domain.editing new staged → TellsStaged staged told
    → (next : Domain) × (state_of next ≡ record { editing = new; current = last_version domain.nets; previous = version_before domain.nets; draft = domain.draft }) × StagesEdit edit domain told next
stages-shown edit domain new (Ok count) told s t =
    (with_staged domain edit, with-editing domain _ new (sym s.state), inr (s.room, t ∙ ap Staged s.counted, refl))
stages-shown edit domain new (Err (Stale stored given)) told s t = absurd s
stages-shown edit domain new (Err Full) told s t = (domain, with-editing domain _ new (sym s.1), inl (s.0, (t, refl)))
stages-shown edit domain new (Err (WantingMemory error)) told s t = absurd t

pub stages-told : (edit : Edit) (old now : State) (new : Editing) (staged : Result ℕ StageFault) (told : Told) → old ≡ now → Stages edit old.editing new staged → TellsStaged staged told
    → Moves (StagesEdit edit) now (record { editing = new; current = old.current; previous = old.previous; draft = old.draft }) told
stages-told edit old now new staged told is s t domain same =
    let here : old ≡ state_of domain = is ∙ sym same in
    let next = stages-shown edit domain new staged told (subst (λ (x : State). Stages edit x.editing new staged) here s) t in
    (next.0, next.1 ∙ same-current old domain new here, next.2)

-- the same of an edit of a link that is named
pub link-told : (edit : LinkKey → Edit) (link : LinkName) (old now : State) (version : NumberedNet) (key : LinkKey) (new : Editing) (staged : Result ℕ StageFault) (told : Told)
    → old ≡ now → old.current ≡ Some version → IsAnnounced version.net link key → Stages (edit key) old.editing new staged → TellsStaged staged told
    → Moves (EditsLink edit link) now (record { editing = new; current = old.current; previous = old.previous; draft = old.draft }) told
link-told edit link old now version key new staged told is some announced s t domain same =
    let next = stages-told (edit key) old now new staged told is s t domain same in (
      next.0,
      next.1,
      subst (λ (o : Option NumberedNet). EditsNamed edit link o domain told next.0) (sym (last-shown old now domain version is some same))
          (has-announced (Refuses domain told next.0) version.net link key (λ k. StagesEdit (edit k) domain told next.0) announced next.2),
    )

-- a link that is missing
pub link-missing : (edit : LinkKey → Edit) (link : LinkName) (old now : State) (version : NumberedNet) (reason : Refusal)
    → old ≡ now → old.current ≡ Some version → LacksAnnounced version.net link reason → Moves (EditsLink edit link) now now (Refused reason)
link-missing edit link old now version reason is some lacks domain same = (
  domain,
  same,
  subst (λ (o : Option NumberedNet). EditsNamed edit link o domain (Refused reason) domain) (sym (last-shown old now domain version is some same))
      (lacks-announced (Refuses domain (Refused reason) domain) reason (refl, refl) version.net link (λ k. StagesEdit (edit k) domain (Refused reason) domain) lacks),
)

-- a PDU that was staged, or not
pdu-shown : (octets : List ℕ) (lsp : Lsp) (domain : Domain) (new : Editing) (staged : Result ℕ StageFault) (told : Told) → Reads octets lsp → StagesLsp lsp domain.editing new staged → TellsStaged staged told
    → (next : Domain) × (state_of next ≡ record { editing = new; current = last_version domain.nets; previous = version_before domain.nets; draft = domain.draft }) × Announces octets domain told next
pdu-shown octets lsp domain new (Ok count) told reads s t =
    (with_staged domain (Announce lsp), with-editing domain _ new (sym s.1.state), inr (lsp, reads, inr (s.0, inr (s.1.room, t ∙ ap Staged s.1.counted, refl))))
pdu-shown octets lsp domain new (Err (Stale stored given)) told reads s t =
    (domain, with-editing domain _ new (sym s.1), inr (lsp, reads, inl (stored, given, s.0, (t, refl))))
pdu-shown octets lsp domain new (Err Full) told reads s t =
    (domain, with-editing domain _ new (sym s.2), inr (lsp, reads, inr (s.0, inl (s.1, (t, refl)))))
pdu-shown octets lsp domain new (Err (WantingMemory error)) told reads s t = absurd t

pub pdu-told : (octets : List ℕ) (lsp : Lsp) (old now : State) (new : Editing) (staged : Result ℕ StageFault) (told : Told) → old ≡ now → Reads octets lsp → StagesLsp lsp old.editing new staged → TellsStaged staged told
    → Moves (Announces octets) now (record { editing = new; current = old.current; previous = old.previous; draft = old.draft }) told
pdu-told octets lsp old now new staged told is reads s t domain same =
    let here : old ≡ state_of domain = is ∙ sym same in
    let next = pdu-shown octets lsp domain new staged told reads (subst (λ (x : State). StagesLsp lsp x.editing new staged) here s) t in
    (next.0, next.1 ∙ same-current old domain new here, next.2)

-- the staged edits that were dropped
pub drops-told : (old now : State) (new : Editing) (count : ℕ) → old ≡ now → count ≡ old.editing.staged → new ≡ with_none_staged old.editing
    → Moves DropsStaged now (record { editing = new; current = old.current; previous = old.previous; draft = old.draft }) (Dropped count)
drops-told old now new count is counted state domain same =
    let here : old ≡ state_of domain = is ∙ sym same in
    let edited : old.editing ≡ domain.editing = ap (λ (x : State). x.editing) here in (
      with_dropped domain,
      with-editing domain _ new (sym (state ∙ ap with_none_staged edited)) ∙ same-current old domain new here,
      (ap Dropped (counted ∙ ap (λ (e : Editing). e.staged) edited), refl),
    )

-- ---- commits

-- how many nets there are is the number of the last version
pub number-length : (nets : List Net) → number_of (last_version nets) ≡ length nets
number-length [] = refl
number-length (net ∷ earlier) = omega arith

-- a state is its parts
pub state-parts : (s : State) (editing : Editing) (current previous : Option NumberedNet) (draft : Option CertDraft) → s.editing ≡ editing → s.current ≡ current → s.previous ≡ previous → s.draft ≡ draft
    → (let x : State = record { editing = editing; current = current; previous = previous; draft = draft } in x) ≡ s
state-parts s editing current previous draft e c p d =
    ap (λ (x : Editing). (let y : State = record { editing = x; current = current; previous = previous; draft = draft } in y)) (sym e)
    ∙ ap (λ (x : Option NumberedNet). (let y : State = record { editing = s.editing; current = x; previous = previous; draft = draft } in y)) (sym c)
    ∙ ap (λ (x : Option NumberedNet). (let y : State = record { editing = s.editing; current = s.current; previous = x; draft = draft } in y)) (sym p)
    ∙ ap (λ (x : Option CertDraft). (let y : State = record { editing = s.editing; current = s.current; previous = s.previous; draft = x } in y)) (sym d)

-- a state with the version after the last one is kept
pub next-kept : (old : State) (editing : Editing) (version : NumberedNet) (previous : Option NumberedNet) → editing ≡ old.editing → number_of old.current < MOST_VERSION → IsNextVersion old version → IsKeptState (record { editing = with_accepted editing; current = Some version; previous = previous; draft = None })
next-kept old editing version previous same room next =
    record { few = omega (arith, room, next.counted); counted = omega (arith, next.counted); fresh = subst (λ (e : Editing). IsNetOf e.tentative version.net) (sym same) next.net; drafted = tt }

-- the state whose net is accepted
pub accepted-next : (old : State) (version : NumberedNet) → number_of old.current < MOST_VERSION → IsNextVersion old version → (domain : Domain) → state_of domain ≡ old
    → (state_of (with_net domain version.net) ≡ with_next_version old version) × Commits domain (Version version) (with_net domain version.net) × (version ≡ version_of (length domain.nets + 1) version.net)
accepted-next old version room next domain same =
    let edited : domain.editing ≡ old.editing = ap (λ (x : State). x.editing) same in
    let net : IsNetOf domain.editing.tentative version.net = subst (λ (e : Editing). IsNetOf e.tentative version.net) (sym edited) next.net in
    let number : number_of old.current ≡ length domain.nets = ap (λ (x : State). number_of x.current) (sym same) ∙ number-length domain.nets in
    let count : version.number ≡ length domain.nets + 1 = omega (arith, next.counted, number) in
    let one : version ≡ version_of (length domain.nets + 1) version.net = ap (λ (k : ℕ). version_of k version.net) count in (
      state-parts (with_next_version old version) (with_accepted domain.editing) (Some (version_of (length domain.nets + 1) version.net)) (last_version domain.nets) None
          (ap with_accepted (sym edited)) (ap (λ (v : NumberedNet). Some v) one) (ap (λ (x : State). x.current) (sym same)) refl,
      inr (omega (arith, room, number), inr (record { net = version.net; is_net = net; told_is = ap Version one; accepted = refl })),
      one,
    )

-- the state whose tentative facts are rejected
pub rejects-told : (now new : State) (rule : DomainRule) → number_of now.current < MOST_VERSION → IsFirstBrokenRule now.editing.tentative rule → new.editing ≡ with_none_staged now.editing → new.current ≡ now.current → new.previous ≡ now.previous → new.draft ≡ now.draft → Moves Commits now new (Refused (Rule rule))
rejects-told now new rule room broken editing current previous draft domain same =
    let edited : domain.editing ≡ now.editing = ap (λ (x : State). x.editing) same in
    let number : number_of now.current ≡ length domain.nets = ap (λ (x : State). number_of x.current) (sym same) ∙ number-length domain.nets in (
      with_dropped domain,
      state-parts new (with_none_staged domain.editing) (last_version domain.nets) (version_before domain.nets) domain.draft (editing ∙ ap with_none_staged (sym edited))
          (current ∙ sym (ap (λ (x : State). x.current) same)) (previous ∙ sym (ap (λ (x : State). x.previous) same)) (draft ∙ sym (ap (λ (x : State). x.draft) same)),
      inr (
        omega (arith, room, number),
        inl (record { rule = rule; broken = subst (λ (e : Editing). IsFirstBrokenRule e.tentative rule) (sym edited) broken; told_is = refl; dropped = refl }),
      ),
    )

-- as many commits as may be were accepted
pub full-told : (old now : State) → old ≡ now → MOST_VERSION ≤ number_of old.current → Moves Commits now now (Refused VersionsFull)
full-told old now is full domain same =
    let number : number_of old.current ≡ length domain.nets = ap (λ (x : State). number_of x.current) (is ∙ sym same) ∙ number-length domain.nets in
    (domain, same, inl (omega (arith, full, number), (refl, refl)))

-- what is shown
pub shows-told : (old now : State) (version nodes links depth staged : ℕ) → old ≡ now → version ≡ number_of old.current → nodes ≡ version_nodes old.current → links ≡ version_links old.current → depth ≡ old.editing.accepted.depth → staged ≡ old.editing.staged
    → Moves Shows now now (Show (record { version = version; nodes = nodes; links = links; depth = depth; staged = staged }))
shows-told old now version nodes links depth staged is v n l d s domain same =
    let here : old ≡ state_of domain = is ∙ sym same in
    let parts : (let x : Shown = record { version = version; nodes = nodes; links = links; depth = depth; staged = staged } in x) ≡ shown_of domain =
    cc (v, n, l, d, s, ap (λ (x : State). number_of x.current) here, ap (λ (x : State). version_nodes x.current) here, ap (λ (x : State). version_links x.current) here, ap (λ (x : State). x.editing.accepted.depth) here, ap (λ (x : State). x.editing.staged) here) in
    (domain, same, (ap Show parts, refl))

-- ---- how a command is answered

edits-same : (edit other : LinkKey → Edit) (link : LinkName) (last : Option NumberedNet) (domain : Domain) (told : Told) (next : Domain) → ((k : LinkKey) → edit k ≡ other k) → EditsNamed edit link last domain told next → EditsNamed other link last domain told next
edits-same edit other link None domain told next same e = e
edits-same edit other link (Some version) domain told next same e =
    announced-weaker (Refuses domain told next) (Refuses domain told next) version.net link (λ k. StagesEdit (edit k) domain told next) (λ k. StagesEdit (other k) domain told next)
    (λ r x. x) (λ k x. subst (λ (d : Edit). StagesEdit d domain told next) (same k) x) e

edits-moved : (command : Command) (edit other : LinkKey → Edit) (link : LinkName) (old new : State) (told : Told) → ((k : LinkKey) → edit k ≡ other k)
    → ((domain : Domain) (t : Told) (next : Domain) → EditsLink other link domain t next → Tells domain command t next)
    → Moves (EditsLink edit link) old new told → Moves (λ domain t next. Tells domain command t next) old new told
edits-moved command edit other link old new told same means m domain like =
    let next = m domain like in
    (next.0, next.1, means domain told next.0 (edits-same edit other link (last_version domain.nets) domain told next.0 same next.2))

-- `cost`, `down` and `up` are edits of a link
pub edits-told : (command : Command) (edit other : LinkKey → Edit) (link : LinkName) (old new : State) (before after : List ℕ) (told : Result (Unit {0}) Stop)
    → ((k : LinkKey) → edit k ≡ other k)
    → ((domain : Domain) (t : Told) (next : Domain) → EditsLink other link domain t next → Tells domain command t next)
    → Carries (Moves (EditsLink edit link) old new) before after told → CarriesOut command old new before after told
edits-told command edit other link old new before after told same means =
    carries-weaker _ _ before after told (λ t. edits-moved command edit other link old new t same means)

-- what was appended is a reply
pub text-replies : (command : Command) (old new : State) (before after : List ℕ) (told : Result (Unit {0}) Stop) (result : Result Reply Stop)
    → CarriesOut command old new before after told → IsReply told result → RepliesTo command old new before after result
text-replies command old new before after (Ok done) result c r = subst (λ (x : Result Reply Stop). RepliesTo command old new before after x) (sym r) c
text-replies command old new before after (Err (Refusing reason)) result c r = subst (λ (x : Result Reply Stop). RepliesTo command old new before after x) (sym r) c
text-replies command old new before after (Err (Memory error)) result c r = subst (λ (x : Result Reply Stop). RepliesTo command old new before after x) (sym r) c

-- a command of the domain is answered at once, but for the whole audit and what isn't used
pub of-text : (command : Command) → IsOfDomain command → (command ≡ AuditFull → ⊥) → (command ≡ Aside → ⊥) → IsOfText command
of-text AuditFull quiet other unlike = other refl
of-text Aside quiet other unlike = unlike refl
of-text Commit quiet other unlike = quiet
of-text (Prove repair) quiet other unlike = quiet
of-text (Why repair) quiet other unlike = quiet
of-text Hold quiet other unlike = quiet
of-text (Watch watchers rounds) quiet other unlike = quiet
of-text Join quiet other unlike = quiet
of-text command quiet other unlike = tt
