-- How what is told to a command is written.
use Rattle.std.proofs.Common.{◌≡◌, ℕ, Bool, true, false, List, [], Option, Some, None, refl, sym, subst, ap, ◌∙◌, inl, inr}
use Rattle.std.specs.declared.alloc.AllocError.{AllocError}
use Rattle.std.specs.declared.result.Result.{Result}
use Rattle.std.specs.declared.result.Result.TheVariants.{Ok, Err}
use Rattle.sr_model.specs.declared.audit.Item.{Item}
use Rattle.sr_model.specs.Audit.{IsAudit}
use Rattle.sr_base.specs.declared.SinkFault.{SinkFault}
use Rattle.sr_base.specs.declared.SinkFault.TheVariants.{Memory as Wanting}
use Rattle.sr_repair.specs.Version.{NumberedNet}
use Rattle.sr_script.specs.declared.command.Command.{Command}
use Rattle.sr_script.specs.declared.command.Command.TheVariants.{Aside, AuditFull}
use Rattle.sr_engine.proofs.Answering.{breaks-nothing}
use Rattle.sr_engine.specs.Replies.{Gives}
use Rattle.sr_engine.specs.Written.{Written, Puts}
use Rattle.sr_print.specs.Refused.{refused_line}
use Rattle.sr_print.specs.declared.refusal.Refusal.{Refusal}
use Rattle.sr_print.specs.Told.{Told}
use Rattle.sr_print.specs.Account.{asides_text}
use Rattle.sr_print.specs.Told.Told.{Refused, Asides as AsidesTold, Audit as AuditTold}
use Rattle.sr_run.specs.Domain.{Domain}
use Rattle.sr_run.specs.Tries.{Tries}
use Rattle.sr_lsdb.specs.declared.facts.Facts.{Facts}
use Rattle.sr_account.specs.declared.aside.Aside.{Aside as NotUsed}
use Rattle.sr_account.specs.Laws.{IsAccountOf}
use Rattle.sr_account.proofs.DeterminedLaw.{asides-one}
use Rattle.sr_run.specs.Account.{TellsAsides}
use Rattle.sr_run.specs.Failures.{TellsAudit}
use Rattle.sr_run.specs.State.{State, Session, CanReport}
use Rattle.sr_run.specs.Session.{Tells, TellsOf}
use Rattle.sr_run.specs.Handlers.{AwaitsAsides, PutsTold, Moves, SessionTells, IsNoRefusal, GivesCommand, GivesTold, WritesAsides, WritesAudit, WritesRefusal, audit_text}
use Rattle.sr_run.proofs.SessionLemmas.{lifted}

-- a text that tells is written, or a beginning of it
pub gives-told : (tells : Domain → Told → Domain → Type 0) (number : ℕ) (old new : Session) (before after : Written) (text : List ℕ) (put : Result (Unit {0}) SinkFault) (result : Result Bool SinkFault)
    → PutsTold (SessionTells tells old new) [] text → Puts before after text put → IsNoRefusal put result → Gives (GivesTold tells number old) before after result new
gives-told tells number old new before after text (Ok done) result t p r =
    subst (λ (x : Result Bool SinkFault). Gives (GivesTold tells number old) before after x new) (sym r)
    (record { said = text; says = p; is = (t.told, t.is, t.appended number, sym t.accepted) })
gives-told tells number old new before after text (Err fault) result t p r =
    subst (λ (x : Result Bool SinkFault). Gives (GivesTold tells number old) before after x new) (sym r)
    (record { text = text; breaks = p; begins = inr (record { refused = false; new = new; is = (t.told, t.is, t.appended number, sym t.accepted) }) })

-- the audit of a version is told to whatever domain shows it
audit-moved : (state : State) (version : NumberedNet) (items : List Item) → state.current ≡ Some version → IsAudit version.net items → Moves (λ domain t next. Tells domain AuditFull t next) state state (AuditTold version items)
audit-moved state version items some audit domain same =
    (domain, same, (subst (λ (o : Option NumberedNet). TellsOf TellsAudit o (AuditTold version items)) (sym (ap (λ (s : State). s.current) same ∙ some)) (items, audit, refl), refl))

audit-told : (s : Session) (version : NumberedNet) (items : List Item) → CanReport s.work → s.state.current ≡ Some version → IsAudit version.net items → SessionTells (λ domain t next. Tells domain AuditFull t next) s s (AuditTold version items)
audit-told s version items can some audit = lifted AuditFull s.state s.state s.work s.usage s.searches (AuditTold version items) tt can (audit-moved s.state version items some audit)

-- an audit that is told so is written, or a beginning of it
gives-whole : (tells : Domain → Told → Domain → Type 0) (number : ℕ) (old new : Session) (current : Option NumberedNet) (before after : Written) (put : Result (Unit {0}) SinkFault) (result : Result Bool SinkFault)
    → ((version : NumberedNet) (items : List Item) → current ≡ Some version → IsAudit version.net items → SessionTells tells old new (AuditTold version items))
    → WritesAudit current before after put → IsNoRefusal put result → Gives (GivesTold tells number old) before after result new
gives-whole tells number old new None before after put result told w r = absurd w
gives-whole tells number old new (Some version) before after (Ok done) result told w r =
    subst (λ (x : Result Bool SinkFault). Gives (GivesTold tells number old) before after x new) (sym r)
    (record { said = audit_text version w.0; says = w.2; is = (AuditTold version w.0, told version w.0 refl w.1, refl, refl) })
gives-whole tells number old new (Some version) before after (Err fault) result told w r =
    subst (λ (x : Result Bool SinkFault). Gives (GivesTold tells number old) before after x new) (sym r)
    (record { text = audit_text version w.0; breaks = w.2; begins = inr (record { refused = false; new = new; is = (AuditTold version w.0, told version w.0 refl w.1, refl, refl) }) })

-- the audit of the last version
pub gives-audit : (command : Command) (number : ℕ) (old new : Session) (before after : Written) (put : Result (Unit {0}) SinkFault) (result : Result Bool SinkFault)
    → command ≡ AuditFull → new ≡ old → CanReport new.work → WritesAudit new.state.current before after put → IsNoRefusal put result → Gives (GivesCommand command number old) before after result new
gives-audit command number old new before after put result is same can w r =
    subst (λ (k : Command). Gives (GivesCommand k number old) before after result new) (sym is)
    (subst (λ (s : Session). Gives (GivesCommand AuditFull number s) before after result new) same (gives-whole (λ domain told next. Tells domain AuditFull told next) number new new new.state.current before after put result (λ version items some audit. audit-told new version items can some audit) w r))

-- the audit of a version that was tried
pub gives-tried : (question : Command) (number : ℕ) (old new : Session) (tried : Option NumberedNet) (before after : Written) (put : Result (Unit {0}) SinkFault) (result : Result Bool SinkFault)
    → ((told : Told) → TellsOf TellsAudit tried told → SessionTells (Tries question) old new told) → WritesAudit tried before after put → IsNoRefusal put result → Gives (GivesTold (Tries question) number old) before after result new
gives-tried question number old new tried before after put result told w r =
    gives-whole (Tries question) number old new tried before after put result
    (λ version items some audit. told (AuditTold version items) (subst (λ (o : Option NumberedNet). TellsOf TellsAudit o (AuditTold version items)) (sym some) (items, audit, refl))) w r

-- what isn't used of these facts, which was taken before, is written, or a beginning of it
pub gives-asides : (tells : Domain → Told → Domain → Type 0) (number : ℕ) (old new : Session) (facts : Facts) (current : Option NumberedNet) (count : ℕ) (before after : Written) (put : Result (Unit {0}) SinkFault) (result : Result Bool SinkFault)
    → ((told : Told) → TellsOf (TellsAsides facts) current told → SessionTells tells old new told)
    → AwaitsAsides facts current count → WritesAsides facts before after put → IsNoRefusal put result → Gives (GivesTold tells number old) before after result new
gives-asides tells number old new facts None count before after put result told a w r = absurd a
gives-asides tells number old new facts (Some version) count before after put result told a w r =
    let same : a.0 ≡ w.0 = asides-one facts a.0 w.0 a.1 w.1 in
    let account : IsAccountOf facts version.net w.0 = subst (λ (asides : List NotUsed). IsAccountOf facts version.net asides) same a.2 in
    gives-told tells number old new before after (asides_text w.0) put result
    (record { told = AsidesTold w.0; is = told (AsidesTold w.0) (w.0, w.1, account, refl); accepted = refl; appended = λ n. refl }) w.2 r

-- what isn't used of the accepted facts is told to whatever domain shows them
asides-moved : (state : State) (told : Told) → TellsOf (TellsAsides state.editing.accepted) state.current told → Moves (λ domain t next. Tells domain Aside t next) state state told
asides-moved state told is domain same = (domain, same, (subst (λ (s : State). TellsOf (TellsAsides s.editing.accepted) s.current told) (sym same) is, refl))

asides-told : (s : Session) (told : Told) → CanReport s.work → TellsOf (TellsAsides s.state.editing.accepted) s.state.current told → SessionTells (λ domain t next. Tells domain Aside t next) s s told
asides-told s told can is = lifted Aside s.state s.state s.work s.usage s.searches told tt can (asides-moved s.state told is)

-- what isn't used of the accepted facts
pub gives-last-asides : (command : Command) (number : ℕ) (old new : Session) (facts : Facts) (count : ℕ) (before after : Written) (put : Result (Unit {0}) SinkFault) (result : Result Bool SinkFault)
    → command ≡ Aside → AwaitsAsides old.state.editing.accepted old.state.current count → new ≡ old → CanReport new.work → facts ≡ new.state.editing.accepted → WritesAsides facts before after put → IsNoRefusal put result → Gives (GivesCommand command number old) before after result new
gives-last-asides command number old new facts count before after put result is a same can of_facts w r =
    let awaits : AwaitsAsides new.state.editing.accepted new.state.current count = subst (λ (s : Session). AwaitsAsides s.state.editing.accepted s.state.current count) (sym same) a in
    let writes : WritesAsides new.state.editing.accepted before after put = subst (λ (f : Facts). WritesAsides f before after put) of_facts w in
    subst (λ (k : Command). Gives (GivesCommand k number old) before after result new) (sym is)
    (subst (λ (s : Session). Gives (GivesCommand Aside number s) before after result new) same
    (gives-asides (λ domain told next. Tells domain Aside told next) number new new new.state.editing.accepted new.state.current count before after put result (λ told t. asides-told new told can t) awaits writes r))

-- a refusal is written, or a beginning of it
pub gives-refusal : (tells : Domain → Told → Domain → Type 0) (number : ℕ) (old new : Session) (before after : Written) (reason : Refusal) (result : Result Bool SinkFault)
    → SessionTells tells old new (Refused reason) → WritesRefusal number reason before after result → Gives (GivesTold tells number old) before after result new
gives-refusal tells number old new before after reason (Ok refused) m w = record { said = refused_line number reason; says = w.1; is = (Refused reason, m, refl, w.0) }
gives-refusal tells number old new before after reason (Err fault) m w =
    record { text = refused_line number reason; breaks = w; begins = inr (record { refused = true; new = new; is = (Refused reason, m, refl, refl) }) }

-- memory was wanted before anything was answered
pub gives-nothing : (tells : Domain → Told → Domain → Type 0) (number : ℕ) (old new : Session) (before : Written) (error : AllocError) → Gives (GivesTold tells number old) before before (Err (Wanting error)) new
gives-nothing tells number old new before error = record { text = []; breaks = breaks-nothing before error; begins = inl refl }

-- the same place and the same result
pub gives-at : (tells : Domain → Told → Domain → Type 0) (number : ℕ) (old new : Session) (before after place : Written) (result given : Result Bool SinkFault)
    → place ≡ after → given ≡ result → Gives (GivesTold tells number old) before after result new → Gives (GivesTold tells number old) before place given new
gives-at tells number old new before after place result given p r g =
    subst (λ (w : Written). Gives (GivesTold tells number old) before w given new) (sym p)
    (subst (λ (x : Result Bool SinkFault). Gives (GivesTold tells number old) before after x new) (sym r) g)
