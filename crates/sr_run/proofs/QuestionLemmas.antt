-- Questions as commands.
use Rattle.std.proofs.Common.{◌≡◌, ℕ, true, List, refl}
use Rattle.std.proofs.lemmas.Bool.{false≢true}
use Rattle.sr_script.specs.declared.command.Command.{Command}
use Rattle.sr_script.specs.declared.command.Command.TheVariants.{Lsp, Cost, Down, Up, Depth, Commit, DropStaged, Prove, ProofOpen, ProofVia, ProofNode, ProofAdj, ProofRow, ProofDone, AuditFull, Aside, Hold, Watch, Join, Show, Why, Check}
use Rattle.sr_script.specs.declared.name.LinkName.{LinkName}
use Rattle.sr_script.specs.Says.{is_question}
use Rattle.sr_print.specs.Told.{Told}
use Rattle.sr_run.specs.Domain.{Domain, version_before}
use Rattle.sr_run.specs.State.{State}
use Rattle.sr_run.specs.Asked.{TellsQuestion}
use Rattle.sr_run.specs.Session.{Asks, Tells, TellsOf}
use Rattle.sr_run.specs.Handlers.{IsTextQuestion, IsUncertified, Moves}
use Rattle.sr_run.proofs.HandlerLemmas.{asked-facts}

-- a command that is a question is told as such; the last clause serves all questions
tells-asked : (command : Command) (domain : Domain) (told : Told) (next : Domain) → is_question command ≡ true → Asks (TellsQuestion command domain.editing.accepted (version_before domain.nets)) domain told next → Tells domain command told next
tells-asked (Lsp octets) domain told next q a = absurd (false≢true q)
tells-asked (Cost link metric) domain told next q a = absurd (false≢true q)
tells-asked (Down link) domain told next q a = absurd (false≢true q)
tells-asked (Up link) domain told next q a = absurd (false≢true q)
tells-asked (Depth depth) domain told next q a = absurd (false≢true q)
tells-asked Commit domain told next q a = absurd (false≢true q)
tells-asked DropStaged domain told next q a = absurd (false≢true q)
tells-asked (Prove repair) domain told next q a = absurd (false≢true q)
tells-asked (Why repair) domain told next q a = absurd (false≢true q)
tells-asked (ProofOpen repair) domain told next q a = absurd (false≢true q)
tells-asked (ProofVia link) domain told next q a = absurd (false≢true q)
tells-asked (ProofNode node) domain told next q a = absurd (false≢true q)
tells-asked (ProofAdj link) domain told next q a = absurd (false≢true q)
tells-asked (ProofRow cells) domain told next q a = absurd (false≢true q)
tells-asked (ProofDone labels) domain told next q a = absurd (false≢true q)
tells-asked Hold domain told next q a = absurd (false≢true q)
tells-asked (Watch watchers rounds) domain told next q a = absurd (false≢true q)
tells-asked Join domain told next q a = absurd (false≢true q)
tells-asked Show domain told next q a = absurd (false≢true q)
tells-asked Check domain told next q a = absurd (false≢true q)
tells-asked question domain told next q a = a

text-is_question : (command : Command) → IsTextQuestion command → is_question command ≡ true
text-is_question AuditFull q = absurd q
text-is_question Aside q = absurd q
text-is_question command q = q

-- and whatever domain the session shows
pub question-told : (question : Command) (state : State) (told : Told) → IsTextQuestion question → TellsOf (TellsQuestion question state.editing.accepted state.previous) state.current told → Moves (λ domain t next. Tells domain question t next) state state told
question-told question state told q is domain same =
    let next = asked-facts (TellsQuestion question) state told is domain same in
    (next.0, next.1, tells-asked question domain told next.0 (text-is_question question q) next.2)

-- what is left is a question whose answer is appended at once
pub is-question : (command : Command) → IsUncertified command → ((o : List ℕ) → command ≡ Lsp o → ⊥) → ((l : LinkName) (m : ℕ) → command ≡ Cost l m → ⊥) → ((l : LinkName) → command ≡ Down l → ⊥) → ((l : LinkName) → command ≡ Up l → ⊥)
    → ((d : ℕ) → command ≡ Depth d → ⊥) → (command ≡ DropStaged → ⊥) → (command ≡ Show → ⊥) → (command ≡ Check → ⊥) → IsTextQuestion command
is-question (Lsp o) u a b c d e f g h = absurd (a o refl)
is-question (Cost l m) u a b c d e f g h = absurd (b l m refl)
is-question (Down l) u a b c d e f g h = absurd (c l refl)
is-question (Up l) u a b c d e f g h = absurd (d l refl)
is-question (Depth k) u a b c d e f g h = absurd (e k refl)
is-question DropStaged u a b c d e f g h = absurd (f refl)
is-question Show u a b c d e f g h = absurd (g refl)
is-question Check u a b c d e f g h = absurd (h refl)
is-question Commit u a b c d e f g h = absurd u
is-question (Prove repair) u a b c d e f g h = absurd u
is-question (Why repair) u a b c d e f g h = absurd u
is-question (ProofOpen repair) u a b c d e f g h = absurd u
is-question (ProofVia link) u a b c d e f g h = absurd u
is-question (ProofNode node) u a b c d e f g h = absurd u
is-question (ProofAdj link) u a b c d e f g h = absurd u
is-question (ProofRow cells) u a b c d e f g h = absurd u
is-question (ProofDone labels) u a b c d e f g h = absurd u
is-question Hold u a b c d e f g h = absurd u
is-question (Watch watchers rounds) u a b c d e f g h = absurd u
is-question Join u a b c d e f g h = absurd u
is-question AuditFull u a b c d e f g h = u
is-question Aside u a b c d e f g h = u
is-question command u a b c d e f g h = refl
