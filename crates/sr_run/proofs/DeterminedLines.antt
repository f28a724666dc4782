-- A line has one answer, and one next state.
use Rattle.std.proofs.Common.{◌≡◌, ℕ, ◌+◌, ⊎_elim, Bool, List, [], ◌∷◌, length, All, Option, Some, None, refl, sym, ap, subst, ◌∙◌, inl, inr}
use Rattle.std.proofs.lemmas.List.Elements.{All-head}
use Rattle.sr_model.specs.declared.name.LinkKey.{LinkKey}
use Rattle.sr_model.specs.Key.{pair_of}
use Rattle.sr_model.specs.Label.{Net}
use Rattle.sr_model.specs.Rule.{IsNet}
use Rattle.sr_lsdb.specs.Edit.{Edit}
use Rattle.sr_lsdb.specs.Edit.Edit.{SetCost, TakeDown, BringUp, SetDepth}
use Rattle.sr_script.specs.declared.name.LinkName.{LinkName}
use Rattle.sr_script.specs.declared.command.Command.{Command}
use Rattle.sr_script.specs.declared.command.Command.TheVariants.{Lsp, Cost, Down, Up, Depth, Commit, DropStaged, Prove, ProofOpen, ProofVia, ProofNode, ProofAdj, ProofRow, ProofDone, Hold, Watch, Join, Show, Why, Check}
use Rattle.sr_script.specs.declared.line.Line.{Line}
use Rattle.sr_script.specs.declared.line.Line.TheVariants.{Nothing as NoWord, Word, Try}
use Rattle.sr_script.specs.declared.line.LineFault.{LineFault}
use Rattle.sr_script.specs.declared.line.LineFault.TheVariants as fault
use Rattle.sr_script.specs.LineSays.{LineSays, IsLineFault, IsMemory}
use Rattle.sr_print.specs.declared.refusal.Refusal.{Refusal}
use Rattle.sr_print.specs.declared.refusal.Refusal.TheVariants as refusal
use Rattle.sr_print.specs.Told.{Told, spelled, is_refusal}
use Rattle.sr_print.specs.Told.Told.{Nothing, Hold as HoldTold, Watch as WatchTold, Joined, Check as CheckTold}
use Rattle.sr_repair.specs.Version.{NumberedNet, version_of}
use Rattle.sr_cert.specs.declared.draft.CertLine.TheVariants.{Via, AdjSegment}
use Rattle.sr_cert.specs.Draft.{CertDraft}
use Rattle.sr_run.specs.Domain.{Domain, Background, last_version, version_before, with_draft, with_hold, with_watch}
use Rattle.sr_run.specs.Domain.Background.{AtRest, OfHold, OfWatch}
use Rattle.sr_run.specs.Edits.{Refuses, EditsNamed}
use Rattle.sr_run.specs.Asked.{TellsQuestion}
use Rattle.sr_run.specs.Reasons.{TellsReason}
use Rattle.sr_run.specs.Certificates.{Drafting, DraftsOf, TellsProof, OpensDraft, KeepsLink, KeepsNode, KeepsRow, DecidesDraft}
use Rattle.sr_run.specs.Tries.{Tries}
use Rattle.sr_run.specs.Session.{TellsOf, Asks, AsksSearching, WritesDraft, Tells, TellsLine, IsRefusedAs, after_question}
use Rattle.sr_run.specs.Background.{BeginsWork, JoinsWork, watch_from}
use Rattle.sr_run.specs.Laws.{AreNets, JoinsMoved, LinesHaveOneAnswer}
use Rattle.sr_script.proofs.LineLemmas.{one-thing, faults-agree, said-agrees}
use Rattle.sr_run.proofs.DeterminedTold.{AreAlike, AreOne, alike, alike-refused, one-refused}
use Rattle.sr_run.proofs.DeterminedEdits.{staged-one, announces-one, link-edited-one, dropped-one, commit-one}
use Rattle.sr_run.proofs.DeterminedAsked.{question-alike, tries-one}
use Rattle.sr_rules.proofs.BrokenLemmas.{broken-determined}
use Rattle.sr_run.proofs.DeterminedDifferences.{before-net, last-net}
use Rattle.sr_run.proofs.DeterminedReasons.{reason-alike}
use Rattle.sr_run.proofs.DeterminedReports.{due-one, joins-unmoved}
use Rattle.sr_run.proofs.DeterminedCertificates.{LeaveOne, proof-alike, still-one, opened-one, link-kept-one, node-kept-one, row-kept-one, decided-one}

-- no line is refused because memory ran out
memory-not_told : (fault : LineFault) (reason : Refusal) → IsMemory fault → IsRefusedAs fault reason → ⊥
memory-not_told fault.TooLong reason m r = m
memory-not_told fault.UnknownWord reason m r = m
memory-not_told fault.BadForm reason m r = m
memory-not_told fault.BadHex reason m r = m
memory-not_told (fault.Memory error) reason m r = r

-- a fault is one reason
reason-one : (fault : LineFault) (reason other : Refusal) → IsRefusedAs fault reason → IsRefusedAs fault other → reason ≡ other
reason-one fault.TooLong reason other p q = p ∙ sym q
reason-one fault.UnknownWord reason other p q = p ∙ sym q
reason-one fault.BadForm reason other p q = p ∙ sym q
reason-one fault.BadHex reason other p q = p ∙ sym q
reason-one (fault.Memory error) reason other p q = absurd p

-- what is said has no fault that is told
said-not_told : (line : List ℕ) (said : Line) (fault : LineFault) (reason : Refusal) → LineSays line said → IsLineFault line fault → IsRefusedAs fault reason → ⊥
said-not_told line said fault reason s f r = memory-not_told fault reason (said-agrees line said fault s f) r

nothing-not_word : (line : List ℕ) (c : Command) → LineSays line NoWord → LineSays line (Word c) → ⊥
nothing-not_word line c x y = let e : NoWord ≡ Word c = one-thing line NoWord (Word c) x y in absurd (cc)

nothing-not_try : (line : List ℕ) (c : Command) → LineSays line NoWord → LineSays line (Try c) → ⊥
nothing-not_try line c x y = let e : NoWord ≡ Try c = one-thing line NoWord (Try c) x y in absurd (cc)

word-not_try : (line : List ℕ) (c d : Command) → LineSays line (Word c) → LineSays line (Try d) → ⊥
word-not_try line c d x y = let e : Word c ≡ Try d = one-thing line (Word c) (Try d) x y in absurd (cc)

tries-same : (line : List ℕ) (c d : Command) → LineSays line (Try c) → LineSays line (Try d) → c ≡ d
tries-same line c d x y = let e : Try c ≡ Try d = one-thing line (Try c) (Try d) x y in cc

words-one : (line : List ℕ) (c d : Command) → LineSays line (Word c) → LineSays line (Word d) → c ≡ d
words-one line c d x y = let e : Word c ≡ Word d = one-thing line (Word c) (Word d) x y in cc

module _ (old : Domain) (nets : AreNets old) (a b : Told) (new next : Domain) where
  -- a question about the last version
  told-alike : (last : List Net) → All IsNet last → (tells : NumberedNet → Told → Type 0) → ((version : NumberedNet) → IsNet version.net → tells version a → tells version b → AreAlike a b)
      → TellsOf tells (last_version last) a → TellsOf tells (last_version last) b → AreAlike a b
  told-alike [] are tells one p q = alike-refused a b refusal.NoVersion p q
  told-alike (net ∷ earlier) are tells one p q = one (version_of (length earlier + 1) net) (All-head IsNet net earlier are) p q

  asked-one : (tells : NumberedNet → Told → Type 0) → ((version : NumberedNet) → IsNet version.net → tells version a → tells version b → AreAlike a b) → Asks tells old a new → Asks tells old b next → AreOne a b new next
  asked-one tells one p q = record { told = told-alike old.nets nets tells one p.0 q.0; state = p.1 ∙ sym q.1 }

  -- a question for which distances are searched for, which is counted unless it is refused
  searching-one : (tells : NumberedNet → Told → Type 0) → ((version : NumberedNet) → IsNet version.net → tells version a → tells version b → AreAlike a b) → AsksSearching tells old a new → AsksSearching tells old b next → AreOne a b new next
  searching-one tells one p q =
      let told : AreAlike a b = told-alike old.nets nets tells one p.0 q.0 in
      record { told = told; state = p.1 ∙ ap (λ (refused : Bool). after_question refused old) told.refusal ∙ sym q.1 }

  -- a line of a certificate
  draft-left-one : (last : List Net) → All IsNet last → (drafts : NumberedNet → Drafting) → ((version : NumberedNet) → IsNet version.net → (x y : Option CertDraft) → drafts version old.draft a x → drafts version old.draft b y → LeaveOne a b x y)
      → (x y : Option CertDraft) → DraftsOf drafts (last_version last) old.draft a x → DraftsOf drafts (last_version last) old.draft b y → LeaveOne a b x y
  draft-left-one [] are drafts one x y p q = still-one a b x y old.draft refusal.NoVersion p q
  draft-left-one (net ∷ earlier) are drafts one x y p q = one (version_of (length earlier + 1) net) (All-head IsNet net earlier are) x y p q

  drafted-one : (drafts : NumberedNet → Drafting) → ((version : NumberedNet) → IsNet version.net → (x y : Option CertDraft) → drafts version old.draft a x → drafts version old.draft b y → LeaveOne a b x y)
      → WritesDraft drafts old a new → WritesDraft drafts old b next → AreOne a b new next
  drafted-one drafts one p q =
      let left : LeaveOne a b p.0 q.0 = draft-left-one old.nets nets drafts one p.0 q.0 p.1 q.1 in
      record { told = left.told; state = p.2 ∙ ap (with_draft old) left.draft ∙ sym q.2 }

  -- an edit of a link
  edited-one : (edit : LinkKey → Edit) (link : LinkName) (last : List Net) → All IsNet last → EditsNamed edit link (last_version last) old a new → EditsNamed edit link (last_version last) old b next → AreOne a b new next
  edited-one edit link [] are p q = one-refused old a b new next refusal.NoVersion p q
  edited-one edit link (net ∷ earlier) are p q = link-edited-one old a b new next edit link (version_of (length earlier + 1) net) (All-head IsNet net earlier are).named p q

  -- work begins on one version, or is refused for one reason
  begun-one : (tells : NumberedNet → Told) (goes : NumberedNet → Domain) (last : Option NumberedNet) (background : Background)
      → BeginsWork (Refuses old a new) (λ version. (a ≡ tells version) × (new ≡ goes version)) last background
      → BeginsWork (Refuses old b next) (λ version. (b ≡ tells version) × (next ≡ goes version)) last background → AreOne a b new next
  begun-one tells goes None background p q = one-refused old a b new next refusal.NoVersion p q
  begun-one tells goes (Some version) AtRest p q = record { told = alike a b (tells version) (tells version) p.0 q.0 refl; state = p.1 ∙ sym q.1 }
  begun-one tells goes (Some version) (OfHold held) p q = one-refused old a b new next refusal.WatchRunning p q
  begun-one tells goes (Some version) (OfWatch watch) p q = one-refused old a b new next refusal.WatchRunning p q

  -- two answers to a line: both are refusals or neither is, the next states are the same, and the texts, unless the line joins a watch during which a commit was accepted
  pub record HasOne (line : List ℕ) : Type 0 where
    pub refused : is_refusal a ≡ is_refusal b
    pub state : new ≡ next
    pub text : ¬ JoinsMoved old line → (number : ℕ) → spelled number a ≡ spelled number b

  has-one : (line : List ℕ) → AreOne a b new next → HasOne line
  has-one line one = record { refused = one.told.refusal; state = one.state; text = λ still. one.told.text }

  joined-one : (line : List ℕ) → LineSays line (Word Join) → JoinsWork old a new → JoinsWork old b next → HasOne line
  joined-one line says p q = record {
    refused = ap is_refusal p.2 ∙ sym (ap is_refusal q.2);
    state = p.1.1 ∙ sym q.1.1;
    text = λ still number.
        let same : p.0 ≡ q.0 = due-one old.background old.nets p.0 q.0 (joins-unmoved old line says still) p.1.0 q.1.0 in
        ap (spelled number) (p.2 ∙ ap Joined same ∙ sym q.2);
  }

  -- a line that says a command
  said-one : (line : List ℕ) (command : Command) → LineSays line (Word command) → Tells old command a new → Tells old command b next → HasOne line
  said-one line (Lsp octets) says p q = has-one line (announces-one old a b new next octets p q)
  said-one line (Cost link metric) says p q = has-one line (edited-one (λ key. SetCost key metric) link old.nets nets p q)
  said-one line (Down link) says p q = has-one line (edited-one (λ key. TakeDown (pair_of key)) link old.nets nets p q)
  said-one line (Up link) says p q = has-one line (edited-one (λ key. BringUp (pair_of key)) link old.nets nets p q)
  said-one line (Depth depth) says p q = has-one line (staged-one old a b new next (SetDepth depth) p q)
  said-one line Commit says p q = has-one line (commit-one old a b new next p q)
  said-one line DropStaged says p q = has-one line (dropped-one old a b new next p q)
  said-one line (Prove repair) says p q = has-one line (searching-one (TellsProof repair) (λ version net. proof-alike version net a b repair) p q)
  said-one line (Why repair) says p q = has-one line (searching-one (TellsReason repair) (λ version net. reason-alike version net a b repair) p q)
  said-one line (ProofOpen repair) says p q = has-one line (drafted-one (OpensDraft repair) (λ version net x y. opened-one a b x y version net old.draft repair) p q)
  said-one line (ProofVia link) says p q = has-one line (drafted-one (KeepsLink Via link) (λ version net x y. link-kept-one a b x y version net old.draft Via link) p q)
  said-one line (ProofNode node) says p q = has-one line (drafted-one (KeepsNode node) (λ version net x y. node-kept-one a b x y version net old.draft node) p q)
  said-one line (ProofAdj link) says p q = has-one line (drafted-one (KeepsLink AdjSegment link) (λ version net x y. link-kept-one a b x y version net old.draft AdjSegment link) p q)
  said-one line (ProofRow cells) says p q = has-one line (drafted-one (KeepsRow cells) (λ version net x y. row-kept-one a b x y version net old.draft cells) p q)
  said-one line (ProofDone labels) says p q = has-one line (drafted-one (DecidesDraft labels) (λ version net x y. decided-one a b x y version net old.draft labels) p q)
  said-one line Hold says p q = has-one line (begun-one (λ version. HoldTold version.number) (with_hold old) (last_version old.nets) old.background p q)
  said-one line (Watch watchers rounds) says p q = has-one line (begun-one (λ version. WatchTold watchers rounds version.number) (λ version. with_watch old (watch_from watchers rounds version)) (last_version old.nets) old.background p q)
  said-one line Join says p q = joined-one line says p q
  said-one line Show says p q = has-one line (record { told = alike a b _ _ p.0 q.0 refl; state = p.1 ∙ sym q.1 })
  said-one line Check says p q =
      has-one line (record { told = alike a b (CheckTold p.0.0) (CheckTold q.0.0) p.0.2 q.0.2 (ap CheckTold (broken-determined old.editing.tentative p.0.0 q.0.0 p.0.1 q.0.1)); state = p.1 ∙ sym q.1 })
  said-one line question says p q = has-one line (asked-one (TellsQuestion question old.editing.accepted (version_before old.nets)) (λ version net. question-alike question old.editing.accepted (version_before old.nets) (before-net old.nets nets) version net a b) p q)

  -- a line has one fault that is told
  faults-one : (line : List ℕ) (fault also : LineFault) (reason other : Refusal) → IsLineFault line fault → IsLineFault line also → IsRefusedAs fault reason → IsRefusedAs also other → Refuses old a new reason → Refuses old b next other → AreOne a b new next
  faults-one line fault also reason other x y r s p q =
      ⊎_elim
      (λ (e : fault ≡ also).
      let same : reason ≡ other = reason-one also reason other (subst (λ (f : LineFault). IsRefusedAs f reason) e r) s in
      one-refused old a b new next other (subst (Refuses old a new) same p) q)
      (λ m. absurd (⊎_elim (λ here. memory-not_told fault reason here r) (λ there. memory-not_told also other there s) m))
      (faults-agree line fault also x y)

  -- a line
  pub line-one : (line : List ℕ) → TellsLine old line a new → TellsLine old line b next → HasOne line
  line-one line (inl p) (inl q) = has-one line (faults-one line p.0 q.0 p.1 q.1 p.2 q.2 p.3 q.3 p.4 q.4)
  line-one line (inl p) (inr (inl q)) = absurd (said-not_told line NoWord p.0 p.1 q.0 p.2 p.3)
  line-one line (inl p) (inr (inr (inl q))) = absurd (said-not_told line (Word q.0) p.0 p.1 q.1 p.2 p.3)
  line-one line (inl p) (inr (inr (inr q))) = absurd (said-not_told line (Try q.0) p.0 p.1 q.1 p.2 p.3)
  line-one line (inr (inl p)) (inl q) = absurd (said-not_told line NoWord q.0 q.1 p.0 q.2 q.3)
  line-one line (inr (inl p)) (inr (inl q)) = has-one line (record { told = alike a b Nothing Nothing p.1 q.1 refl; state = p.2 ∙ sym q.2 })
  line-one line (inr (inl p)) (inr (inr (inl q))) = absurd (nothing-not_word line q.0 p.0 q.1)
  line-one line (inr (inl p)) (inr (inr (inr q))) = absurd (nothing-not_try line q.0 p.0 q.1)
  line-one line (inr (inr (inl p))) (inl q) = absurd (said-not_told line (Word p.0) q.0 q.1 p.1 q.2 q.3)
  line-one line (inr (inr (inl p))) (inr (inl q)) = absurd (nothing-not_word line p.0 q.0 p.1)
  line-one line (inr (inr (inl p))) (inr (inr (inl q))) =
      let same : q.0 ≡ p.0 = words-one line q.0 p.0 q.1 p.1 in
      said-one line p.0 p.1 p.2 (subst (λ (c : Command). Tells old c b next) same q.2)
  line-one line (inr (inr (inl p))) (inr (inr (inr q))) = absurd (word-not_try line p.0 q.0 p.1 q.1)
  line-one line (inr (inr (inr p))) (inl q) = absurd (said-not_told line (Try p.0) q.0 q.1 p.1 q.2 q.3)
  line-one line (inr (inr (inr p))) (inr (inl q)) = absurd (nothing-not_try line p.0 q.0 p.1)
  line-one line (inr (inr (inr p))) (inr (inr (inl q))) = absurd (word-not_try line q.0 p.0 q.1 p.1)
  line-one line (inr (inr (inr p))) (inr (inr (inr q))) =
      let same : q.0 ≡ p.0 = tries-same line q.0 p.0 q.1 p.1 in
      has-one line (tries-one p.0 old (last-net old.nets nets) a b new next p.2 (subst (λ (c : Command). Tries c old b next) same q.2))

-- from a state, a line is refused or not, and has one next state; and it has one answer, unless it joins a watch during which a commit was accepted
pub lines-determined : LinesHaveOneAnswer
lines-determined old number line out other refused again new next nets p q =
    let one = line-one old nets p.0 q.0 new next line p.1 q.1 in
    (p.3 ∙ one.refused ∙ sym q.3, one.state, λ still. p.2 ∙ one.text still number ∙ sym q.2)
