-- The parts of a domain that answers to lines keep.
use Rattle.std.proofs.Common.{◌≡◌, ℕ, ◌+◌, Bool, true, false, List, [], ◌∷◌, refl, sym, subst, inl, inr, Option, Some, None}
use Rattle.sr_model.specs.declared.name.LinkKey.{LinkKey}
use Rattle.sr_model.specs.Key.{pair_of}
use Rattle.sr_model.specs.Label.{Net}
use Rattle.sr_lsdb.specs.Edit.{Edit}
use Rattle.sr_lsdb.specs.Edit.Edit.{Announce, SetCost, TakeDown, BringUp, SetDepth}
use Rattle.sr_script.specs.declared.name.LinkName.{LinkName}
use Rattle.sr_script.specs.declared.command.Command.{Command}
use Rattle.sr_script.specs.declared.command.Command.TheVariants.{Lsp, Cost, Down, Up, Depth, Commit, DropStaged, Prove, ProofOpen, ProofVia, ProofNode, ProofAdj, ProofRow, ProofDone, Hold, Watch, Join, Why}
use Rattle.sr_domain.specs.Net.{IsNetOf}
use Rattle.sr_print.specs.Told.{Told, is_refusal}
use Rattle.sr_print.specs.Told.Told.{Hold as HoldTold, Watch as WatchTold}
use Rattle.sr_engine.specs.Replies.{Replies}
use Rattle.sr_repair.specs.Version.{NumberedNet}
use Rattle.sr_cert.specs.Draft.{CertDraft}
use Rattle.sr_run.specs.Domain.{Domain, Background, last_version, with_staged, with_dropped, with_draft, with_net, with_hold, with_watch, with_joined, with_asked, with_tried}
use Rattle.sr_run.specs.Domain.Background.{AtRest, OfHold, OfWatch}
use Rattle.sr_run.specs.Background.{BeginsWork, EndsWork, watch_from}
use Rattle.sr_run.specs.Edits.{Refuses, StagesEdit, EditsNamed, Announces, Commits}
use Rattle.sr_run.specs.Tries.{Tries}
use Rattle.sr_run.specs.Session.{Answers, EndsScript, Tells, TellsLine, after_question}
use Rattle.sr_run.specs.Handlers.{IsOfDomain}
use Rattle.sr_run.proofs.NameLemmas.{announced-then}

-- what an edit and the dropping of edits keep
module _ (Q : Domain → Type 0) (staged : (domain : Domain) (edit : Edit) → Q domain → Q (with_staged domain edit)) (dropped : (domain : Domain) → Q domain → Q (with_dropped domain))
    (drafted : (domain : Domain) (draft : Option CertDraft) → Q domain → Q (with_draft domain draft)) where
  staged-keeps : (edit : Edit) (old : Domain) (told : Told) (new : Domain) → StagesEdit edit old told new → Q old → Q new
  staged-keeps edit old told new (inl full) h = subst Q (sym full.1.1) h
  staged-keeps edit old told new (inr more) h = subst Q (sym more.2) (staged old edit h)

  link-keeps : (edit : LinkKey → Edit) (link : LinkName) (last : Option NumberedNet) (old : Domain) (told : Told) (new : Domain) → EditsNamed edit link last old told new → Q old → Q new
  link-keeps edit link None old told new e h = subst Q (sym e.1) h
  link-keeps edit link (Some version) old told new e h = announced-then (Q new) (Refuses old told new) version.net link (λ key. StagesEdit (edit key) old told new)
      (λ r x. subst Q (sym x.1) h) (λ key x. staged-keeps (edit key) old told new x h) e

  pdu-keeps : (octets : List ℕ) (old : Domain) (told : Told) (new : Domain) → Announces octets old told new → Q old → Q new
  pdu-keeps octets old told new (inl broken) h = subst Q (sym broken.2.1) h
  pdu-keeps octets old told new (inr (lsp, reads, inl stale)) h = subst Q (sym stale.3.1) h
  pdu-keeps octets old told new (inr (lsp, reads, inr taken)) h = staged-keeps (Announce lsp) old told new taken.1 h

  -- is kept by each command that leaves background work alone and searches for nothing; the last clause serves all that no other names: they change nothing
  pub quiet-keeps : (old : Domain) (command : Command) (told : Told) (new : Domain) → IsOfDomain command → Tells old command told new → Q old → Q new
  quiet-keeps old (Lsp octets) told new quiet t h = pdu-keeps octets old told new t h
  quiet-keeps old (Cost link metric) told new quiet t h = link-keeps (λ key. SetCost key metric) link (last_version old.nets) old told new t h
  quiet-keeps old (Down link) told new quiet t h = link-keeps (λ key. TakeDown (pair_of key)) link (last_version old.nets) old told new t h
  quiet-keeps old (Up link) told new quiet t h = link-keeps (λ key. BringUp (pair_of key)) link (last_version old.nets) old told new t h
  quiet-keeps old (Depth depth) told new quiet t h = staged-keeps (SetDepth depth) old told new t h
  quiet-keeps old Commit told new quiet t h = absurd quiet
  quiet-keeps old DropStaged told new quiet t h = subst Q (sym t.1) (dropped old h)
  quiet-keeps old (Prove repair) told new quiet t h = absurd quiet
  quiet-keeps old (Why repair) told new quiet t h = absurd quiet
  quiet-keeps old (ProofOpen repair) told new quiet t h = subst Q (sym t.2) (drafted old t.0 h)
  quiet-keeps old (ProofVia link) told new quiet t h = subst Q (sym t.2) (drafted old t.0 h)
  quiet-keeps old (ProofNode node) told new quiet t h = subst Q (sym t.2) (drafted old t.0 h)
  quiet-keeps old (ProofAdj link) told new quiet t h = subst Q (sym t.2) (drafted old t.0 h)
  quiet-keeps old (ProofRow cells) told new quiet t h = subst Q (sym t.2) (drafted old t.0 h)
  quiet-keeps old (ProofDone labels) told new quiet t h = subst Q (sym t.2) (drafted old t.0 h)
  quiet-keeps old Hold told new quiet t h = absurd quiet
  quiet-keeps old (Watch watchers rounds) told new quiet t h = absurd quiet
  quiet-keeps old Join told new quiet t h = absurd quiet
  quiet-keeps old command told new quiet t h = subst Q (sym t.1) h

-- the nets, what runs, the totals, the questions for certificates and what was tried stay
pub record Stays (old new : Domain) : Type 0 where
  pub nets : new.nets ≡ old.nets
  pub background : new.background ≡ old.background
  pub totals : new.totals ≡ old.totals
  pub asked : new.asked ≡ old.asked
  pub tried : new.tried ≡ old.tried

pub stays-itself : (domain : Domain) → Stays domain domain
stays-itself domain = record { nets = refl; background = refl; totals = refl; asked = refl; tried = refl }

pub quiet-stays : (old : Domain) (command : Command) (told : Told) (new : Domain) → IsOfDomain command → Tells old command told new → Stays old new
quiet-stays old command told new quiet t =
    quiet-keeps (Stays old)
    (λ domain edit s. record { nets = s.nets; background = s.background; totals = s.totals; asked = s.asked; tried = s.tried })
    (λ domain s. record { nets = s.nets; background = s.background; totals = s.totals; asked = s.asked; tried = s.tried })
    (λ domain draft s. record { nets = s.nets; background = s.background; totals = s.totals; asked = s.asked; tried = s.tried })
    old command told new quiet t (stays-itself old)

-- what each step of a domain keeps is kept by each answer
pub record IsKept (Q : Domain → Type 0) : Type 0 where
  pub staged : (domain : Domain) (edit : Edit) → Q domain → Q (with_staged domain edit)
  pub dropped : (domain : Domain) → Q domain → Q (with_dropped domain)
  pub drafted : (domain : Domain) (draft : Option CertDraft) → Q domain → Q (with_draft domain draft)
  pub accepted : (domain : Domain) (net : Net) → IsNetOf domain.editing.tentative net → Q domain → Q (with_net domain net)
  pub held : (domain : Domain) (version : NumberedNet) → last_version domain.nets ≡ Some version → Q domain → Q (with_hold domain version)
  pub watched : (domain : Domain) (version : NumberedNet) (watchers rounds : ℕ) → last_version domain.nets ≡ Some version → Q domain → Q (with_watch domain (watch_from watchers rounds version))
  pub joined : (domain : Domain) → Q domain → Q (with_joined domain)
  pub asked : (domain : Domain) → Q domain → Q (with_asked domain)
  pub tried : (domain : Domain) (net : Net) → IsNetOf domain.editing.tentative net → Q domain → Q (with_tried domain net)

module _ (Q : Domain → Type 0) (kept : IsKept Q) where
  question-keeps : (refused : Bool) (old : Domain) → Q old → Q (after_question refused old)
  question-keeps true old h = h
  question-keeps false old h = kept.asked old h

  commit-keeps : (old : Domain) (told : Told) (new : Domain) → Commits old told new → Q old → Q new
  commit-keeps old told new (inl full) h = subst Q (sym full.1.1) h
  commit-keeps old told new (inr (room, inl rejects)) h = subst Q (sym rejects.dropped) (kept.dropped old h)
  commit-keeps old told new (inr (room, inr accepts)) h = subst Q (sym accepts.accepted) (kept.accepted old accepts.net accepts.is_net h)

  hold-keeps : (old : Domain) (told : Told) (new : Domain) (last : Option NumberedNet) (background : Background) → last_version old.nets ≡ last
      → BeginsWork (Refuses old told new) (λ version. (told ≡ HoldTold version.number) × (new ≡ with_hold old version)) last background → Q old → Q new
  hold-keeps old told new None background is b h = subst Q (sym b.1) h
  hold-keeps old told new (Some version) AtRest is b h = subst Q (sym b.1) (kept.held old version is h)
  hold-keeps old told new (Some version) (OfHold held) is b h = subst Q (sym b.1) h
  hold-keeps old told new (Some version) (OfWatch watch) is b h = subst Q (sym b.1) h

  watch-keeps : (watchers rounds : ℕ) (old : Domain) (told : Told) (new : Domain) (last : Option NumberedNet) (background : Background) → last_version old.nets ≡ last
      → BeginsWork (Refuses old told new) (λ version. (told ≡ WatchTold watchers rounds version.number) × (new ≡ with_watch old (watch_from watchers rounds version))) last background → Q old → Q new
  watch-keeps watchers rounds old told new None background is b h = subst Q (sym b.1) h
  watch-keeps watchers rounds old told new (Some version) AtRest is b h = subst Q (sym b.1) (kept.watched old version watchers rounds is h)
  watch-keeps watchers rounds old told new (Some version) (OfHold held) is b h = subst Q (sym b.1) h
  watch-keeps watchers rounds old told new (Some version) (OfWatch watch) is b h = subst Q (sym b.1) h

  quietly : (old : Domain) (command : Command) (told : Told) (new : Domain) → IsOfDomain command → Tells old command told new → Q old → Q new
  quietly = quiet-keeps Q kept.staged kept.dropped kept.drafted

  -- the last clause serves all commands that ask: they change nothing
  tells-keep : (old : Domain) (command : Command) (told : Told) (new : Domain) → Tells old command told new → Q old → Q new
  tells-keep old (Lsp octets) told new t h = quietly old (Lsp octets) told new tt t h
  tells-keep old (Cost link metric) told new t h = quietly old (Cost link metric) told new tt t h
  tells-keep old (Down link) told new t h = quietly old (Down link) told new tt t h
  tells-keep old (Up link) told new t h = quietly old (Up link) told new tt t h
  tells-keep old (Depth depth) told new t h = quietly old (Depth depth) told new tt t h
  tells-keep old Commit told new t h = commit-keeps old told new t h
  tells-keep old DropStaged told new t h = quietly old DropStaged told new tt t h
  tells-keep old (Prove repair) told new t h = subst Q (sym t.1) (question-keeps (is_refusal told) old h)
  tells-keep old (Why repair) told new t h = subst Q (sym t.1) (question-keeps (is_refusal told) old h)
  tells-keep old (ProofOpen repair) told new t h = quietly old (ProofOpen repair) told new tt t h
  tells-keep old (ProofVia link) told new t h = quietly old (ProofVia link) told new tt t h
  tells-keep old (ProofNode node) told new t h = quietly old (ProofNode node) told new tt t h
  tells-keep old (ProofAdj link) told new t h = quietly old (ProofAdj link) told new tt t h
  tells-keep old (ProofRow cells) told new t h = quietly old (ProofRow cells) told new tt t h
  tells-keep old (ProofDone labels) told new t h = quietly old (ProofDone labels) told new tt t h
  tells-keep old Hold told new t h = hold-keeps old told new (last_version old.nets) old.background refl t h
  tells-keep old (Watch watchers rounds) told new t h = watch-keeps watchers rounds old told new (last_version old.nets) old.background refl t h
  tells-keep old Join told new t h = subst Q (sym t.1.1) (kept.joined old h)
  tells-keep old command told new t h = subst Q (sym t.1) h

  tries-keep : (question : Command) (old : Domain) (told : Told) (new : Domain) → Tries question old told new → Q old → Q new
  tries-keep question old told new (inl full) h = subst Q (sym full.1.1) h
  tries-keep question old told new (inr (room, inl vain)) h = subst Q (sym vain.refused.1) h
  tries-keep question old told new (inr (room, inr asks)) h = subst Q (sym asks.tried) (kept.tried old asks.net asks.is_net h)

  line-keeps : (old : Domain) (line : List ℕ) (told : Told) (new : Domain) → TellsLine old line told new → Q old → Q new
  line-keeps old line told new (inl fault) h = subst Q (sym fault.4.1) h
  line-keeps old line told new (inr (inl nothing)) h = subst Q (sym nothing.2) h
  line-keeps old line told new (inr (inr (inl said))) h = tells-keep old said.0 told new said.2 h
  line-keeps old line told new (inr (inr (inr tries))) h = tries-keep tries.0 old told new tries.2 h

  -- after an answer to a line
  pub answer-keeps : (old : Domain) (number : ℕ) (line out : List ℕ) (refused : Bool) (new : Domain) → Answers old number line out refused new → Q old → Q new
  answer-keeps old number line out refused new a h = line-keeps old line a.0 new a.1 h

  -- and after the answers to lines
  pub replies-keep : (old : Domain) (number : ℕ) (lines : List (List ℕ)) (out : List ℕ) (refused : Bool) (new : Domain) → Replies Answers old number lines out refused new → Q old → Q new
  replies-keep old number [] out refused new r h = subst Q (sym r.2) h
  replies-keep old number (line ∷ lines) out refused new r h =
      replies-keep r.0 (number + 1) lines r.3 r.4 new r.6 (answer-keeps old number line r.1 r.2 r.0 r.5 h)

  end-keeps : (background : Background) (old : Domain) (out : List ℕ) (new : Domain) → EndsWork background old out new → Q old → Q new
  end-keeps AtRest old out new e h = subst Q (sym e.1) h
  end-keeps (OfHold version) old out new e h = subst Q (sym e.1.1) (kept.joined old h)
  end-keeps (OfWatch watch) old out new e h = subst Q (sym e.1.1) (kept.joined old h)

  -- and after the end of a script
  pub ends-keep : (old : Domain) (out : List ℕ) (new : Domain) → EndsScript old out new → Q old → Q new
  ends-keep old out new e h = end-keeps old.background old out new e h
