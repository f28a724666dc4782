-- A question for a certificate is told alike, and so is each line that writes one, which leaves one certificate open.
use Rattle.std.proofs.Common.{◌≡◌, ℕ, inl, inr, List, reverse, refl, sym, ap, subst, ◌∙◌, arith, Option, Some, None}
use Rattle.sr_model.specs.declared.case.Case.{Case}
use Rattle.sr_model.specs.declared.link.LinkNo.{LinkNo}
use Rattle.sr_model.specs.declared.repair.Answer.TheVariants.{Least}
use Rattle.sr_model.specs.Rule.{IsNet}
use Rattle.sr_laws.proofs.Answers.{case-answer-one}
use Rattle.sr_cert.specs.declared.certificate.Certificate.{Certificate}
use Rattle.sr_cert.specs.declared.clause.Verdict.{Verdict}
use Rattle.sr_cert.specs.declared.draft.CertLine.{CertLine}
use Rattle.sr_cert.specs.Draft.{CertDraft}
use Rattle.sr_cert.specs.Verdict.{IsVerdict}
use Rattle.sr_cert.proofs.CertifyLemmas.{certificates-one}
use Rattle.sr_cert.proofs.DraftLemmas.{drafts-write-one}
use Rattle.sr_cert.proofs.VerdictLemmas.{verdict-one}
use Rattle.sr_script.specs.declared.name.LinkName.{LinkName}
use Rattle.sr_script.specs.declared.name.RepairName.{RepairName}
use Rattle.sr_print.specs.declared.refusal.Refusal.{Refusal}
use Rattle.sr_print.specs.declared.refusal.Refusal.TheVariants.{NoProof, ProofFull}
use Rattle.sr_print.specs.Told.{Told}
use Rattle.sr_print.specs.Told.Told.{Proved, Unproved, ProofKept, Decided}
use Rattle.sr_repair.specs.Version.{NumberedNet}
use Rattle.sr_run.specs.Questions.{IsRefused}
use Rattle.sr_run.specs.Certificates.{TellsProof, TellsProofOf, RefusesDraft, OpensDraft, KeepsLine, KeepsLink, KeepsNode, KeepsRow, DecidesDraft, IsDecided, draft_of}
use Rattle.sr_run.proofs.DeterminedTold.{AreAlike, alike, alike-refused}
use Rattle.sr_run.proofs.DeterminedNames.{of-node, of-named_link, of-failure, of-affected}
use Rattle.sr_run.proofs.DeterminedFailures.{least-not_other}

-- a certificate of this case and destination is opened
abbrev Opens : Told → Option CertDraft → Case → ℕ → Type 0
Opens told new case d = (told ≡ ProofKept 1) × (new ≡ Some (draft_of case d))

-- told alike, and the certificates that are open after it are the same
pub record LeaveOne (a b : Told) (new next : Option CertDraft) : Type 0 where
  pub told : AreAlike a b
  pub draft : new ≡ next

module _ (version : NumberedNet) (net : IsNet version.net) (a b : Told) where
  proof-told : (case : Case) (d : ℕ) → TellsProofOf version.net case d a → TellsProofOf version.net case d b → AreAlike a b
  proof-told case d (inl x) (inl y) =
      alike a b (Proved version.net x.0) (Proved version.net y.0) x.2 y.2 (ap (Proved version.net) (certificates-one version.net net case d x.0 y.0 x.1 y.1))
  proof-told case d (inl x) (inr y) =
      absurd (least-not_other y.0 x.1.list (case-answer-one version.net case d y.0 (Least x.1.list) y.1 x.1.answer) y.2)
  proof-told case d (inr x) (inl y) =
      absurd (least-not_other x.0 y.1.list (case-answer-one version.net case d x.0 (Least y.1.list) x.1 y.1.answer) x.2)
  proof-told case d (inr x) (inr y) = alike a b (Unproved x.0) (Unproved y.0) x.3 y.3 (ap Unproved (case-answer-one version.net case d x.0 y.0 x.1 y.1))

  -- the certificate, or why there is none
  pub proof-alike : (repair : RepairName) → TellsProof repair version a → TellsProof repair version b → AreAlike a b
  proof-alike repair =
      of-affected (AreAlike a b) (IsRefused a) (IsRefused b) (alike-refused a b) version.net net.named repair
      (λ case d. TellsProofOf version.net case d a) (λ case d. TellsProofOf version.net case d b) proof-told

module _ (a b : Told) (new next : Option CertDraft) where
  -- a refusal that changes nothing
  pub still-one : (old : Option CertDraft) (reason : Refusal) → RefusesDraft old a new reason → RefusesDraft old b next reason → LeaveOne a b new next
  still-one old reason p q = record { told = alike-refused a b reason p.0 q.0; draft = p.1 ∙ sym q.1 }

  line-kept-one : (line : CertLine) (old : Option CertDraft) → KeepsLine line old a new → KeepsLine line old b next → LeaveOne a b new next
  line-kept-one line None p q = still-one None NoProof p q
  line-kept-one line (Some draft) (inl p) (inl q) = still-one (Some draft) ProofFull p.1 q.1
  line-kept-one line (Some draft) (inl p) (inr q) = absurd (omega (arith, p.0, q.0))
  line-kept-one line (Some draft) (inr p) (inl q) = absurd (omega (arith, p.0, q.0))
  line-kept-one line (Some draft) (inr p) (inr q) = record { told = alike a b _ _ p.1 q.1 refl; draft = p.2 ∙ sym q.2 }

  module _ (version : NumberedNet) (net : IsNet version.net) (old : Option CertDraft) where
    -- a certificate is opened
    pub opened-one : (repair : RepairName) → OpensDraft repair version old a new → OpensDraft repair version old b next → LeaveOne a b new next
    opened-one repair =
        of-failure (LeaveOne a b new next) (RefusesDraft old a new) (RefusesDraft old b next) (still-one old) version.net net.named repair (Opens a new) (Opens b next)
        (λ case d p q. record { told = alike a b (ProofKept 1) (ProofKept 1) p.0 q.0 refl; draft = p.1 ∙ sym q.1 })

    -- the line of a link is kept
    pub link-kept-one : (line : LinkNo → CertLine) (name : LinkName) → KeepsLink line name version old a new → KeepsLink line name version old b next → LeaveOne a b new next
    link-kept-one line name =
        of-named_link (LeaveOne a b new next) (RefusesDraft old a new) (RefusesDraft old b next) (still-one old) version.net net.named name _ _
        (λ link. line-kept-one (line link) old)

    -- of a node
    pub node-kept-one : (system : ℕ) → KeepsNode system version old a new → KeepsNode system version old b next → LeaveOne a b new next
    node-kept-one system =
        of-node (LeaveOne a b new next) (RefusesDraft old a new) (RefusesDraft old b next) (still-one old) version.net.graph net.named system _ _
        (λ v. line-kept-one _ old)

    -- of a row
    pub row-kept-one : (cells : List ℕ) → KeepsRow cells version old a new → KeepsRow cells version old b next → LeaveOne a b new next
    row-kept-one cells = line-kept-one _ old

    -- what the draft and the labels write has one verdict
    decision-one : (draft : CertDraft) (labels : List ℕ) (one two : Verdict) → IsDecided version.net draft labels one → IsDecided version.net draft labels two → one ≡ two
    decision-one draft labels one two (inl p) (inl q) =
        let same : q.0 ≡ p.0 = drafts-write-one draft (reverse labels) q.0 p.0 q.1 p.1 in
        verdict-one version.net p.0 one two p.2 (subst (λ (c : Certificate). IsVerdict version.net c two) same q.2)
    decision-one draft labels one two (inl p) (inr q) = absurd (q.0 p.0 p.1)
    decision-one draft labels one two (inr p) (inl q) = absurd (p.0 q.0 q.1)
    decision-one draft labels one two (inr p) (inr q) = p.1 ∙ sym q.1

  -- the open certificate is decided
  pub decided-one : (version : NumberedNet) → IsNet version.net → (old : Option CertDraft) (labels : List ℕ) → DecidesDraft labels version old a new → DecidesDraft labels version old b next → LeaveOne a b new next
  decided-one version net None labels p q = still-one None NoProof p q
  decided-one version net (Some draft) labels p q = record {
    told = alike a b (Decided p.0) (Decided q.0) p.2 q.2 (ap Decided (decision-one version net (Some draft) draft labels p.0 q.0 p.1 q.1));
    draft = p.3 ∙ sym q.3;
  }
