-- What is told to a question for a certificate, and to the lines that write one.
use Rattle.std.specs.Prelude.{◌≡◌, ℕ, ◌+◌, ◌<◌, ◌≤◌, ◌⊎◌, false, List, [], Option, Some, None, reverse}
use Rattle.sr_model.specs.declared.link.LinkNo.{LinkNo}
use Rattle.sr_model.specs.declared.case.Case.{Case}
use Rattle.sr_model.specs.declared.repair.Answer.{Answer}
use Rattle.sr_model.specs.Label.{Net}
use Rattle.sr_model.specs.Repair.{IsCaseAnswer}
use Rattle.sr_model.specs.Audit.{is_least}
use Rattle.sr_cert.specs.declared.certificate.Certificate.{Certificate}
use Rattle.sr_cert.specs.declared.clause.Verdict.{Verdict}
use Rattle.sr_cert.specs.declared.clause.Verdict.TheVariants.{Rejected}
use Rattle.sr_cert.specs.declared.clause.Clause.TheVariants as clause
use Rattle.sr_cert.specs.declared.draft.TheConstants.{MOST_LINES}
use Rattle.sr_cert.specs.declared.draft.CertLine.{CertLine}
use Rattle.sr_cert.specs.declared.draft.CertLine.TheVariants.{NodeSegment, Row}
use Rattle.sr_cert.specs.Draft.{CertDraft, IsWritten, kept_lines, with_line}
use Rattle.sr_cert.specs.Certified.{IsCertificateOf, DeliversWhereAccepted}
use Rattle.sr_cert.specs.Verdict.{IsVerdict}
use Rattle.sr_script.specs.declared.name.LinkName.{LinkName}
use Rattle.sr_script.specs.declared.name.RepairName.{RepairName}
use Rattle.sr_print.specs.declared.refusal.Refusal.{Refusal}
use Rattle.sr_print.specs.declared.refusal.Refusal.TheVariants.{NoVersion, NoProof, ProofFull}
use Rattle.sr_print.specs.Told.{Told}
use Rattle.sr_print.specs.Told.Told.{Proved, Unproved, ProofKept, Decided, Refused}
use Rattle.sr_repair.specs.Version.{NumberedNet}
use Rattle.sr_run.specs.Names.{OfNode, OfNamedLink, OfFailure, OfAffected}
use Rattle.sr_run.specs.Questions.{IsRefused}

-- the certificate of the case's answer for d where that is a list, or the answer where it isn't
abbrev pub TellsProofOf : Net → Case → ℕ → Told → Type 0
TellsProofOf net case d told =
    ((c : Certificate) × IsCertificateOf net case d c × (told ≡ Proved net c))
    ⊎ ((answer : Answer) × IsCaseAnswer net case d answer × (is_least answer ≡ false) × (told ≡ Unproved answer))

-- `prove`: that of the case and the destination that are named
abbrev pub TellsProof : RepairName → NumberedNet → Told → Type 0
TellsProof repair version told =
    OfAffected (IsRefused told) version.net repair (λ case d. TellsProofOf version.net case d told)

-- what is told to a line of a certificate, from the one that is open before it to the one that is open after it
abbrev pub Drafting : Type 1
Drafting = Option CertDraft → Told → Option CertDraft → Type 0

-- the line is refused, and the open certificate stays
abbrev pub RefusesDraft : Option CertDraft → Told → Option CertDraft → Refusal → Type 0
RefusesDraft old told new reason = (told ≡ Refused reason) × (new ≡ old)

-- a certificate of this case and destination that has no lines yet
abbrev pub draft_of : Case → ℕ → CertDraft
draft_of case d = record { case = case; dest = record { 0 = d }; lines = [] }

-- `proof open`: a certificate is begun, whether one was open or not
abbrev pub OpensDraft : RepairName → NumberedNet → Drafting
OpensDraft repair version old told new = OfFailure (RefusesDraft old told new) version.net repair
    (λ case d. (told ≡ ProofKept 1) × (new ≡ Some (draft_of case d)))

-- one more line is kept of the open certificate; where none is open, or it is full, that is refused
abbrev pub KeepsLine : CertLine → Drafting
KeepsLine line None told new = RefusesDraft None told new NoProof
KeepsLine line (Some draft) told new =
    ((MOST_LINES ≤ kept_lines draft) × RefusesDraft (Some draft) told new ProofFull)
    ⊎ ((kept_lines draft < MOST_LINES) × (told ≡ ProofKept (kept_lines draft + 1))
    × (new ≡ Some (with_line draft line)))

-- `proof via` and `proof adj`: the line of the link that is named
abbrev pub KeepsLink : (LinkNo → CertLine) → LinkName → NumberedNet → Drafting
KeepsLink line name version old told new =
    OfNamedLink (RefusesDraft old told new) version.net name (λ link. KeepsLine (line link) old told new)

-- `proof node`: the line of the node that is named
abbrev pub KeepsNode : ℕ → NumberedNet → Drafting
KeepsNode system version old told new = OfNode (RefusesDraft old told new) version.net.graph system
    (λ v. KeepsLine (NodeSegment (record { 0 = v })) old told new)

-- `proof row`: the line of these distances
abbrev pub KeepsRow : List ℕ → NumberedNet → Drafting
KeepsRow cells version old told new = KeepsLine (Row cells) old told new

-- the verdict on the certificate that the draft and these labels, from the top down, write: accepted means that it
-- delivers; the clause on rows isn't met where the lines are those of no certificate
abbrev pub IsDecided : Net → CertDraft → List ℕ → Verdict → Type 0
IsDecided net draft labels verdict =
    ((c : Certificate) × IsWritten draft (reverse labels) c × IsVerdict net c verdict
    × DeliversWhereAccepted net c verdict)
    ⊎ (((c : Certificate) → IsWritten draft (reverse labels) c → ⊥) × (verdict ≡ Rejected clause.Rows))

-- `proof done`: the verdict on the open certificate with these labels, and none is open afterwards
abbrev pub DecidesDraft : List ℕ → NumberedNet → Drafting
DecidesDraft labels version None told new = RefusesDraft None told new NoProof
DecidesDraft labels version (Some draft) told new =
    (verdict : Verdict) × IsDecided version.net draft labels verdict × (told ≡ Decided verdict) × (new ≡ None)

-- the same of the last version, or there is none, which is refused
abbrev pub DraftsOf : (NumberedNet → Drafting) → Option NumberedNet → Drafting
DraftsOf drafts None old told new = RefusesDraft old told new NoVersion
DraftsOf drafts (Some version) old told new = drafts version old told new
