-- Laws of certificates.
use Rattle.std.specs.Prelude.{◌≡◌, ℕ, List}
use Rattle.sr_model.specs.declared.case.Case.{Case}
use Rattle.sr_model.specs.Label.{Net}
use Rattle.sr_model.specs.Rule.{IsNet}
use Rattle.sr_cert.specs.declared.certificate.Certificate.{Certificate}
use Rattle.sr_cert.specs.declared.clause.Verdict.{Verdict}
use Rattle.sr_cert.specs.Verdict.{IsWithinNet, IsVerdict}
use Rattle.sr_cert.specs.Certified.{DeliversWhereAccepted, IsCertificateOf}
use Rattle.sr_cert.specs.Draft.{CertDraft, IsWritten}

-- in every net an accepted certificate delivers, and nothing is shorter
abbrev pub AcceptedCertificatesDeliver : Type 0
AcceptedCertificatesDeliver =
    (n : Net) → IsNet n → (c : Certificate) (verdict : Verdict) → IsWithinNet n c → IsVerdict n c verdict
    → DeliversWhereAccepted n c verdict

-- a certificate has one verdict
abbrev pub VerdictsAreUnique : Type 0
VerdictsAreUnique =
    (n : Net) (c : Certificate) (one two : Verdict) → IsVerdict n c one → IsVerdict n c two → one ≡ two

-- a node that a case affects has at most one certificate
abbrev pub CertificatesAreUnique : Type 0
CertificatesAreUnique =
    (n : Net) → IsNet n → (case : Case) (d : ℕ) (one two : Certificate) → IsCertificateOf n case d one
    → IsCertificateOf n case d two → one ≡ two

-- a draft and labels write at most one certificate
abbrev pub DraftsWriteOne : Type 0
DraftsWriteOne =
    (draft : CertDraft) (labels : List ℕ) (one two : Certificate) → IsWritten draft labels one
    → IsWritten draft labels two → one ≡ two
