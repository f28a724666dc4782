-- A question why there is no repair is told alike.
use Rattle.std.proofs.Common.{◌≡◌, ℕ, ap}
use Rattle.sr_model.specs.declared.case.Case.{Case}
use Rattle.sr_model.specs.Rule.{IsNet}
use Rattle.sr_why.specs.declared.reason.Cause.{Cause}
use Rattle.sr_why.specs.Reasons.{IsReason}
use Rattle.sr_why.proofs.LawLemmas.{reasons-one}
use Rattle.sr_script.specs.declared.name.RepairName.{RepairName}
use Rattle.sr_print.specs.Told.{Told}
use Rattle.sr_print.specs.Told.Told.{Why}
use Rattle.sr_repair.specs.Version.{NumberedNet}
use Rattle.sr_run.specs.Questions.{IsRefused}
use Rattle.sr_run.specs.Reasons.{TellsReason}
use Rattle.sr_run.proofs.DeterminedTold.{AreAlike, alike, alike-refused}
use Rattle.sr_run.proofs.DeterminedNames.{of-affected}

module _ (version : NumberedNet) (net : IsNet version.net) (a b : Told) where
  reason-told : (case : Case) (d : ℕ) → (r : Cause) × IsReason version.net case d r × (a ≡ Why version.net r) → (r : Cause) × IsReason version.net case d r × (b ≡ Why version.net r) → AreAlike a b
  reason-told case d p q =
      alike a b (Why version.net p.0) (Why version.net q.0) p.2 q.2 (ap (λ (r : Cause). Why version.net r) (reasons-one version.net case d p.0 q.0 net p.1 q.1))

  -- the reason
  pub reason-alike : (repair : RepairName) → TellsReason repair version a → TellsReason repair version b → AreAlike a b
  reason-alike repair =
      of-affected (AreAlike a b) (IsRefused a) (IsRefused b) (alike-refused a b) version.net net.named repair
      (λ case d. (r : Cause) × IsReason version.net case d r × (a ≡ Why version.net r)) (λ case d. (r : Cause) × IsReason version.net case d r × (b ≡ Why version.net r)) reason-told
