-- What the answers on failures owe.
use Rattle.std.proofs.Common.{◌≡◌, ℕ, Bool, List, Option, Some, None, IfSome, subst}
use Rattle.sr_model.specs.declared.link.LinkNo.{LinkNo}
use Rattle.sr_model.specs.Label.{Net}
use Rattle.sr_lsdb.specs.declared.facts.Facts.{Facts}
use Rattle.sr_adjprot.specs.declared.answer.BackupLabel.{BackupLabel}
use Rattle.sr_adjprot.specs.Backup.{IsBackup}
use Rattle.sr_print.specs.Adjacencies.{IsActiveWithin}
use Rattle.sr_print.proofs.Within.{active-within}
use Rattle.sr_model.specs.declared.case.Case.{Case}
use Rattle.sr_model.specs.Graph.{Graph}
use Rattle.sr_model.specs.Case.{IsFailedSet, source_of}
use Rattle.sr_spaces.specs.Sets.{IsP, IsExtendedP, IsQ}
use Rattle.sr_run.specs.Failures.{AreCaseSpaces}

-- the spaces of a case
pub spaces-told : (g h : Graph) (case : Case) (d s : ℕ) (x p extended q : List Bool)
    → h ≡ g → s ≡ source_of h case → IsFailedSet h case x → IsP h x s p → IsExtendedP h x s extended → IsQ h x d q → AreCaseSpaces g case d p extended q
spaces-told g h case d s x p extended q same source failed ps es qs = subst (λ (k : Graph). AreCaseSpaces k case d p extended q) same (record {
  x = x;
  failed = failed;
  p_is = subst (λ (u : ℕ). IsP h x u p) source ps;
  extended_is = subst (λ (u : ℕ). IsExtendedP h x u extended) source es;
  q_is = qs;
})

-- the links and nodes of what is done under a link's other label are those of the net
pub backup-within : (facts : Facts) (n : Net) (l : LinkNo) (found : Option BackupLabel) → IsBackup facts n l found → IfSome found (λ b. IsActiveWithin n.graph b.answer)
backup-within facts n l None is = tt
backup-within facts n l (Some b) is = active-within n is.1.0 l b.answer is.1.2
