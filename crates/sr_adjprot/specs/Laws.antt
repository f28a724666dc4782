-- Laws of active adjacency segments.
use Rattle.std.specs.Prelude.{◌≡◌, ◌<◌, Bool, List, Option}
use Rattle.sr_model.specs.declared.link.LinkNo.{LinkNo}
use Rattle.sr_model.specs.Graph.{link_count}
use Rattle.sr_model.specs.Label.{Net}
use Rattle.sr_model.specs.Rule.{IsNet}
use Rattle.sr_lsdb.specs.declared.facts.Facts.{Facts}
use Rattle.sr_adjprot.specs.declared.answer.AdjAnswer.{AdjAnswer}
use Rattle.sr_adjprot.specs.declared.answer.BackupLabel.{BackupLabel}
use Rattle.sr_adjprot.specs.Eligible.{AreEligible}
use Rattle.sr_adjprot.specs.Active.{IsAdjAnswer}
use Rattle.sr_adjprot.specs.Delivery.{AdjDelivers}
use Rattle.sr_adjprot.specs.Backup.{IsBackup}

-- facts and their net have one list of tests of eligible labels
abbrev pub EligibleIsDetermined : Type 0
EligibleIsDetermined =
    (facts : Facts) (net : Net) (one two : List Bool) → AreEligible facts net one → AreEligible facts net two
    → one ≡ two

-- a link has one answer
abbrev pub AdjAnswersAreUnique : Type 0
AdjAnswersAreUnique =
    (n : Net) (eligible : List Bool) (l : LinkNo) (one two : AdjAnswer) → IsAdjAnswer n eligible l one
    → IsAdjAnswer n eligible l two → one ≡ two

-- in every net each answer for a link delivers
abbrev pub AdjAnswersDeliver : Type 0
AdjAnswersDeliver =
    (n : Net) → IsNet n → (eligible : List Bool) (l : LinkNo) (answer : AdjAnswer) → l.0 < link_count n.graph
    → IsAdjAnswer n eligible l answer → AdjDelivers n l answer

-- facts and their net have one answer on the other label of a link
abbrev pub BackupsAreUnique : Type 0
BackupsAreUnique =
    (facts : Facts) (net : Net) (l : LinkNo) (one two : Option BackupLabel) → IsBackup facts net l one
    → IsBackup facts net l two → one ≡ two
