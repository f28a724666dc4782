-- What is told to questions about a failure in a version: spaces, repairs, the walks of repaired packets, and audits.
use Rattle.std.specs.Prelude.{◌≡◌, ℕ, ◌<◌, ◌⊎◌, Bool, false, List, [], ◌∷◌, Option, Some, reverse}
use Rattle.sr_model.specs.declared.link.LinkNo.{LinkNo}
use Rattle.sr_model.specs.declared.entry.Move.{Move}
use Rattle.sr_model.specs.declared.case.Case.{Case}
use Rattle.sr_model.specs.declared.repair.Answer.{Answer}
use Rattle.sr_model.specs.declared.repair.Answer.TheVariants.{Least}
use Rattle.sr_model.specs.declared.repair.RepairList.{RepairList}
use Rattle.sr_model.specs.declared.audit.Item.{Item}
use Rattle.sr_model.specs.Graph.{Graph, node_count, head}
use Rattle.sr_model.specs.Case.{IsAffected, IsCase, IsFailedSet, source_of}
use Rattle.sr_model.specs.Label.{Net}
use Rattle.sr_model.specs.Walk.{cost}
use Rattle.sr_model.specs.Forward.{RunBy, IsStack, crossed}
use Rattle.sr_model.specs.Repair.{IsCaseAnswer}
use Rattle.sr_model.specs.Audit.{AreLabelsOf, IsAudit, is_least, counts_of}
use Rattle.sr_spaces.specs.Sets.{IsP, IsExtendedP, IsQ}
use Rattle.sr_fib.specs.Entries.{numbers}
use Rattle.sr_lsdb.specs.declared.facts.Facts.{Facts}
use Rattle.sr_adjprot.specs.declared.answer.AdjAnswer.{AdjAnswer}
use Rattle.sr_adjprot.specs.Eligible.{AreEligible}
use Rattle.sr_adjprot.specs.Active.{IsAdjAnswer}
use Rattle.sr_adjprot.specs.Delivery.{AdjDelivers}
use Rattle.sr_adjprot.specs.declared.answer.BackupLabel.{BackupLabel}
use Rattle.sr_adjprot.specs.Backup.{IsBackup}
use Rattle.sr_script.specs.declared.name.LinkName.{LinkName}
use Rattle.sr_script.specs.declared.name.RepairName.{RepairName}
use Rattle.sr_print.specs.Told.{Told}
use Rattle.sr_print.specs.Told.Told.{Spaces, Repair, AdjRepair, AdjBackup, Walk, Uncovered, Summary, Audit}
use Rattle.sr_repair.specs.Version.{NumberedNet}
use Rattle.sr_repair.specs.Delivery.{RepairDelivers}
use Rattle.sr_run.specs.Names.{OfNamedLink, OfFailure, OfAffected}
use Rattle.sr_run.specs.Questions.{IsRefused}

-- the tests tell P and extended P of the source of the case, and Q of the destination
pub record AreCaseSpaces (graph : Graph) (case : Case) (d : ℕ) (p extended q : List Bool) : Type 0 where
  pub x : List Bool
  pub failed : IsFailedSet graph case x
  pub p_is : IsP graph x (source_of graph case) p
  pub extended_is : IsExtendedP graph x (source_of graph case) extended
  pub q_is : IsQ graph x d q

-- P, extended P and Q of a case and a destination
abbrev pub TellsSpacesOf : Net → Case → ℕ → Told → Type 0
TellsSpacesOf net case d told =
    (p : List Bool) × (extended : List Bool) × (q : List Bool)
    × AreCaseSpaces net.graph case d p extended q × (told ≡ Spaces net.graph p extended q)

-- `spaces`: those of the case and the destination that are named
abbrev pub TellsSpaces : RepairName → NumberedNet → Told → Type 0
TellsSpaces repair version told =
    OfFailure (IsRefused told) version.net repair (λ case d. TellsSpacesOf version.net case d told)

-- the answer of a case of the net for a node that it affects
pub record IsAnswerOf (net : Net) (case : Case) (d : ℕ) (answer : Answer) : Type 0 where
  pub case_is : IsCase net.graph case
  pub node : d < node_count net.graph
  pub affected : IsAffected net case d
  pub answer_is : IsCaseAnswer net case d answer

-- the answer of the case for the destination, and the labels on the first link, the top last; where the answer is a
-- list, they deliver
pub record IsRepaired (net : Net) (case : Case) (d : ℕ) (answer : Answer) (labels : List ℕ) : Type 0 where
  pub answer_is : IsCaseAnswer net case d answer
  pub labels_are : AreLabelsOf net d answer labels
  pub delivers : (list : RepairList) → answer ≡ Least list → RepairDelivers net case d list (reverse labels)

-- the answer of a case for a destination that it affects, and its labels
abbrev pub TellsRepairOf : Net → Case → ℕ → Told → Type 0
TellsRepairOf net case d told =
    (answer : Answer) × (labels : List ℕ) × IsRepaired net case d answer labels
    × (told ≡ Repair net case d answer labels)

-- `repair`: that of the case and the destination that are named
abbrev pub TellsRepair : RepairName → NumberedNet → Told → Type 0
TellsRepair repair version told =
    OfAffected (IsRefused told) version.net repair (λ case d. TellsRepairOf version.net case d told)

-- what the router at the beginning of the link does with a packet under the link's adjacency label, which the facts
-- tell to be eligible or not; the packet arrives
pub record IsActiveOf (facts : Facts) (net : Net) (link : LinkNo) (answer : AdjAnswer) : Type 0 where
  pub eligible : List Bool
  pub are_eligible : AreEligible facts net eligible
  pub answer_is : IsAdjAnswer net eligible link answer
  pub delivers : AdjDelivers net link answer

-- what is done with a packet under the label of the link
abbrev pub TellsAdjRepairOf : Facts → Net → LinkNo → Told → Type 0
TellsAdjRepairOf facts net link told =
    (answer : AdjAnswer) × IsActiveOf facts net link answer × (told ≡ AdjRepair net link answer)

-- `adjrepair`: of the link that is named
abbrev pub TellsAdjRepair : LinkName → Facts → NumberedNet → Told → Type 0
TellsAdjRepair name facts version told =
    OfNamedLink (IsRefused told) version.net name (λ link. TellsAdjRepairOf facts version.net link told)

-- the other label that is announced for the link with the flag B, and what is done with a packet under it; or there is
-- none
abbrev pub TellsAdjBackupOf : Facts → Net → LinkNo → Told → Type 0
TellsAdjBackupOf facts net link told =
    (found : Option BackupLabel) × IsBackup facts net link found × (told ≡ AdjBackup net link found)

-- `adjbackup`: of the link that is named
abbrev pub TellsAdjBackup : LinkName → Facts → NumberedNet → Told → Type 0
TellsAdjBackup name facts version told =
    OfNamedLink (IsRefused told) version.net name (λ link. TellsAdjBackupOf facts version.net link told)

-- the packet of the repair crosses its first link, and goes on under its stack by the choice number, the failed links
-- being closed; it reaches the destination with an empty stack, at the cost of the repair
pub record IsRepairWalked (net : Net) (case : Case) (d choice : ℕ) (links : List LinkNo) : Type 0 where
  pub list : RepairList
  pub answer : IsCaseAnswer net case d (Least list)
  pub labels : List ℕ
  pub stack : IsStack net d list.first.0 list.segments labels
  pub x : List Bool
  pub failed : IsFailedSet net.graph case x
  pub moves : List Move
  pub run : RunBy net x choice (head net.graph list.first.0) labels moves d []
  pub crosses : numbers links ≡ list.first.0 ∷ crossed moves
  pub costs : cost net.graph (numbers links) ≡ list.cost

-- why there is no repair, or the links of the repaired packet
abbrev pub TellsRepairWalkOf : Net → Case → ℕ → ℕ → Told → Type 0
TellsRepairWalkOf net case d choice told =
    ((answer : Answer) × IsCaseAnswer net case d answer × (is_least answer ≡ false) × (told ≡ Uncovered answer))
    ⊎ ((links : List LinkNo) × IsRepairWalked net case d choice links
    × (told ≡ Walk net (source_of net.graph case) (Some links)))

-- `walk` of a repaired packet: of the case and the destination that are named
abbrev pub TellsRepairWalk : RepairName → ℕ → NumberedNet → Told → Type 0
TellsRepairWalk repair choice version told =
    OfAffected (IsRefused told) version.net repair (λ case d. TellsRepairWalkOf version.net case d choice told)

-- `audit`: how many answers of each sort the audit has
abbrev pub TellsSummary : NumberedNet → Told → Type 0
TellsSummary version told =
    (items : List Item) × IsAudit version.net items × (told ≡ Summary version.number (counts_of items))

-- `audit full`: the audit, item by item, and how many answers of each sort it has
abbrev pub TellsAudit : NumberedNet → Told → Type 0
TellsAudit version told = (items : List Item) × IsAudit version.net items × (told ≡ Audit version items)
