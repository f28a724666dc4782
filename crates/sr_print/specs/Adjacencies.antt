-- What becomes of packets under adjacency labels, as a line.
use Rattle.std.specs.Prelude.{◌≡◌, ◌<◌, ℕ, List, ◌++◌, codes, false, Option, Some, None}
use Rattle.sr_model.specs.declared.link.LinkNo.{LinkNo}
use Rattle.sr_model.specs.Audit.{is_least}
use Rattle.sr_model.specs.Graph.{Graph, link_count}
use Rattle.sr_model.specs.Label.{Net}
use Rattle.sr_adjprot.specs.declared.answer.AdjAnswer.{AdjAnswer}
use Rattle.sr_adjprot.specs.declared.answer.BackupLabel.{BackupLabel}
use Rattle.sr_adjprot.specs.declared.answer.AdjAnswer.TheVariants.{Unprotected, NoIndex, Steer, Repair, Uncovered}
use Rattle.sr_print.specs.Links.{link_word}
use Rattle.sr_print.specs.Printed.{ended, numbered}
use Rattle.sr_print.specs.Repairs.{AreSegments, list_text, uncovered_text}

-- what is done with the packet: nothing, a label in the place of the link's, or a repair
abbrev pub active_text : Net → AdjAnswer → List ℕ
active_text n Unprotected = codes " unprotected"
active_text n NoIndex = codes " noindex"
active_text n (Steer label cost) = numbered (codes " steer labels ") label ++ numbered (codes " cost ") cost
active_text n (Repair list labels) = list_text n list labels
active_text n (Uncovered answer) = uncovered_text answer

-- the link, and what is done with a packet under its label
abbrev pub adjrepair_line : Net → LinkNo → AdjAnswer → List ℕ
adjrepair_line n link answer = ended (codes "adjrepair" ++ link_word n link.0 ++ active_text n answer)

-- another label of the link that may be protected, and what is done with a packet under it; or that there is none
abbrev pub backup_text : Net → Option BackupLabel → List ℕ
backup_text n None = codes " none"
backup_text n (Some backup) = numbered (codes " label ") backup.label ++ active_text n backup.answer

-- the link, and its other label
abbrev pub adjbackup_line : Net → LinkNo → Option BackupLabel → List ℕ
adjbackup_line n link found = ended (codes "adjbackup" ++ link_word n link.0 ++ backup_text n found)

-- the links and nodes of the answer are links and nodes of the graph, and what is uncovered isn't a list
abbrev pub IsActiveWithin : Graph → AdjAnswer → Type 0
IsActiveWithin g Unprotected = Unit {0}
IsActiveWithin g NoIndex = Unit {0}
IsActiveWithin g (Steer label cost) = Unit {0}
IsActiveWithin g (Repair list labels) = (list.first.0 < link_count g) × AreSegments g list.segments
IsActiveWithin g (Uncovered answer) = is_least answer ≡ false
