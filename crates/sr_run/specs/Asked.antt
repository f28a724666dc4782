-- What is told to a question about a version, the facts of which it has the net, and the version before it.
use Rattle.std.specs.Prelude.{Option}
use Rattle.sr_lsdb.specs.declared.facts.Facts.{Facts}
use Rattle.sr_script.specs.declared.command.Command.{Command}
use Rattle.sr_script.specs.declared.command.Command.TheVariants.{Dist, Next, Label, Spaces, Repair, AdjRepair, AdjBackup, Walk, WalkRepair, Load, Audit, AuditFull, Nodes, Links, Aside, AuditBy, AuditLabels, RepairCase, FailsNode, Diff}
use Rattle.sr_print.specs.Told.{Told}
use Rattle.sr_repair.specs.Version.{NumberedNet}
use Rattle.sr_run.specs.Questions.{TellsDistance, TellsNextHops, TellsLookup, TellsWalk, TellsLoads}
use Rattle.sr_run.specs.Failures.{TellsSpaces, TellsRepair, TellsAdjRepair, TellsAdjBackup, TellsRepairWalk, TellsSummary, TellsAudit}
use Rattle.sr_run.specs.Account.{TellsNodes, TellsLinks, TellsAsides}
use Rattle.sr_run.specs.Differences.{TellsDiff}
use Rattle.sr_run.specs.Insight.{TellsCoverage, TellsStacks, TellsCaseRepairs, TellsNodeRepairs}

-- what is told to a question; any other command is none
abbrev pub TellsQuestion : Command → Facts → Option NumberedNet → NumberedNet → Told → Type 0
TellsQuestion (Dist ends) facts previous version told = TellsDistance ends version told
TellsQuestion (Next ends) facts previous version told = TellsNextHops ends version told
TellsQuestion (Label node label) facts previous version told = TellsLookup node label version told
TellsQuestion (Spaces repair) facts previous version told = TellsSpaces repair version told
TellsQuestion (Repair repair) facts previous version told = TellsRepair repair version told
TellsQuestion (RepairCase kind link) facts previous version told = TellsCaseRepairs kind link version told
TellsQuestion (FailsNode node) facts previous version told = TellsNodeRepairs node version told
TellsQuestion (AdjRepair link) facts previous version told = TellsAdjRepair link facts version told
TellsQuestion (AdjBackup link) facts previous version told = TellsAdjBackup link facts version told
TellsQuestion (Walk ends choice) facts previous version told = TellsWalk ends choice version told
TellsQuestion (WalkRepair repair choice) facts previous version told = TellsRepairWalk repair choice version told
TellsQuestion (Load workers each) facts previous version told = TellsLoads each version told
TellsQuestion Audit facts previous version told = TellsSummary version told
TellsQuestion AuditFull facts previous version told = TellsAudit version told
TellsQuestion (AuditBy grouping) facts previous version told = TellsCoverage grouping version told
TellsQuestion AuditLabels facts previous version told = TellsStacks version told
TellsQuestion Nodes facts previous version told = TellsNodes version told
TellsQuestion Links facts previous version told = TellsLinks facts version told
TellsQuestion Aside facts previous version told = TellsAsides facts version told
TellsQuestion (Diff number) facts previous version told = TellsDiff number previous version told
TellsQuestion command facts previous version told = ⊥
