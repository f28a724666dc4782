-- What the handlers of questions about an audit as a whole append is what is told.
use Rattle.std.proofs.Common.{◌≡◌, List, ap, ◌∙◌}
use Rattle.sr_model.specs.declared.audit.Counts.{Counts}
use Rattle.sr_model.specs.declared.audit.Item.{Item}
use Rattle.sr_model.specs.Audit.{IsAudit, counts_of}
use Rattle.sr_model.specs.Rule.{IsNet}
use Rattle.sr_laws.proofs.Audits.{audit-one}
use Rattle.sr_audit.specs.Counted.{AreAuditCounts}
use Rattle.sr_insight.specs.declared.group.Group.{Group}
use Rattle.sr_insight.specs.declared.grouping.Grouping.{Grouping}
use Rattle.sr_insight.specs.declared.stack_count.StackCount.{StackCount}
use Rattle.sr_insight.specs.Groups.{GroupsAddUp, IsCoverage}
use Rattle.sr_insight.specs.Stacks.{HasStackCounts}
use Rattle.sr_print.specs.Told.Told.{Coverage, Stacks}
use Rattle.sr_repair.specs.Version.{NumberedNet}
use Rattle.sr_run.specs.Insight.{TellsCoverage, TellsStacks}

module _ (version : NumberedNet) (counts : Counts) (counted : AreAuditCounts version.net counts) where
  -- the counts are those of any list that is the audit
  counts-one : (items : List Item) → IsAudit version.net items → counts ≡ counts_of items
  counts-one items audit = counted.counted ∙ ap counts_of (audit-one version.net counted.items items counted.audit audit)

  -- the groups are of one audit and the counts of another: both are the audit of the version
  pub coverage-told : (grouping : Grouping) (groups : List Group) → IsNet version.net → GroupsAddUp → IsCoverage version.net grouping groups → TellsCoverage grouping version (Coverage version grouping groups counts)
  coverage-told grouping groups net sums are =
      (are.items, groups, are.audit, are.groups_are, sums version.net grouping are.items groups net are.audit are.groups_are, ap (Coverage version grouping groups) (counts-one are.items are.audit))

  -- so it is of the labels that are pushed
  pub stacks-told : (stacks : List StackCount) → HasStackCounts version.net stacks → TellsStacks version (Stacks version.number stacks counts)
  stacks-told stacks are = (are.items, stacks, are.audit, are.counts_are, ap (Stacks version.number stacks) (counts-one are.items are.audit))
