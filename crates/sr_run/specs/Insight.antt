-- What is told to questions about the audit of a version as a whole, and about all repairs of a failure.
use Rattle.std.specs.Prelude.{◌≡◌, ℕ, List}
use Rattle.sr_model.specs.declared.audit.Item.{Item}
use Rattle.sr_model.specs.declared.case.Kind.{Kind}
use Rattle.sr_model.specs.Audit.{IsAudit, counts_of}
use Rattle.sr_model.specs.Label.{Net}
use Rattle.sr_insight.specs.declared.group.Group.{Group}
use Rattle.sr_insight.specs.declared.grouping.Grouping.{Grouping}
use Rattle.sr_insight.specs.declared.stack_count.StackCount.{StackCount}
use Rattle.sr_insight.specs.Groups.{AreGroups, sum_of}
use Rattle.sr_insight.specs.Stacks.{AreStackCounts}
use Rattle.sr_listing.specs.declared.wanted.Wanted.{Wanted}
use Rattle.sr_listing.specs.declared.wanted.Wanted.TheVariants.{OfCase, OfNode}
use Rattle.sr_listing.specs.Wanted.{wanted_items}
use Rattle.sr_script.specs.declared.name.LinkName.{LinkName}
use Rattle.sr_print.specs.Told.{Told}
use Rattle.sr_print.specs.Told.Told.{Coverage, Stacks, Repairs}
use Rattle.sr_repair.specs.Version.{NumberedNet}
use Rattle.sr_run.specs.Names.{OfNode as OfNamedNode, OfNamedLink}
use Rattle.sr_run.specs.Questions.{IsRefused}

-- `audit by`: the groups of the audit, whose counts add up to its own
abbrev pub TellsCoverage : Grouping → NumberedNet → Told → Type 0
TellsCoverage grouping version told =
    (items : List Item) × (groups : List Group) × IsAudit version.net items
    × AreGroups grouping version.net.graph items groups × (sum_of groups ≡ counts_of items)
    × (told ≡ Coverage version grouping groups (counts_of items))

-- `audit labels`: how many repairs push how many labels
abbrev pub TellsStacks : NumberedNet → Told → Type 0
TellsStacks version told =
    (items : List Item) × (stacks : List StackCount) × IsAudit version.net items × AreStackCounts items stacks
    × (told ≡ Stacks version.number stacks (counts_of items))

-- those items of the audit that are wanted
abbrev pub TellsWanted : Net → Wanted → Told → Type 0
TellsWanted net wanted told =
    (items : List Item) × IsAudit net items × (told ≡ Repairs net (wanted_items net.graph wanted items))

-- `repair` without a destination: all items of the case
abbrev pub TellsCaseRepairs : Kind → LinkName → NumberedNet → Told → Type 0
TellsCaseRepairs kind name version told = OfNamedLink (IsRefused told) version.net name (λ link.
    TellsWanted version.net (OfCase (record { kind = kind; link = link })) told)

-- `fails node`: all items of the node cases in which this node fails
abbrev pub TellsNodeRepairs : ℕ → NumberedNet → Told → Type 0
TellsNodeRepairs system version told = OfNamedNode (IsRefused told) version.net.graph system (λ node.
    TellsWanted version.net (OfNode (record { 0 = node })) told)
