-- An audit as a whole, as lines: how much of each group is covered, how many labels repairs push, and the counts of
-- a case.
use Rattle.std.specs.Prelude.{ℕ, ◌<◌, ◌==◌, if◌then◌else◌, List, ◌++◌, All, codes, decimal}
use Rattle.std.specs.List.{flat_map}
use Rattle.sr_model.specs.declared.audit.Counts.{Counts}
use Rattle.sr_model.specs.declared.case.Kind.{Kind}
use Rattle.sr_model.specs.declared.case.Kind.TheVariants as kind
use Rattle.sr_model.specs.Graph.{Graph, system_at}
use Rattle.sr_model.specs.Label.{Net}
use Rattle.sr_insight.specs.declared.group.Group.{Group}
use Rattle.sr_insight.specs.declared.grouping.Grouping.{Grouping}
use Rattle.sr_insight.specs.declared.grouping.Grouping.TheVariants as by
use Rattle.sr_insight.specs.declared.stack_count.StackCount.{StackCount}
use Rattle.sr_insight.specs.Groups.{coverage, group_count}
use Rattle.sr_print.specs.Links.{link_word}
use Rattle.sr_print.specs.Printed.{ended, node_word, numbered, word}
use Rattle.sr_print.specs.Repairs.{counts_text, kind_name}

-- the kind of failure at this place among link, node and risk
abbrev pub kind_numbered : ℕ → Kind
kind_numbered number = if number == 0 then kind.Link else if number == 1 then kind.Node else kind.Risk

-- a group by what its items have in common: a kind of failure, a protecting node, a protected link or a destination
unfoldable pub group_name : Net → Grouping → ℕ → List ℕ
group_name n by.Kind number = codes " kind " ++ kind_name (kind_numbered number)
group_name n by.Node number = codes " node" ++ node_word (system_at n.graph number)
group_name n by.Link number = codes " link" ++ link_word n number
group_name n by.Destination number = codes " destination" ++ node_word (system_at n.graph number)

-- how much of a group is covered, in ten-thousandths, and how many answers of each sort it has
unfoldable pub coverage_line : Net → Grouping → Group → List ℕ
coverage_line n grouping group =
    ended (codes "coverage" ++ group_name n grouping group.number ++ word (decimal (coverage group.counts))
    ++ counts_text group.counts)

-- groups, in their order
abbrev pub coverage_lines : Net → Grouping → List Group → List ℕ
coverage_lines n grouping groups = flat_map (coverage_line n grouping) groups

-- how many repairs of a kind of failure push this many labels
unfoldable pub stack_line : StackCount → List ℕ
stack_line stack =
    ended (codes "labels " ++ kind_name stack.kind ++ word (decimal stack.labels)
    ++ numbered (codes " repairs ") stack.repairs)

-- numbers of labels, in their order
abbrev pub stack_lines : List StackCount → List ℕ
stack_lines stacks = flat_map stack_line stacks

-- how many answers of each sort a case has
abbrev pub repairs_line : Counts → List ℕ
repairs_line counts = ended (codes "repairs" ++ counts_text counts)

-- the numbers of the groups are those of kinds, nodes or links of the graph
abbrev pub AreGroupsWithin : Grouping → Graph → List Group → Type 0
AreGroupsWithin grouping g groups = All (λ (group : Group). group.number < group_count grouping g) groups
