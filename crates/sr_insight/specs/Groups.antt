-- The items of an audit in groups, and how much of each group is covered (this project's rules).
use Rattle.std.specs.Prelude.{◌≡◌, ℕ, ◌+◌, ◌*◌, ◌/◌, ◌<◌, ◌⊎◌, ◌==◌, if◌then◌else◌, List, Some, filter, slice_get, sum_by}
use Rattle.sr_model.specs.declared.audit.Counts.{Counts}
use Rattle.sr_model.specs.declared.audit.Item.{Item}
use Rattle.sr_model.specs.Audit.{IsAudit, counts_of, rank_of}
use Rattle.sr_model.specs.Case.{source_of}
use Rattle.sr_model.specs.Graph.{Graph, node_count, link_count}
use Rattle.sr_model.specs.Label.{Net}
use Rattle.sr_model.specs.Rule.{IsNet}
use Rattle.sr_insight.specs.declared.group.TheConstants.{WHOLE}
use Rattle.sr_insight.specs.declared.group.Group.{Group}
use Rattle.sr_insight.specs.declared.grouping.Grouping.{Grouping}
use Rattle.sr_insight.specs.declared.grouping.Grouping.TheVariants as by

-- how many answers are counted
abbrev pub total : Counts → ℕ
total counts = counts.covered + counts.nopath + counts.nolist + counts.toodeep

-- how much is covered, in whole ten-thousandths; all of it where there is nothing to cover
abbrev pub coverage : Counts → ℕ
coverage counts = if total counts == 0 then WHOLE else (counts.covered * WHOLE) / total counts

-- the group of an item: its kind's, its protecting node's, its protected link's or its destination's
abbrev pub group_of : Grouping → Graph → Item → ℕ
group_of by.Kind g item = rank_of item.case.kind
group_of by.Node g item = source_of g item.case
group_of by.Link g item = item.case.link.0
group_of by.Destination g item = item.dest.0

-- how many groups there are
abbrev pub group_count : Grouping → Graph → ℕ
group_count by.Kind g = 3
group_count by.Node g = node_count g
group_count by.Link g = link_count g
group_count by.Destination g = node_count g

-- the items of a group
abbrev pub items_in : Grouping → Graph → List Item → ℕ → List Item
items_in grouping g items number = filter (λ (item : Item). group_of grouping g item == number) items

-- the first group is less covered, or as much and its number is less
abbrev pub GroupBefore : Group → Group → Type 0
GroupBefore a b =
    (coverage a.counts < coverage b.counts)
    ⊎ ((coverage a.counts ≡ coverage b.counts) × (a.number < b.number))

-- all groups of these items, each once with the counts of its items, the least covered first
pub record AreGroups (grouping : Grouping) (g : Graph) (items : List Item) (groups : List Group) : Type 0 where
  pub each : (k : ℕ) (group : Group) → slice_get groups k ≡ Some group
      → (group.number < group_count grouping g) × (group.counts ≡ counts_of (items_in grouping g items group.number))
  pub ascending : (j k : ℕ) (a b : Group) → j < k → slice_get groups j ≡ Some a → slice_get groups k ≡ Some b
      → GroupBefore a b
  pub all : (number : ℕ) → number < group_count grouping g
      → (k : ℕ) × (group : Group) × (slice_get groups k ≡ Some group) × (group.number ≡ number)

-- the groups of the audit of a net
pub record IsCoverage (n : Net) (grouping : Grouping) (groups : List Group) : Type 0 where
  pub items : List Item
  pub audit : IsAudit n items
  pub groups_are : AreGroups grouping n.graph items groups

-- the counts of all groups together
abbrev pub sum_of : List Group → Counts
sum_of groups = record {
  covered = sum_by (λ (group : Group). group.counts.covered) groups;
  nopath = sum_by (λ (group : Group). group.counts.nopath) groups;
  nolist = sum_by (λ (group : Group). group.counts.nolist) groups;
  toodeep = sum_by (λ (group : Group). group.counts.toodeep) groups;
}

-- the groups of an audit are a partition of it: their counts add up to those of the audit
abbrev pub GroupsAddUp : Type 0
GroupsAddUp = (n : Net) (grouping : Grouping) (items : List Item) (groups : List Group)
    → IsNet n → IsAudit n items → AreGroups grouping n.graph items groups → sum_of groups ≡ counts_of items

-- the items of an audit have one list of groups
abbrev pub GroupsAreDetermined : Type 0
GroupsAreDetermined = (grouping : Grouping) (g : Graph) (items : List Item) (one two : List Group)
    → AreGroups grouping g items one → AreGroups grouping g items two → one ≡ two
