-- The tables in which the items of an audit are counted by group.
use Rattle.std.specs.Prelude.{◌≡◌, ℕ, ◌+◌, ◌<◌, ◌≤◌, ◌^◌, ◌⊎◌, if◌then◌else◌, List, [], length, Some, slice_get, slice_index_or}
use Rattle.sr_model.specs.declared.audit.Counts.{Counts}
use Rattle.sr_model.specs.declared.audit.Item.{Item}
use Rattle.sr_model.specs.declared.repair.Answer.{Answer}
use Rattle.sr_model.specs.Audit.{counts_of, is_least, is_no_path, is_no_list, is_too_deep}
use Rattle.sr_model.specs.Case.{IsCase}
use Rattle.sr_model.specs.Graph.{Graph}
use Rattle.sr_insight.specs.declared.group.Group.{Group}
use Rattle.sr_insight.specs.declared.grouping.Grouping.{Grouping}
use Rattle.sr_insight.specs.Groups.{coverage, group_of, group_count, items_in}

-- one more of each sort still fits 32 bits
pub record CanCountMore (counts : Counts) : Type 0 where
  pub covered : counts.covered + 1 < 2 ^ 32
  pub nopath : counts.nopath + 1 < 2 ^ 32
  pub nolist : counts.nolist + 1 < 2 ^ 32
  pub toodeep : counts.toodeep + 1 < 2 ^ 32

-- the counts with one answer more
abbrev pub with_answer : Counts → Answer → Counts
with_answer counts answer = record {
  covered = counts.covered + (if is_least answer then 1 else 0);
  nopath = counts.nopath + (if is_no_path answer then 1 else 0);
  nolist = counts.nolist + (if is_no_list answer then 1 else 0);
  toodeep = counts.toodeep + (if is_too_deep answer then 1 else 0);
}

-- each item is in one of the groups, and the case of each protects a link
abbrev pub AreInGroups : Grouping → Graph → List Item → Type 0
AreInGroups grouping g items = (k : ℕ) (item : Item) → slice_get items k ≡ Some item
    → IsCase g item.case × (group_of grouping g item < group_count grouping g)

-- the group of this number with the counts of its items
abbrev pub group_for : Grouping → Graph → List Item → ℕ → Group
group_for grouping g items number = record { number = number; counts = counts_of (items_in grouping g items number) }

-- what stands for a group past the end of a list
abbrev pub no_group : Group
no_group = record { number = 0; counts = counts_of [] }

-- all groups in order of number, each with the counts of its items
pub record AreCounted (grouping : Grouping) (g : Graph) (items : List Item) (groups : List Group) : Type 0 where
  pub long : length groups ≡ group_count grouping g
  pub each : (k : ℕ) → k < length groups → slice_index_or groups k no_group ≡ group_for grouping g items k

-- the first group isn't more covered, and where it is covered as much its number isn't greater
abbrev pub IsNoLaterGroup : Group → Group → Type 0
IsNoLaterGroup a b =
    (coverage a.counts < coverage b.counts)
    ⊎ ((coverage a.counts ≡ coverage b.counts) × (a.number ≤ b.number))

-- groups in order of coverage and then of number
abbrev pub AreGroupsInOrder : List Group → Type 0
AreGroupsInOrder groups = (j k : ℕ) → j ≤ k → k < length groups
    → IsNoLaterGroup (slice_index_or groups j no_group) (slice_index_or groups k no_group)
