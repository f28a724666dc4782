-- Tables of shared-risk groups: the names of pairs in order, and notes in order of names (this project's rules).
use Rattle.std.specs.Prelude.{◌≡◌, ℕ, Bool, ◌==◌, ◌&&◌, if◌then◌else◌, List, [], ◌∷◌, ◌++◌, Option, Some, None, map, nat_lt}
use Rattle.std.specs.declared.cmp.Ordering.{Ordering}
use Rattle.std.specs.List.{list_any, filter}
use Rattle.std.specs.List.Sorted.{IsSortedByKey, IsStrictlySortedBy}
use Rattle.std.specs.Ordering.{is_lt}
use Rattle.sr_model.specs.declared.name.PairKey.{PairKey}
use Rattle.sr_model.specs.Key.{pair_of}
use Rattle.sr_graph.specs.declared.draft.DraftLink.{DraftLink}
use Rattle.sr_domain.specs.declared.links.FoundLink.{FoundLink}
use Rattle.sr_lsdb.specs.declared.announcement.Announcement.{Announcement}
use Rattle.sr_domain.specs.declared.groups.RiskTable.{RiskTable}
use Rattle.sr_domain.specs.declared.names.PairName.{PairName}
use Rattle.sr_domain.specs.declared.risks.RiskName.{RiskName}
use Rattle.sr_domain.specs.declared.risks.RiskNote.{RiskNote}
use Rattle.sr_domain.specs.contracts.names.PairNameOrd.TheImpl as pair_name
use Rattle.sr_domain.specs.Groups.{name_cmp, is_name, numbered_name, unnumbered_name, same_name, same_number, same_pair, is_group_of}

-- the name that the note gives
abbrev pub note_name : RiskNote → RiskName
note_name note = note.name

-- the group that the note gives
abbrev pub note_group : RiskNote → ℕ
note_group note = note.group

-- every test finds the same in both lists of notes
abbrev pub HaveSameNotes : List RiskNote → List RiskNote → Type 0
HaveSameNotes old new = (test : RiskNote → Bool) → list_any test new ≡ list_any test old

-- the notes are in order of names
abbrev pub AreNotesInOrder : List RiskNote → Type 0
AreNotesInOrder = IsSortedByKey note_name name_cmp

-- the note is of an earlier name
abbrev pub comes_before : RiskName → RiskNote → Bool
comes_before name note = is_lt (name_cmp note.name name)

-- the note is under the name
abbrev pub is_under : RiskName → RiskNote → Bool
is_under name note = same_name name note.name

-- some note under the name that there may be gives the group
abbrev pub is_noted : List RiskNote → Option RiskName → ℕ → Bool
is_noted notes name group = list_any (λ (n : RiskNote). same_number group n.group && is_name n.name name) notes

-- the pair with the name that there may be
abbrev pub named : PairKey → Option RiskName → List PairName
named pair None = []
named pair (Some name) = record { pair = pair; name = name } ∷ []

-- the names of an announcement, with its pair
abbrev pub pair_names : Announcement → List PairName
pair_names announcement =
    named (pair_of announcement.key) (numbered_name announcement)
    ++ named (pair_of announcement.key) (unnumbered_name announcement)

-- the names of these announcements, with their pairs
abbrev pub names_from : List Announcement → List PairName
names_from [] = []
names_from (announcement ∷ announcements) = pair_names announcement ++ names_from announcements

-- pairs with names, in order of pairs and then of names
abbrev pub pair_name_cmp : PairName → PairName → Ordering
pair_name_cmp = pair_name.cmp-value.it

-- every test finds the same in both lists of names
abbrev pub HaveSameNames : List PairName → List PairName → Type 0
HaveSameNames old new = (test : PairName → Bool) → list_any test new ≡ list_any test old

-- the name is one of the pair
abbrev pub is_of : PairKey → PairName → Bool
is_of pair name = same_pair pair name.pair

-- the name without its pair
abbrev pub link_name : PairName → RiskName
link_name name = name.name

-- the names ascend, so that no two are alike
abbrev pub NamesAscend : List PairName → Type 0
NamesAscend names = IsStrictlySortedBy name_cmp (map link_name names)

-- the groups that the notes give these names, with repeats
abbrev pub groups_said : List PairName → List RiskNote → List ℕ
groups_said [] notes = []
groups_said (name ∷ names) notes = map note_group (filter (is_under name.name) notes) ++ groups_said names notes

-- ascending numbers with one more, unless it is among them
abbrev pub put : ℕ → List ℕ → List ℕ
put n [] = n ∷ []
put n (x ∷ xs) = if nat_lt n x then n ∷ x ∷ xs else if n == x then x ∷ xs else x ∷ put n xs

-- the numbers of the list, ascending, each once
abbrev pub ascending : List ℕ → List ℕ
ascending [] = []
ascending (n ∷ ns) = put n (ascending ns)

-- the groups that the table gives the pair, ascending
abbrev pub groups_in : RiskTable → PairKey → List ℕ
groups_in table pair = ascending (groups_said (filter (is_of pair) table.names.items) table.notes.items)

-- the names are in order, each once, and the notes in order of names
pub record IsRiskTable (table : RiskTable) : Type 0 where
  pub names : IsStrictlySortedBy pair_name_cmp table.names.items
  pub notes : AreNotesInOrder table.notes.items

-- each pair has by these lists its groups
abbrev pub GivesGroups : (PairKey → List ℕ) → List Announcement → List RiskNote → Type 0
GivesGroups groups announcements notes =
    (pair : PairKey) (g : ℕ) → list_any (same_number g) (groups pair) ≡ is_group_of announcements notes pair g

-- the link as a graph takes it, with the groups of its pair
abbrev pub draft_link : (PairKey → List ℕ) → FoundLink → DraftLink
draft_link groups link = record { key = link.key; metric = link.metric; groups = groups (pair_of link.key) }

-- the link has the groups that are given to its pair
abbrev pub HasItsGroups : (PairKey → List ℕ) → DraftLink → Type 0
HasItsGroups groups link = link.groups ≡ groups (pair_of link.key)
