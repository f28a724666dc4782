-- The announcements that give their links labels with the flag B (RFC 8667, 2.2.1), as lists.
use Rattle.std.specs.Prelude.{◌≡◌, Contains, ℕ, ◌<◌, ◌≤◌, length, Bool, true, false, not, ◌==◌, ◌&&◌, if◌then◌else◌, List, [], ◌∷◌, ◌++◌, Option, Some, None, is_some}
use Rattle.std.specs.List.{filter_map, list_any}
use Rattle.sr_model.specs.declared.name.LinkKey.{LinkKey}
use Rattle.sr_model.specs.Graph.{Graph, link_count, has}
use Rattle.sr_model.specs.Case.{key_at}
use Rattle.sr_model.specs.KeyOrder.{same_key}
use Rattle.sr_lsp.specs.declared.lsp.LspId.{LspId}
use Rattle.sr_lsp.specs.declared.table.Part.{Part}
use Rattle.sr_lsp.specs.declared.table.Part.TheVariants.{Reach}
use Rattle.sr_lsdb.specs.declared.facts.Stored.{Stored}
use Rattle.sr_lsdb.specs.declared.facts.Facts.{Facts}
use Rattle.sr_lsdb.specs.declared.announcement.Announcement.{Announcement}
use Rattle.sr_adjprot.specs.declared.protected.Flagged.{Flagged}
use Rattle.sr_lsdb.specs.Announcement.{announced_by, adj_sid_labels, least}
use Rattle.sr_domain.specs.Announced.{counts, parts_of}
use Rattle.sr_domain.specs.Links.{is_in_use}

-- the announcement, where its link is in use
abbrev pub if_used : Facts → Option Announcement → Option Announcement
if_used facts None = None
if_used facts (Some announcement) = if is_in_use facts announcement then Some announcement else None

-- the announcement with its label with the flag B and whether it has one with the flag clear, where there is such an
-- announcement and such a label
abbrev pub flagged : Option Announcement → Option ℕ → Bool → Option Flagged
flagged None label clear = None
flagged (Some announcement) None clear = None
flagged (Some announcement) (Some label) clear =
    Some (record { announcement = announcement; label = label; clear = clear })

-- what a node announces of a link in use with a label with the flag B, of which the least is taken
abbrev pub flagged_by : Facts → ℕ → Part → Option Flagged
flagged_by facts node (Reach reach) =
    flagged
    (if_used facts (announced_by node (Reach reach)))
    (least (adj_sid_labels true reach.adj))
    (is_some (least (adj_sid_labels false reach.adj)))
flagged_by facts node _ = None

-- what the live LSPs of present nodes among these announce so
abbrev pub flagged_in : Facts → List (LspId × Stored) → List Flagged
flagged_in facts [] = []
flagged_in facts (entry ∷ entries) =
    (if counts facts entry.0 then filter_map (flagged_by facts entry.0.system) (parts_of entry.1.live) else [])
    ++ flagged_in facts entries

-- all such announcements of present nodes
abbrev pub flagged_of : Facts → List Flagged
flagged_of facts = flagged_in facts facts.database

-- the announcement, where it has no label with the flag clear: the label of its link has the flag
abbrev pub if_protected : Flagged → Option Announcement
if_protected one = if one.clear then None else Some one.announcement

-- the announcements of links in use whose labels have the flag B
abbrev pub protected_of : Facts → List Announcement
protected_of facts = filter_map if_protected (flagged_of facts)

-- the label is the own one of a link, where it has one
abbrev pub is_own_label : Option ℕ → ℕ → Bool
is_own_label None label = false
is_own_label (Some own) label = own == label

-- the label with the flag B of the link of this key, where it has one with the flag clear too and this isn't its own
abbrev pub label_beside : LinkKey → Option ℕ → Flagged → Option ℕ
label_beside key own one =
    if one.clear && same_key key one.announcement.key && not (is_own_label own one.label) then Some one.label else None

-- all such labels
abbrev pub labels_beside : Facts → LinkKey → Option ℕ → List ℕ
labels_beside facts key own = filter_map (label_beside key own) (flagged_of facts)

-- the number is one of these, and none is less; none where there are none
abbrev pub IsLeastOf : List ℕ → Option ℕ → Type 0
IsLeastOf numbers None = numbers ≡ []
IsLeastOf numbers (Some number) = Contains numbers number × ((other : ℕ) → Contains numbers other → number ≤ other)

-- for each link of the graph whether its key is among these
pub record AreKeysMarked (g : Graph) (keys : List LinkKey) (tests : List Bool) : Type 0 where
  pub long : length tests ≡ link_count g
  pub each : (l : ℕ) → l < link_count g → has tests l ≡ list_any (same_key (key_at g l)) keys
