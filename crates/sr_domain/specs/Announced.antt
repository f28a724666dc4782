-- What the nodes of a domain announce of their links: which nodes are present, and the two-way announcements (this
-- project's rules).
use Rattle.std.specs.Prelude.{◌≡◌, ℕ, Bool, false, ◌==◌, ◌&&◌, if◌then◌else◌, List, [], ◌∷◌, ◌++◌, Option, Some, None, is_some, filter}
use Rattle.std.specs.List.{filter_map, list_any}
use Rattle.std.specs.List.Sorted.{IsStrictlySortedBy}
use Rattle.sr_model.specs.declared.name.LinkKey.{LinkKey}
use Rattle.sr_model.specs.Key.{mirror}
use Rattle.sr_model.specs.KeyOrder.{key_cmp, same_key}
use Rattle.sr_lsp.specs.declared.lsp.LspId.{LspId}
use Rattle.sr_lsp.specs.declared.lsp.Lsp.{Lsp}
use Rattle.sr_lsp.specs.declared.table.Part.{Part}
use Rattle.sr_lsdb.specs.declared.announcement.Announcement.{Announcement}
use Rattle.sr_lsdb.specs.declared.facts.Stored.{Stored}
use Rattle.sr_lsdb.specs.declared.facts.Facts.{Facts}
use Rattle.sr_lsdb.specs.Announcement.{announced_by}
use Rattle.sr_lsdb.specs.Facts.{stored_under}

-- something is stored, and its PDU is live
abbrev pub is_live : Option Stored → Bool
is_live None = false
is_live (Some stored) = is_some stored.live

-- the parts of a PDU, or none where it isn't live
abbrev pub parts_of : Option Lsp → List Part
parts_of None = []
parts_of (Some lsp) = lsp.parts

-- the id of a node's LSP with pseudonode 0 and fragment 0
abbrev pub first_id : ℕ → LspId
first_id node = record { system = node; pseudonode = 0; fragment = 0 }

-- a node is present where its LSP with pseudonode 0 and fragment 0 is live
abbrev pub is_present : Facts → ℕ → Bool
is_present facts node = is_live (stored_under facts (first_id node))

-- an LSP counts where its pseudonode is 0 and its system a present node
abbrev pub counts : Facts → LspId → Bool
counts facts id = (id.pseudonode == 0) && is_present facts id.system

-- what an LSP announces where it is live and its node is present
abbrev pub announced_under : Facts → (LspId × Stored) → List Announcement
announced_under facts entry =
    if counts facts entry.0 then filter_map (announced_by entry.0.system) (parts_of entry.1.live) else []

-- what these LSPs announce, in order of LSP id and place
abbrev pub announced_in : Facts → List (LspId × Stored) → List Announcement
announced_in facts [] = []
announced_in facts (entry ∷ entries) = announced_under facts entry ++ announced_in facts entries

-- all announcements of present nodes
abbrev pub announcements_of : Facts → List Announcement
announcements_of facts = announced_in facts facts.database

-- the key of an announcement
abbrev pub announced_key : Announcement → LinkKey
announced_key announcement = announcement.key

-- one of them has the key
abbrev pub is_announced : List Announcement → LinkKey → Bool
is_announced announcements key = list_any (λ (a : Announcement). same_key key a.key) announcements

-- those whose other end announces the mirrored key: the other node is present, and announces this one with the
-- mirrored identity
abbrev pub two_way : List Announcement → List Announcement
two_way announcements = filter (λ (a : Announcement). is_announced announcements (mirror a.key)) announcements

-- the two-way announcements of the facts
abbrev pub two_way_of : Facts → List Announcement
two_way_of facts = two_way (announcements_of facts)

-- the distinct keys of these announcements, ascending
pub record AreKeysOf (announcements : List Announcement) (keys : List LinkKey) : Type 0 where
  pub ascending : IsStrictlySortedBy key_cmp keys
  pub each : (key : LinkKey) → list_any (same_key key) keys ≡ is_announced announcements key
