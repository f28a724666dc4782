-- Shared-risk groups: what the nodes say of their links, and the groups of a bidirectional link (this project's rules).
use Rattle.std.specs.Prelude.{◌≡◌, ℕ, Bool, true, false, ◌==◌, ◌&&◌, ◌||◌, if◌then◌else◌, List, [], ◌∷◌, ◌++◌, Option, Some, None, map}
use Rattle.std.specs.declared.cmp.Ordering.{Ordering}
use Rattle.std.specs.List.{list_any}
use Rattle.std.specs.List.Sorted.{IsStrictlyIncreasing}
use Rattle.std.specs.Ordering.{eq_by_cmp, nat_cmp}
use Rattle.sr_model.specs.declared.name.PairKey.{PairKey}
use Rattle.sr_model.specs.declared.name.LinkKey.{LinkKey}
use Rattle.sr_model.specs.declared.name.Ident.{Ident}
use Rattle.sr_model.specs.declared.name.Ident.TheVariants.{None as NoIdent, Addr, Link}
use Rattle.sr_model.specs.Key.{pair_of}
use Rattle.sr_subtlv.specs.declared.link_ids.LinkIds.{LinkIds}
use Rattle.sr_lsp.specs.declared.lsp.LspId.{LspId}
use Rattle.sr_lsp.specs.declared.table.Part.{Part}
use Rattle.sr_lsp.specs.declared.table.Part.TheVariants.{Risk}
use Rattle.sr_lsp.specs.declared.risk.Risk.{Risk as RiskPart}
use Rattle.sr_lsdb.specs.declared.facts.Stored.{Stored}
use Rattle.sr_lsdb.specs.declared.facts.Facts.{Facts}
use Rattle.sr_lsdb.specs.Order.{pair_cmp}
use Rattle.sr_lsdb.specs.declared.announcement.Announcement.{Announcement}
use Rattle.sr_domain.specs.declared.risks.RiskName.{RiskName}
use Rattle.sr_domain.specs.declared.risks.RiskNote.{RiskNote}
use Rattle.sr_domain.specs.contracts.risks.RiskNameOrd.TheImpl as risk_name
use Rattle.sr_domain.specs.Announced.{counts, parts_of, announcements_of}

-- names of links in shared-risk parts, in order
abbrev pub name_cmp : RiskName → RiskName → Ordering
name_cmp = risk_name.cmp-value.it

-- the test of two equal names
abbrev pub same_name : RiskName → RiskName → Bool
same_name = eq_by_cmp name_cmp

-- the test of two equal pairs
abbrev pub same_pair : PairKey → PairKey → Bool
same_pair = eq_by_cmp pair_cmp

-- the test of two equal numbers
abbrev pub same_number : ℕ → ℕ → Bool
same_number = eq_by_cmp nat_cmp

-- the name by which a shared-risk part of a node speaks of a link (RFC 5307, 1.4)
abbrev pub name_of : ℕ → RiskPart → RiskName
name_of node risk = record {
  from = node;
  to = risk.neighbour;
  numbered = risk.numbered;
  local = risk.local;
  remote = risk.remote;
}

-- what the part says: one note a group; a part of a link to a pseudonode says nothing
abbrev pub notes_by : ℕ → Part → List RiskNote
notes_by node (Risk risk) =
    if risk.pseudonode == 0 then map (λ (group : ℕ). record { name = name_of node risk; group = group }) risk.groups
    else []
notes_by node _ = []

-- what the parts say
abbrev pub notes_from : ℕ → List Part → List RiskNote
notes_from node [] = []
notes_from node (part ∷ parts) = notes_by node part ++ notes_from node parts

-- what the live LSPs of present nodes among these say
abbrev pub notes_in : Facts → List (LspId × Stored) → List RiskNote
notes_in facts [] = []
notes_in facts (entry ∷ entries) =
    (if counts facts entry.0 then notes_from entry.0.system (parts_of entry.1.live) else []) ++ notes_in facts entries

-- what all present nodes say
abbrev pub notes_of : Facts → List RiskNote
notes_of facts = notes_in facts facts.database

-- the name by addresses, of an identity that has them
abbrev pub address_name : LinkKey → Ident → Option RiskName
address_name key NoIdent = None
address_name key (Addr local remote) =
    Some (record { from = key.from; to = key.to; numbered = true; local = local; remote = remote })
address_name key (Link local remote) = None

-- the name by link identifiers, of a link that has them
abbrev pub ids_name : LinkKey → Option LinkIds → Option RiskName
ids_name key None = None
ids_name key (Some ids) =
    Some (record { from = key.from; to = key.to; numbered = false; local = ids.local; remote = ids.remote })

-- the name of a numbered link
abbrev pub numbered_name : Announcement → Option RiskName
numbered_name announcement = address_name announcement.key announcement.key.ident

-- the name of an unnumbered link: a remote identifier of 0 counts here, and so do identifiers beside addresses
abbrev pub unnumbered_name : Announcement → Option RiskName
unnumbered_name announcement = ids_name announcement.key announcement.ids

-- there is this name
abbrev pub is_name : RiskName → Option RiskName → Bool
is_name name None = false
is_name name (Some other) = same_name other name

-- the note names the announcement, by its addresses or by its identifiers
abbrev pub speaks_of : RiskNote → Announcement → Bool
speaks_of note announcement =
    is_name note.name (numbered_name announcement) || is_name note.name (unnumbered_name announcement)

-- some announcement of the pair is in the group by some note that names it
abbrev pub is_group_of : List Announcement → List RiskNote → PairKey → ℕ → Bool
is_group_of announcements notes pair group =
    list_any (λ (a : Announcement). same_pair pair (pair_of a.key)
    && list_any (λ (n : RiskNote). same_number group n.group && speaks_of n a) notes) announcements

-- the groups of a pair, ascending: those that some note of the facts gives to an announcement of the pair, of either
-- end
pub record AreGroupsOf (facts : Facts) (pair : PairKey) (groups : List ℕ) : Type 0 where
  pub ascending : IsStrictlyIncreasing groups
  pub each : (group : ℕ)
      → list_any (same_number group) groups ≡ is_group_of (announcements_of facts) (notes_of facts) pair group
