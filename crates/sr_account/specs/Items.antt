-- What the facts of a domain have: the parts of live LSPs, and the SIDs of these parts.
use Rattle.std.specs.Prelude.{◌≡◌, ℕ, ◌<◌, ◌⊎◌, List, [], Option, Some, None, slice_get}
use Rattle.std.specs.declared.cmp.Ordering.TheVariants.{Less}
use Rattle.sr_subtlv.specs.declared.adj_sid.AdjSid.{AdjSid}
use Rattle.sr_subtlv.specs.declared.prefix_sid.PrefixSid.{PrefixSid}
use Rattle.sr_lsp.specs.declared.lsp.LspId.{LspId}
use Rattle.sr_lsp.specs.declared.reach.Reach.{Reach}
use Rattle.sr_lsp.specs.declared.prefix.Prefix.{Prefix}
use Rattle.sr_lsp.specs.declared.table.Part.{Part}
use Rattle.sr_lsp.specs.declared.table.Part.TheVariants as part
use Rattle.sr_lsdb.specs.declared.facts.Stored.{Stored}
use Rattle.sr_lsdb.specs.declared.facts.Facts.{Facts}
use Rattle.sr_lsdb.specs.Facts.{stored_under}
use Rattle.sr_lsdb.specs.Order.{id_cmp}
use Rattle.sr_domain.specs.Announced.{parts_of}
use Rattle.sr_account.specs.declared.aside.Place.{Place}
use Rattle.sr_account.specs.declared.aside.Matter.{Matter}
use Rattle.sr_account.specs.declared.aside.Matter.TheVariants as matter

-- the parts of what is stored, or none where that isn't live
abbrev pub parts_in : Option Stored → List Part
parts_in None = []
parts_in (Some stored) = parts_of stored.live

-- the parts of the live LSP under this id
abbrev pub parts_under : Facts → LspId → List Part
parts_under facts id = parts_in (stored_under facts id)

-- where a part stands: its LSP, and its place among the parts of that
pub record PartPlace : Type 0 where
  pub id : LspId
  pub part : ℕ

-- the part stands there
abbrev pub IsPartAt : Facts → PartPlace → Part → Type 0
IsPartAt facts place part = slice_get (parts_under facts place.id) place.part ≡ Some part

-- a part of a live LSP; or an adjacency SID or a Prefix-SID of such a part, with its place among the SIDs of the part
pub data Item : Type 0 where
  OfPart : PartPlace → Part → Item
  OfAdj : PartPlace → Reach → ℕ → AdjSid → Item
  OfPrefix : PartPlace → Prefix → ℕ → PrefixSid → Item

-- the facts have the item
abbrev pub IsFactItem : Facts → Item → Type 0
IsFactItem facts (OfPart place part) = IsPartAt facts place part
IsFactItem facts (OfAdj place reach k sid) = IsPartAt facts place (part.Reach reach)
    × (slice_get reach.adj k ≡ Some sid)
IsFactItem facts (OfPrefix place prefix k sid) =
    IsPartAt facts place (part.Prefix prefix) × (slice_get prefix.sids k ≡ Some sid)

-- the place of a part
abbrev pub part_place : PartPlace → Place
part_place place = record { id = place.id; part = place.part; sid = None }

-- the place of a SID
abbrev pub sid_place : PartPlace → ℕ → Place
sid_place place k = record { id = place.id; part = place.part; sid = Some k }

-- where an item stands
abbrev pub item_place : Item → Place
item_place (OfPart place part) = part_place place
item_place (OfAdj place reach k sid) = sid_place place k
item_place (OfPrefix place prefix k sid) = sid_place place k

-- what a part is, by name
abbrev pub matter_of_part : Part → Matter
matter_of_part (part.Reach reach) = matter.Reach reach.neighbour reach.pseudonode
matter_of_part (part.Prefix prefix) = matter.Prefix prefix.prefix prefix.length
matter_of_part (part.Name name) = matter.Name
matter_of_part (part.Risk risk) = matter.Risk risk.neighbour risk.pseudonode
matter_of_part (part.Capability capability) = matter.Capability capability.router

-- what an item is, by name
abbrev pub matter_of : Item → Matter
matter_of (OfPart place part) = matter_of_part part
matter_of (OfAdj place reach k sid) = matter.AdjSid sid.sid
matter_of (OfPrefix place prefix k sid) = matter.PrefixSid sid.sid

-- a part comes before its SIDs, and these stand in their order
abbrev pub SidBefore : Option ℕ → Option ℕ → Type 0
SidBefore None None = ⊥
SidBefore None (Some k) = Unit {0}
SidBefore (Some j) None = ⊥
SidBefore (Some j) (Some k) = j < k

-- the order of places: by LSP id, then by part, and a part before its SIDs
abbrev pub PlaceBefore : Place → Place → Type 0
PlaceBefore a b =
    (id_cmp a.id b.id ≡ Less) ⊎ ((a.id ≡ b.id) × ((a.part < b.part) ⊎ ((a.part ≡ b.part) × SidBefore a.sid b.sid)))
