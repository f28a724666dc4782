-- The table of sources, with a slot for each link, and how the entries that give links fill it.
use Rattle.std.specs.Prelude.{◌≡◌, ◌≢◌, ℕ, ◌<◌, ◌⊎◌, Bool, true, List, length, Option, Some, None, slice_get, slice_index_or, Contains}
use Rattle.sr_model.specs.Graph.{Graph, link_at, link_count}
use Rattle.sr_model.specs.Label.{Net}
use Rattle.sr_subtlv.specs.declared.adj_sid.AdjSid.{AdjSid}
use Rattle.sr_lsp.specs.declared.lsp.LspId.{LspId}
use Rattle.sr_lsp.specs.declared.reach.Reach.{Reach}
use Rattle.sr_lsp.specs.declared.table.Part.{Part}
use Rattle.sr_lsp.specs.declared.table.Part.TheVariants as part
use Rattle.sr_lsdb.specs.declared.facts.Stored.{Stored}
use Rattle.sr_lsdb.specs.declared.facts.Facts.{Facts}
use Rattle.sr_lsdb.specs.declared.announcement.Announcement.{Announcement}
use Rattle.sr_lsdb.specs.Announcement.{adj_label, adj_sid_label, announced_by}
use Rattle.sr_domain.specs.Announced.{counts, parts_of}
use Rattle.sr_domain.specs.Links.{is_in_use}
use Rattle.sr_account.specs.declared.aside.Reason.{Reason}
use Rattle.sr_account.specs.declared.sources.LinkSource.{LinkSource}
use Rattle.sr_account.specs.Items.{parts_under}
use Rattle.sr_account.specs.Reasons.{AdjFails}
use Rattle.sr_account.specs.Sources.{IsSourceOf}

-- the SID at place k is the first that gives the label with the flag B as asked
pub record IsFirstSid (backup : Bool) (label : ℕ) (sids : List AdjSid) (k : ℕ) (sid : AdjSid) : Type 0 where
  pub among : slice_get sids k ≡ Some sid
  pub gives : adj_sid_label backup sid ≡ Some label
  pub first : (j : ℕ) (other : AdjSid) → j < k → slice_get sids j ≡ Some other → adj_sid_label backup other ≢ Some label

-- the flags are those of the first such SID
abbrev pub AreFirstFlags : Bool → ℕ → List AdjSid → ℕ → Type 0
AreFirstFlags backup label sids flags = (k : ℕ) × (sid : AdjSid) × IsFirstSid backup label sids k sid
    × (flags ≡ sid.flags)

-- no SID gives the label
abbrev pub NoSidGives : Bool → ℕ → List AdjSid → Type 0
NoSidGives backup label sids = (k : ℕ) (sid : AdjSid) → slice_get sids k ≡ Some sid
    → adj_sid_label backup sid ≢ Some label

-- the flags of the SID of which no reason of its own holds, or none where the SIDs give no label
abbrev pub AreLabelFlags : List AdjSid → Option ℕ → Type 0
AreLabelFlags sids None = adj_label sids ≡ None
AreLabelFlags sids (Some flags) =
    (k : ℕ) × (sid : AdjSid) × (slice_get sids k ≡ Some sid) × ((reason : Reason) → AdjFails sids k sid reason → ⊥)
    × (flags ≡ sid.flags)

-- the part of the node announces a link in use with the key of link l of the graph
pub record GivesSource (facts : Facts) (graph : Graph) (node : ℕ) (said : Part) (l : ℕ) : Type 0 where
  pub announcement : Announcement
  pub announced : announced_by node said ≡ Some announcement
  pub used : is_in_use facts announcement ≡ true
  pub within : l < link_count graph
  pub key : (link_at graph l).key ≡ announcement.key

-- the part announces no such link
abbrev pub GivesNoSource : Facts → Graph → ℕ → Part → Type 0
GivesNoSource facts graph node said = (l : ℕ) → GivesSource facts graph node said l → ⊥

-- what an entry announces of its link
pub record IsSaidOf (reach : Reach) (source : LinkSource) : Type 0 where
  pub metric : source.metric ≡ reach.metric
  pub flags : AreLabelFlags reach.adj source.flags

-- the part is an entry, and announces this of its link
abbrev pub IsSaidBy : Part → LinkSource → Type 0
IsSaidBy said source = (reach : Reach) × (said ≡ part.Reach reach) × IsSaidOf reach source

-- what stands in a slot before it is filled
abbrev pub no_source : LinkSource
no_source = record { metric = 0; flags = None }

-- slot l of the table
abbrev pub source_at : List LinkSource → ℕ → LinkSource
source_at sources l = slice_index_or sources l no_source

-- where the part gives link l, slot l has what it announces; each other slot stays as it was
pub record IsPut (facts : Facts) (graph : Graph) (node : ℕ) (said : Part) (old new : List LinkSource) : Type 0 where
  pub long : length new ≡ length old
  pub each : (l : ℕ) → (GivesSource facts graph node said l × IsSaidBy said (source_at new l))
      ⊎ ((GivesSource facts graph node said l → ⊥) × (source_at new l ≡ source_at old l))

-- slot l has what is announced of link l
abbrev pub IsFilled : Facts → Net → List LinkSource → ℕ → Type 0
IsFilled facts net sources l = IsSourceOf facts net l (source_at sources l)

-- these are the parts of a live LSP that counts
pub record AreCountedParts (facts : Facts) (id : LspId) (parts : List Part) : Type 0 where
  pub counted : counts facts id ≡ true
  pub stand : parts_under facts id ≡ parts

-- the slots of the links that the first `count` parts of the LSP give are filled, and each that was filled still is
pub record IsFilledTo (facts : Facts) (net : Net) (id : LspId) (count : ℕ) (old new : List LinkSource) : Type 0 where
  pub long : length new ≡ length old
  pub kept : (l : ℕ) → IsFilled facts net old l → IsFilled facts net new l
  pub each : (k : ℕ) (said : Part) (l : ℕ) → k < count → slice_get (parts_under facts id) k ≡ Some said
      → GivesSource facts net.graph id.system said l → IsFilled facts net new l

-- the slots of the links that an entry of the database gives are filled
abbrev pub IsEntryDone : Facts → Net → List LinkSource → (LspId × Stored) → Type 0
IsEntryDone facts net sources entry =
    (k : ℕ) (said : Part) (l : ℕ) → counts facts entry.0 ≡ true → slice_get (parts_of entry.1.live) k ≡ Some said
    → GivesSource facts net.graph entry.0.system said l → IsFilled facts net sources l

-- as far as the walk has come: each entry is still to come or done
pub record IsWalkedTo (facts : Facts) (net : Net) (rest : List (LspId × Stored))
    (sources : List LinkSource) : Type 0 where
  pub long : length sources ≡ link_count net.graph
  pub among : (entry : LspId × Stored) → Contains rest entry → Contains facts.database entry
  pub each : (entry : LspId × Stored) → Contains facts.database entry
      → Contains rest entry ⊎ IsEntryDone facts net sources entry
