-- What of the facts a net uses, by name: what an announcement gives to the net.
use Rattle.std.specs.Prelude.{◌≡◌, ◌≢◌, ℕ, ◌<◌, ◌⊎◌, false, not, List, Option, Some, is_some, slice_get, Contains}
use Rattle.std.specs.List.{filter_map}
use Rattle.sr_model.specs.Graph.{node_count, link_count, link_at, system_at, groups_at, metric}
use Rattle.sr_model.specs.Key.{pair_of}
use Rattle.sr_model.specs.Label.{Net, adj_at, labels_at}
use Rattle.sr_wire.specs.declared.registry.TheConstants.{ADDRESS_BITS}
use Rattle.sr_subtlv.specs.declared.adj_sid.AdjSid.{AdjSid}
use Rattle.sr_subtlv.specs.declared.prefix_sid.PrefixSid.{PrefixSid}
use Rattle.sr_subtlv.specs.declared.sr_cap.SrCap.{SrCap}
use Rattle.sr_lsp.specs.declared.lsp.LspId.{LspId}
use Rattle.sr_lsp.specs.declared.reach.Reach.{Reach}
use Rattle.sr_lsp.specs.declared.prefix.Prefix.{Prefix}
use Rattle.sr_lsp.specs.declared.risk.Risk.{Risk}
use Rattle.sr_lsp.specs.declared.capability.Capability.{Capability}
use Rattle.sr_lsp.specs.declared.table.Part.{Part}
use Rattle.sr_lsp.specs.declared.table.Part.TheVariants as part
use Rattle.sr_lsdb.specs.declared.facts.Facts.{Facts}
use Rattle.sr_lsdb.specs.declared.announcement.Announcement.{Announcement}
use Rattle.sr_domain.specs.declared.nodes.NodeSid.{NodeSid}
use Rattle.sr_lsdb.specs.Announcement.{adj_sid_label, adj_sid_labels, announcement_of, least}
use Rattle.sr_domain.specs.Announced.{announcements_of}
use Rattle.sr_domain.specs.Nodes.{imposition_by, node_sid_by}
use Rattle.sr_domain.specs.Links.{effective_metric}
use Rattle.sr_account.specs.Items.{Item, PartPlace, PlaceBefore, sid_place}
use Rattle.sr_account.specs.Items.Item.{OfPart, OfAdj, OfPrefix}
use Rattle.sr_account.specs.Reasons.{IsCandidate, IsSaidBefore, NamesLink, SaysImposition, SaysRanges, entry_key}

-- node v of the net is the system of the LSP, and the LSP is its own, no pseudonode's
pub record IsNodeOfLsp (net : Net) (id : LspId) (v : ℕ) : Type 0 where
  pub real : id.pseudonode ≡ 0
  pub within : v < node_count net.graph
  pub system : system_at net.graph v ≡ id.system

-- the entry gives link l of the net its key and its metric
pub record GivesLink (facts : Facts) (net : Net) (id : LspId) (reach : Reach) (l : ℕ) : Type 0 where
  pub node : ℕ
  pub of_node : IsNodeOfLsp net id node
  pub real : reach.pseudonode ≡ 0
  pub within : l < link_count net.graph
  pub key : (link_at net.graph l).key ≡ entry_key id.system reach
  pub metric_is : metric net.graph l ≡ effective_metric facts (announcement_of id.system reach)

-- the label that the SID gives where those without the flag B count, and those with it where there is none without
abbrev pub counting_label : List AdjSid → AdjSid → Option ℕ
counting_label sids sid = adj_sid_label (not (is_some (least (adj_sid_labels false sids)))) sid

-- the adjacency SID, at place k, is the first of its entry that gives the adjacency label of the entry's link
pub record GivesAdjLabel (facts : Facts) (net : Net) (id : LspId) (reach : Reach) (k : ℕ) (sid : AdjSid) : Type 0 where
  pub link : ℕ
  pub gives : GivesLink facts net id reach link
  pub label : ℕ
  pub label_is : adj_at net link ≡ Some label
  pub said : counting_label reach.adj sid ≡ Some label
  pub first : (j : ℕ) (other : AdjSid) → j < k → slice_get reach.adj j ≡ Some other
      → counting_label reach.adj other ≢ Some label

-- the Prefix-SID, at place k of the entry at this place, is the first of the node's own that gives the node's index
pub record GivesIndex (facts : Facts) (net : Net) (place : PartPlace) (prefix : Prefix) (k : ℕ) (sid : PrefixSid)
    : Type 0 where
  pub node : ℕ
  pub of_node : IsNodeOfLsp net place.id node
  pub host : prefix.length ≡ ADDRESS_BITS
  pub given : NodeSid
  pub given_is : node_sid_by sid ≡ Some given
  pub index_is : (labels_at net node).index ≡ Some given.index
  pub first : (other : PartPlace) (j : ℕ) → IsCandidate facts place.id.system other j given.index
      → PlaceBefore (sid_place other j) (sid_place place k) → ⊥

-- some SID of the prefix gives the node its index
abbrev pub GivesIndexBySid : Facts → Net → PartPlace → Prefix → Type 0
GivesIndexBySid facts net place prefix =
    (k : ℕ) × (sid : PrefixSid) × (slice_get prefix.sids k ≡ Some sid) × GivesIndex facts net place prefix k sid

-- the shared-risk part gives a group to a link of the net: it names an announcement of the link or of its opposite
pub record GivesGroup (facts : Facts) (net : Net) (id : LspId) (risk : Risk) : Type 0 where
  pub node : ℕ
  pub of_node : IsNodeOfLsp net id node
  pub real : risk.pseudonode ≡ 0
  pub announcement : Announcement
  pub announced : Contains (announcements_of facts) announcement
  pub names : NamesLink id.system risk announcement
  pub link : ℕ
  pub within : link < link_count net.graph
  pub pair : pair_of (link_at net.graph link).key ≡ pair_of announcement.key
  pub group : ℕ
  pub said : Contains risk.groups group
  pub is_group : Contains (groups_at net.graph link) group

-- the router capability gives a node its label ranges, or how many labels it can impose: none of the node's own before
-- it does so
pub record GivesCapability (facts : Facts) (net : Net) (place : PartPlace) (capability : Capability) : Type 0 where
  pub node : ℕ
  pub of_node : IsNodeOfLsp net place.id node
  pub gives : ((cap : SrCap) × (capability.srgb ≡ Some cap) × ((labels_at net node).srgb ≡ cap.ranges)
      × (IsSaidBefore SaysRanges facts place → ⊥))
      ⊎ ((imposes : ℕ) × (slice_get (filter_map imposition_by capability.msd) 0 ≡ Some imposes)
      × ((labels_at net node).imposes ≡ Some imposes) × (IsSaidBefore SaysImposition facts place → ⊥))

-- the part is used in the net
abbrev pub IsPartUsed : Facts → Net → PartPlace → Part → Type 0
IsPartUsed facts net place (part.Reach reach) = (l : ℕ) × GivesLink facts net place.id reach l
IsPartUsed facts net place (part.Prefix prefix) = GivesIndexBySid facts net place prefix
IsPartUsed facts net place (part.Name name) = ⊥
IsPartUsed facts net place (part.Risk risk) = GivesGroup facts net place.id risk
IsPartUsed facts net place (part.Capability capability) = GivesCapability facts net place capability

-- the item is used in the net, by name
abbrev pub IsUsed : Facts → Net → Item → Type 0
IsUsed facts net (OfPart place said) = IsPartUsed facts net place said
IsUsed facts net (OfAdj place reach k sid) = GivesAdjLabel facts net place.id reach k sid
IsUsed facts net (OfPrefix place prefix k sid) = GivesIndex facts net place prefix k sid
