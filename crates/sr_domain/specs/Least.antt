-- The index of a node and the label of an adjacency, as the least of flat lists (this project's rules).
use Rattle.std.specs.Prelude.{◌≡◌, ◌≢◌, ℕ, ◌<◌, ◌≤◌, ◌==◌, if◌then◌else◌, false, true, List, [], Option, Some, MatchOption, slice_get}
use Rattle.std.specs.Option.{IsSomeAnd}
use Rattle.std.specs.List.{filter_map, flat_map}
use Rattle.sr_wire.specs.declared.registry.TheConstants.{ADDRESS_BITS}
use Rattle.sr_subtlv.specs.declared.prefix_sid.PrefixSid.{PrefixSid}
use Rattle.sr_subtlv.specs.declared.adj_sid.AdjSid.{AdjSid}
use Rattle.sr_lsp.specs.declared.table.Part.{Part}
use Rattle.sr_lsp.specs.declared.table.Part.TheVariants.{Prefix}
use Rattle.sr_lsdb.specs.declared.facts.Facts.{Facts}
use Rattle.sr_lsdb.specs.Announcement.{adj_sid_labels}
use Rattle.sr_domain.specs.Nodes.{node_sid_by, parts_of_node}
use Rattle.sr_domain.specs.declared.nodes.NodeSid.{NodeSid}

-- the Prefix-SIDs of a prefix of full length
abbrev pub host_sids : Part → List PrefixSid
host_sids (Prefix prefix) = if prefix.length == ADDRESS_BITS then prefix.sids else []
host_sids _ = []

-- the indices that the node's own live LSPs give it, in order of LSP id and place
abbrev pub candidates : Facts → ℕ → List NodeSid
candidates facts node = filter_map node_sid_by (flat_map host_sids (parts_of_node facts node))

-- the SID stands among these at a place before which each index is greater, and no index is less
pub record IsFirstLeastSid (sids : List NodeSid) (sid : NodeSid) : Type 0 where
  pub place : ℕ
  pub stands : slice_get sids place ≡ Some sid
  pub earlier : (k : ℕ) (other : NodeSid) → k < place → slice_get sids k ≡ Some other → sid.index < other.index
  pub least : (k : ℕ) (other : NodeSid) → slice_get sids k ≡ Some other → sid.index ≤ other.index

-- the number stands among these, and none is less
pub record IsLeastNumber (numbers : List ℕ) (number : ℕ) : Type 0 where
  pub place : ℕ
  pub stands : slice_get numbers place ≡ Some number
  pub least : (k other : ℕ) → slice_get numbers k ≡ Some other → number ≤ other

-- the label is the least of those whose flag B is clear where there are such, else the least of those whose flag B is
-- set, and none where there are none
pub record IsAdjLabel (sids : List AdjSid) (label : Option ℕ) : Type 0 where
  pub clear : adj_sid_labels false sids ≢ [] → IsSomeAnd label (IsLeastNumber (adj_sid_labels false sids))
  pub set : adj_sid_labels false sids ≡ []
      → MatchOption label (adj_sid_labels true sids ≡ []) (IsLeastNumber (adj_sid_labels true sids))
