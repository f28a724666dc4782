-- The nodes of a domain: which are present, the label ranges, the index, the flags and the MSD (maximum SID depth) that
-- each announces, and which are overloaded (this project's rules).
use Rattle.std.specs.Prelude.{ℕ, Bool, false, not, ◌==◌, nat_lt, ◌&&◌, if◌then◌else◌, List, [], ◌∷◌, Option, Some, None, is_some, bit_and, bit_or, map, slice_get}
use Rattle.std.specs.Option.{unwrap_or, option_map, option_or}
use Rattle.std.specs.List.{filter_map, flat_map}
use Rattle.sr_model.specs.declared.label.Range.{Range}
use Rattle.sr_model.specs.Label.{Labels}
use Rattle.sr_wire.specs.declared.registry.TheConstants.{ADDRESS_BITS, LSP_OVERLOAD, MSD_IMPOSITION, PREFIX_SID_EXPLICIT_NULL, PREFIX_SID_NODE, PREFIX_SID_NO_POP, PREFIX_SID_READVERTISED}
use Rattle.sr_subtlv.specs.declared.sid.Sid.{Sid}
use Rattle.sr_subtlv.specs.declared.sid.Sid.TheVariants.{Index, Label}
use Rattle.sr_subtlv.specs.declared.prefix_sid.PrefixSid.{PrefixSid}
use Rattle.sr_subtlv.specs.declared.sr_cap.SrCap.{SrCap}
use Rattle.sr_subtlv.specs.declared.msd.Msd.{Msd}
use Rattle.sr_lsp.specs.declared.lsp.LspId.{LspId}
use Rattle.sr_lsp.specs.declared.lsp.Lsp.{Lsp}
use Rattle.sr_lsp.specs.declared.table.Part.{Part}
use Rattle.sr_lsp.specs.declared.table.Part.TheVariants.{Prefix, Capability}
use Rattle.sr_lsdb.specs.declared.facts.Stored.{Stored}
use Rattle.sr_lsdb.specs.declared.facts.Facts.{Facts}
use Rattle.sr_lsdb.specs.Facts.{stored_under}
use Rattle.sr_domain.specs.Announced.{first_id, parts_of}
use Rattle.sr_domain.specs.declared.nodes.NodeSid.{NodeSid}

-- the node of a live LSP with pseudonode 0 and fragment 0
abbrev pub node_by : (LspId × Stored) → Option ℕ
node_by entry =
    if (entry.0.pseudonode == 0) && (entry.0.fragment == 0) && is_some entry.1.live then Some entry.0.system else None

-- the present nodes, in order of LSP id, which is that of system ids
abbrev pub nodes_of : Facts → List ℕ
nodes_of facts = filter_map node_by facts.database

-- an LSP of the node itself
abbrev pub is_own : ℕ → LspId → Bool
is_own node id = (id.system == node) && (id.pseudonode == 0)

-- the first id after those of the node's own LSPs
abbrev pub past_own : ℕ → LspId
past_own node = record { system = node; pseudonode = 1; fragment = 0 }

-- the parts of a live LSP of the node itself
abbrev pub own_parts : ℕ → (LspId × Stored) → List Part
own_parts node entry = if is_own node entry.0 then parts_of entry.1.live else []

-- the parts of the node's own live LSPs, in order of LSP id and place
abbrev pub parts_of_node : Facts → ℕ → List Part
parts_of_node facts node = flat_map (own_parts node) facts.database

-- the label ranges of SR-Capabilities
abbrev pub ranges_in : Part → Option (List Range)
ranges_in (Capability capability) = option_map (λ (cap : SrCap). cap.ranges) capability.srgb
ranges_in _ = None

-- the first SR-Capabilities of these parts
abbrev pub first_ranges : List Part → Option (List Range)
first_ranges [] = None
first_ranges (part ∷ parts) = option_or (ranges_in part) (first_ranges parts)

-- the first SR-Capabilities of the node's own LSPs among these
abbrev pub ranges_from : ℕ → List (LspId × Stored) → Option (List Range)
ranges_from node [] = None
ranges_from node (entry ∷ entries) = option_or (first_ranges (own_parts node entry)) (ranges_from node entries)

-- the label ranges of a node: its first SR-Capabilities by fragment and place count
abbrev pub srgb_of : Facts → ℕ → Option (List Range)
srgb_of facts node = ranges_from node facts.database

-- the flag N of a Prefix-SID is set, and its flag R clear (RFC 8667, 2.1.1)
abbrev pub is_of_node : ℕ → Bool
is_of_node flags = bit_and flags (bit_or PREFIX_SID_READVERTISED PREFIX_SID_NODE) == PREFIX_SID_NODE

-- the index of a Prefix-SID with its flags P and E (RFC 8667, 2.1.1)
abbrev pub node_sid_with : ℕ → ℕ → NodeSid
node_sid_with flags index = record {
  index = index;
  keep = not (bit_and flags PREFIX_SID_NO_POP == 0);
  explicit = not (bit_and flags PREFIX_SID_EXPLICIT_NULL == 0);
}

-- the index of a Prefix-SID whose flag N is set and R clear, with its flags P and E
abbrev pub sid_in : ℕ → Sid → Option NodeSid
sid_in flags (Label label) = None
sid_in flags (Index index) = if is_of_node flags then Some (node_sid_with flags index) else None

-- that of a Prefix-SID for algorithm 0 (RFC 8667, 2.1)
abbrev pub node_sid_by : PrefixSid → Option NodeSid
node_sid_by sid = if sid.algorithm == 0 then sid_in sid.flags sid.sid else None

-- the one of the lesser index, and of equal ones the first
abbrev pub lesser_sid : Option NodeSid → Option NodeSid → Option NodeSid
lesser_sid None second = second
lesser_sid (Some first) None = Some first
lesser_sid (Some first) (Some second) = if nat_lt second.index first.index then Some second else Some first

-- the least of these Prefix-SIDs
abbrev pub least_sid : List PrefixSid → Option NodeSid
least_sid [] = None
least_sid (sid ∷ sids) = lesser_sid (node_sid_by sid) (least_sid sids)

-- the least of a prefix of full length
abbrev pub sid_of_part : Part → Option NodeSid
sid_of_part (Prefix prefix) = if prefix.length == ADDRESS_BITS then least_sid prefix.sids else None
sid_of_part _ = None

-- the least of these parts
abbrev pub least_of_parts : List Part → Option NodeSid
least_of_parts [] = None
least_of_parts (part ∷ parts) = lesser_sid (sid_of_part part) (least_of_parts parts)

-- the least of the node's own LSPs among these
abbrev pub sid_from : ℕ → List (LspId × Stored) → Option NodeSid
sid_from node [] = None
sid_from node (entry ∷ entries) = lesser_sid (least_of_parts (own_parts node entry)) (sid_from node entries)

-- the index of a node with its flags: the least, and of equal ones the first by fragment and place
abbrev pub node_sid_of : Facts → ℕ → Option NodeSid
node_sid_of facts node = sid_from node facts.database

-- whether the flag P is set
abbrev pub keeps : Option NodeSid → Bool
keeps None = false
keeps (Some sid) = sid.keep

-- whether the flags P and E are set: E counts only with P (RFC 8667, 2.1.1)
abbrev pub keeps_explicit : Option NodeSid → Bool
keeps_explicit None = false
keeps_explicit (Some sid) = sid.keep && sid.explicit

-- the index, where there is one
abbrev pub index_of : Option NodeSid → Option ℕ
index_of sid = option_map (λ (s : NodeSid). s.index) sid

-- the value of a maximum SID depth (MSD) of the type that says how many labels the node can impose (RFC 8491, 5)
abbrev pub imposition_by : Msd → Option ℕ
imposition_by msd = if msd.kind == MSD_IMPOSITION then Some msd.value else None

-- the maximum SID depths of a router capability
abbrev pub msds_in : Part → List Msd
msds_in (Capability capability) = capability.msd
msds_in _ = []

-- the first such value of these parts, by place and by place within the part
abbrev pub imposition_in : List Part → Option ℕ
imposition_in parts = slice_get (filter_map imposition_by (flat_map msds_in parts)) 0

-- how many labels a node can impose, by its MSD: the first such value of its own LSPs, by fragment, by place and by
-- place within the part, or none
abbrev pub imposition_of : Facts → ℕ → Option ℕ
imposition_of facts node = imposition_in (parts_of_node facts node)

-- what a node with these ranges, this index and this MSD announces
abbrev pub labels_with : List Range → Option NodeSid → Option ℕ → Labels
labels_with ranges sid imposes = record {
  srgb = ranges;
  index = index_of sid;
  keep = keeps sid;
  explicit = keeps_explicit sid;
  imposes = imposes;
}

-- the label ranges of a node, or none
abbrev pub ranges_of : Facts → ℕ → List Range
ranges_of facts node = unwrap_or (srgb_of facts node) []

-- what a node announces
abbrev pub labels_of : Facts → ℕ → Labels
labels_of facts node = labels_with (ranges_of facts node) (node_sid_of facts node) (imposition_of facts node)

-- what the present nodes announce
abbrev pub all_labels : Facts → List Labels
all_labels facts = map (labels_of facts) (nodes_of facts)

-- whether a live LSP has the overload bit (ISO 10589, 9.9)
abbrev pub has_overload : Option Lsp → Bool
has_overload None = false
has_overload (Some lsp) = not (bit_and lsp.flags LSP_OVERLOAD == 0)

-- the same of what is stored
abbrev pub overload_in : Option Stored → Bool
overload_in None = false
overload_in (Some stored) = has_overload stored.live

-- a node is overloaded where its LSP with pseudonode 0 and fragment 0 has the overload bit
abbrev pub has_overload_bit : Facts → ℕ → Bool
has_overload_bit facts node = overload_in (stored_under facts (first_id node))

-- for each present node whether it is overloaded
abbrev pub overload_marks : Facts → List Bool
overload_marks facts = map (has_overload_bit facts) (nodes_of facts)
