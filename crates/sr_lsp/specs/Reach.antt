-- Extended IS reachability, TLV 22 (RFC 5305, 3): a run of entries with sub-TLVs.
use Rattle.std.specs.Prelude.{◌≡◌, ℕ, ◌+◌, ◌<◌, ◌^◌, List, [], ◌∷◌, ◌++◌, length, drop}
use Rattle.byteorder.specs.Endian.{big_bytes}
use Rattle.sr_wire.specs.declared.fault.Check.TheVariants.{FieldExtent}
use Rattle.sr_wire.specs.declared.registry.TheConstants.{EXTENDED_REACH}
use Rattle.sr_wire.specs.Fields.{Field, FitFields, HaveWidths, SayFields, all_of, fields_text, first_of}
use Rattle.sr_wire.specs.Format.{Kind, run_of}
use Rattle.sr_wire.specs.Numbers.{FitsSixOctets}
use Rattle.sr_wire.specs.Octets.{number, octet}
use Rattle.sr_wire.specs.Run.{Layout}
use Rattle.sr_wire.specs.Sub.{AreSubs, SubFault}
use Rattle.sr_wire.specs.Tlv.{Tlv}
use Rattle.sr_subtlv.specs.Addr.{neighbour_addr_sub, own_addr_sub}
use Rattle.sr_subtlv.specs.AdjSid.{adj_sid_sub}
use Rattle.sr_subtlv.specs.LinkIds.{ids_sub}
use Rattle.sr_lsp.specs.declared.reach.LinkSubs.{LinkSubs}
use Rattle.sr_lsp.specs.declared.reach.Reach.{Reach}
use Rattle.sr_lsp.specs.declared.table.Part.{Part}
use Rattle.sr_lsp.specs.declared.table.Part.TheVariants.{Reach as ReachPart}

-- a neighbour's system id and pseudonode, the metric, and the octets of the sub-TLVs
pub record Entry : Type 0 where
  pub neighbour : ℕ
  pub pseudonode : ℕ
  pub metric : ℕ
  pub subs : List ℕ

-- six octets of system id, one of pseudonode, three of metric, one of the length of the sub-TLVs, and these
abbrev pub entry_text : Entry → List ℕ
entry_text entry =
    big_bytes 6 entry.neighbour ++ entry.pseudonode ∷ big_bytes 3 entry.metric ++ length entry.subs ∷ entry.subs

-- its numbers fit their octets
pub record IsReachEntry (entry : Entry) : Type 0 where
  pub neighbour : entry.neighbour < 2 ^ 48
  pub metric : entry.metric < 2 ^ 24

-- the entry that octets are, which hold its sub-TLVs and no more
abbrev pub reach_entry_of : List ℕ → Entry
reach_entry_of octets = record {
  neighbour = number octets 0 6;
  pseudonode = octet octets 6;
  metric = number octets 7 3;
  subs = drop 11 octets;
}

-- a fault inside an entry is one of its sub-TLVs, which stand behind eleven octets
abbrev pub entry_layout : Layout Entry
entry_layout = record {
  is = IsReachEntry;
  text = entry_text;
  fault = λ entry at check. (inside : ℕ) × SubFault entry.subs inside check × (at ≡ 11 + inside);
}

-- the fields that sub-TLVs say, in order of their types: the first link identifiers, the first address of each end,
-- and all SIDs of the adjacency
abbrev pub link_fields : List (Field LinkSubs)
link_fields =
    first_of ids_sub (λ link. link.ids) ∷ first_of own_addr_sub (λ link. link.local)
    ∷ first_of neighbour_addr_sub (λ link. link.remote)
    ∷ all_of adj_sid_sub (λ link. link.adj) ∷ []

-- those of an entry
abbrev pub link_subs_of : Reach → LinkSubs
link_subs_of reach = record { ids = reach.ids; local = reach.local; remote = reach.remote; adj = reach.adj }

-- what an entry says
pub record SaysReach (entry : Entry) (reach : Reach) : Type 0 where
  pub neighbour : reach.neighbour ≡ entry.neighbour
  pub pseudonode : reach.pseudonode ≡ entry.pseudonode
  pub metric : reach.metric ≡ entry.metric
  pub subs : List Tlv
  pub are : AreSubs entry.subs subs
  pub say : SayFields link_fields subs (link_subs_of reach)

-- each entry says one part
abbrev pub SaysOne : Entry → List Part → Type 0
SaysOne entry own = (reach : Reach) × SaysReach entry reach × (own ≡ ReachPart reach ∷ [])

-- the octets of the sub-TLVs in which it is written
abbrev pub reach_subs : Reach → List ℕ
reach_subs reach = fields_text link_fields (link_subs_of reach)

-- a value with one entry
abbrev pub reach_value : Reach → List ℕ
reach_value reach = entry_text (record {
  neighbour = reach.neighbour;
  pseudonode = reach.pseudonode;
  metric = reach.metric;
  subs = reach_subs reach;
})

-- a metric of three octets, and sub-TLVs that have a spelling
pub record FitsReach (reach : Reach) : Type 0 where
  pub metric : reach.metric < 2 ^ 24
  pub link : FitFields link_fields (link_subs_of reach)

-- its numbers fit their octets, where being in range doesn't bound them already
pub record HasReachWidths (reach : Reach) : Type 0 where
  pub neighbour : FitsSixOctets reach.neighbour
  pub link : HaveWidths link_fields (link_subs_of reach)

-- the kind: a run of entries, a part each
abbrev pub reach_kind : Kind Part Reach
reach_kind = record {
  kind = EXTENDED_REACH;
  part = ReachPart;
  format = run_of entry_layout FieldExtent SaysOne;
  value = reach_value;
  fits = FitsReach;
  widths = HasReachWidths;
}
