-- What the layouts of the TLVs say, field by field, without tables.
use Rattle.std.specs.Prelude.{◌≡◌, ℕ, ◌≤◌, ◌==◌, List, [], ◌∷◌, ◌++◌, Option, MatchBool, bit_and, drop, length, map, nat_le, not, replicate, unwrap_or}
use Rattle.byteorder.specs.Endian.{big_number}
use Rattle.sr_wire.specs.declared.registry.TheConstants.{ADDRESS_BITS, ADJ_SID, LINK_IDS, NEIGHBOUR_ADDR, NODE_MSD, OWN_ADDR, PREFIX_DOWN, PREFIX_SID, SR_CAPABILITIES}
use Rattle.sr_wire.specs.Octets.{number, octet}
use Rattle.sr_wire.specs.Run.{IsRun}
use Rattle.sr_wire.specs.Sub.{AllSay, AreSubs, FirstSays}
use Rattle.sr_wire.specs.Tlv.{Tlv}
use Rattle.sr_subtlv.specs.declared.adj_sid.AdjSid.{AdjSid}
use Rattle.sr_subtlv.specs.declared.link_ids.LinkIds.{LinkIds}
use Rattle.sr_subtlv.specs.declared.msd.Msd.{Msd}
use Rattle.sr_subtlv.specs.declared.prefix_sid.PrefixSid.{PrefixSid}
use Rattle.sr_subtlv.specs.declared.sr_cap.SrCap.{SrCap}
use Rattle.sr_subtlv.specs.Addr.{IsAddr}
use Rattle.sr_subtlv.specs.AdjSid.{IsAdjSid}
use Rattle.sr_subtlv.specs.LinkIds.{AreIds}
use Rattle.sr_subtlv.specs.Msd.{AreMsds}
use Rattle.sr_subtlv.specs.PrefixSid.{IsPrefixSid}
use Rattle.sr_subtlv.specs.SrCap.{IsSrCap}
use Rattle.sr_lsp.specs.declared.capability.Capability.{Capability}
use Rattle.sr_lsp.specs.declared.prefix.Prefix.{Prefix}
use Rattle.sr_lsp.specs.declared.reach.Reach.{Reach}
use Rattle.sr_lsp.specs.declared.risk.Risk.{Risk}
use Rattle.sr_lsp.specs.declared.table.Part.{Part}
use Rattle.sr_lsp.specs.declared.table.Part.TheVariants.{Reach as ReachPart, Prefix as PrefixPart, Risk as RiskPart, Capability as CapabilityPart}
use Rattle.sr_lsp.specs.Prefix.{PrefixEntry, bits_of, prefix_layout}
use Rattle.sr_lsp.specs.Reach.{Entry, entry_layout}
use Rattle.sr_lsp.specs.Risk.{SaysRisk}

-- what the sub-TLVs of an entry of extended IS reachability say: the link identifiers, the addresses of both ends,
-- and the SIDs of the adjacency
pub record SaysLink (octets : List ℕ) (ids : Option LinkIds) (local remote : Option ℕ)
    (adj : List AdjSid) : Type 0 where
  pub subs : List Tlv
  pub text : AreSubs octets subs
  pub first_ids : FirstSays LINK_IDS AreIds subs ids
  pub first_local : FirstSays OWN_ADDR IsAddr subs local
  pub first_remote : FirstSays NEIGHBOUR_ADDR IsAddr subs remote
  pub all_adj : AllSay ADJ_SID IsAdjSid subs adj

-- what an entry of TLV 22 says
pub record SaysNeighbour (entry : Entry) (reach : Reach) : Type 0 where
  pub neighbour : reach.neighbour ≡ entry.neighbour
  pub pseudonode : reach.pseudonode ≡ entry.pseudonode
  pub metric : reach.metric ≡ entry.metric
  pub link : SaysLink entry.subs reach.ids reach.local reach.remote reach.adj

-- each entry says a value
abbrev pub SayNeighbours : List Entry → List Reach → Type 0
SayNeighbours [] reaches = reaches ≡ []
SayNeighbours (entry ∷ entries) [] = ⊥
SayNeighbours (entry ∷ entries) (r ∷ rs) = SaysNeighbour entry r × SayNeighbours entries rs

-- extended IS reachability says a part for each of its entries
pub record SaysAllReaches (value : List ℕ) (says : List Part) : Type 0 where
  pub entries : List Entry
  pub reaches : List Reach
  pub run : IsRun entry_layout value entries
  pub say : SayNeighbours entries reaches
  pub parts : says ≡ map ReachPart reaches

-- what the sub-TLVs of an entry of TLV 135 say: the SIDs of the prefix
pub record SaysSids (octets : List ℕ) (sids : List PrefixSid) : Type 0 where
  pub subs : List Tlv
  pub text : AreSubs octets subs
  pub all_sids : AllSay PREFIX_SID IsPrefixSid subs sids

-- what an entry of TLV 135 says whose prefix has at most 32 bits: octets of the prefix that aren't there are 0
pub record SaysAddress (entry : PrefixEntry) (prefix : Prefix) : Type 0 where
  pub metric : prefix.metric ≡ entry.metric
  pub down : prefix.down ≡ not (bit_and entry.control PREFIX_DOWN == 0)
  pub length : prefix.length ≡ bits_of entry
  pub address : prefix.prefix ≡ big_number 4 (entry.prefix ++ replicate 4 0)
  pub sids : SaysSids entry.subs prefix.sids

-- an entry with a longer prefix says nothing
abbrev pub SaysAtMost32 : PrefixEntry → List Prefix → Type 0
SaysAtMost32 entry own =
    MatchBool (nat_le (bits_of entry) ADDRESS_BITS)
    ((prefix : Prefix) × SaysAddress entry prefix × (own ≡ prefix ∷ []))
    (own ≡ [])

-- what the entries say, in order of place
abbrev pub SaysPrefixes : List PrefixEntry → List Prefix → Type 0
SaysPrefixes [] prefixes = prefixes ≡ []
SaysPrefixes (entry ∷ entries) prefixes =
    (own : List Prefix) × (more : List Prefix) × SaysAtMost32 entry own × SaysPrefixes entries more
    × (prefixes ≡ own ++ more)

-- extended IP reachability says a part for each of its entries whose prefix has at most 32 bits
pub record SaysAllPrefixes (value : List ℕ) (says : List Part) : Type 0 where
  pub entries : List PrefixEntry
  pub prefixes : List Prefix
  pub run : IsRun prefix_layout value entries
  pub say : SaysPrefixes entries prefixes
  pub parts : says ≡ map PrefixPart prefixes

-- what the sub-TLVs of TLV 242 say: the label ranges, and the depths
pub record SaysNode (octets : List ℕ) (srgb : Option SrCap) (msd : Option (List Msd)) : Type 0 where
  pub subs : List Tlv
  pub text : AreSubs octets subs
  pub first_srgb : FirstSays SR_CAPABILITIES IsSrCap subs srgb
  pub first_msd : FirstSays NODE_MSD AreMsds subs msd

-- four octets of router id, flags, and sub-TLVs; no depths where none are said
pub record SaysRouter (value : List ℕ) (capability : Capability) : Type 0 where
  pub whole : 5 ≤ length value
  pub depths : Option (List Msd)
  pub router : capability.router ≡ number value 0 4
  pub flags : capability.flags ≡ octet value 4
  pub node : SaysNode (drop 5 value) capability.srgb depths
  pub msd : capability.msd ≡ unwrap_or depths []

-- shared-risk link groups say one part
abbrev pub SaysOneRisk : List ℕ → List Part → Type 0
SaysOneRisk value parts = (risk : Risk) × SaysRisk value risk × (parts ≡ RiskPart risk ∷ [])

-- so does the router capability
abbrev pub SaysOneRouter : List ℕ → List Part → Type 0
SaysOneRouter value parts =
    (capability : Capability) × SaysRouter value capability × (parts ≡ CapabilityPart capability ∷ [])
