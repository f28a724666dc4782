-- Why something that is announced isn't used (this project's rules). Each reason is a condition of its own; what is
-- told of an item is the first that holds.
use Rattle.std.specs.Prelude.{◌≡◌, ◌≢◌, ℕ, ◌<◌, ◌⊎◌, Bool, true, false, ◌||◌, List, [], Some, is_some, slice_get, Contains}
use Rattle.std.specs.List.{filter_map}
use Rattle.sr_model.specs.declared.name.LinkKey.{LinkKey}
use Rattle.sr_model.specs.Key.{mirror, pair_of}
use Rattle.sr_wire.specs.declared.registry.TheConstants.{ADDRESS_BITS, MAXIMUM_METRIC}
use Rattle.sr_subtlv.specs.declared.sid.Sid.TheVariants.{Index, Label}
use Rattle.sr_subtlv.specs.declared.adj_sid.AdjSid.{AdjSid}
use Rattle.sr_subtlv.specs.declared.prefix_sid.PrefixSid.{PrefixSid}
use Rattle.sr_lsp.specs.declared.lsp.LspId.{LspId}
use Rattle.sr_lsp.specs.declared.reach.Reach.{Reach}
use Rattle.sr_lsp.specs.declared.prefix.Prefix.{Prefix}
use Rattle.sr_lsp.specs.declared.risk.Risk.{Risk}
use Rattle.sr_lsp.specs.declared.capability.Capability.{Capability}
use Rattle.sr_lsp.specs.declared.table.Part.{Part}
use Rattle.sr_lsp.specs.declared.table.Part.TheVariants as part
use Rattle.sr_lsdb.specs.declared.facts.Facts.{Facts}
use Rattle.sr_lsdb.specs.Tables.{is_down}
use Rattle.sr_lsdb.specs.declared.announcement.Announcement.{Announcement}
use Rattle.sr_domain.specs.declared.links.FoundLink.{FoundLink}
use Rattle.sr_domain.specs.declared.nodes.NodeSid.{NodeSid}
use Rattle.sr_lsdb.specs.Announcement.{adj_label, adj_sid_label, adj_sid_labels, announcement_of, is_backup_as, is_for_one, least}
use Rattle.sr_domain.specs.Announced.{announcements_of, is_announced, is_present}
use Rattle.sr_domain.specs.Nodes.{imposition_by, is_of_node, node_sid_by, ranges_in}
use Rattle.sr_domain.specs.Links.{effective_metric, links_of}
use Rattle.sr_domain.specs.Groups.{is_name, name_of, numbered_name, unnumbered_name}
use Rattle.sr_account.specs.declared.aside.Reason.{Reason}
use Rattle.sr_account.specs.declared.aside.Reason.TheVariants.{Lan, Absent, Pseudonode, Itself, NeighbourAbsent, OneWay, Identity, MaximumMetric, Down, NotHost, NoSid, Silent, Algorithm, WrongForm, Flags, Backup, NotLeast, NotFirst, NoneUsed, NoGroups, NoLink, LinkUnused, HostName}
use Rattle.sr_account.specs.Items.{Item, PartPlace, IsPartAt, PlaceBefore, part_place, sid_place}
use Rattle.sr_account.specs.Items.Item.{OfPart, OfAdj, OfPrefix}

-- how many reasons come before
abbrev pub reason_rank : Reason → ℕ
reason_rank Lan = 0
reason_rank Absent = 1
reason_rank Pseudonode = 2
reason_rank Itself = 3
reason_rank NeighbourAbsent = 4
reason_rank OneWay = 5
reason_rank Identity = 6
reason_rank MaximumMetric = 7
reason_rank Down = 8
reason_rank NotHost = 9
reason_rank NoSid = 10
reason_rank Silent = 11
reason_rank Algorithm = 12
reason_rank WrongForm = 13
reason_rank Flags = 14
reason_rank Backup = 15
reason_rank NotLeast = 16
reason_rank NotFirst = 17
reason_rank NoneUsed = 18
reason_rank NoGroups = 19
reason_rank NoLink = 20
reason_rank LinkUnused = 21
reason_rank HostName = 22

-- nothing of the LSP is used: it is a pseudonode's, or its system isn't present
abbrev pub LspFails : Facts → LspId → Reason → Type 0
LspFails facts id Lan = id.pseudonode ≢ 0
LspFails facts id Absent = is_present facts id.system ≡ false
LspFails facts id _ = ⊥

-- some announcement of a present node is of a link from the first node to the second
abbrev pub AnnouncesLink : Facts → ℕ → ℕ → Type 0
AnnouncesLink facts from to =
    (a : Announcement) × Contains (announcements_of facts) a × (a.key.from ≡ from) × (a.key.to ≡ to)

-- the key under which the node announces the link of the entry
abbrev pub entry_key : ℕ → Reach → LinkKey
entry_key node reach = (announcement_of node reach).key

-- an entry of extended IS reachability of the node gives no link
abbrev pub ReachFails : Facts → ℕ → Reach → Reason → Type 0
ReachFails facts node reach Pseudonode = reach.pseudonode ≢ 0
ReachFails facts node reach Itself = reach.neighbour ≡ node
ReachFails facts node reach NeighbourAbsent = is_present facts reach.neighbour ≡ false
ReachFails facts node reach OneWay = AnnouncesLink facts reach.neighbour node → ⊥
ReachFails facts node reach Identity = is_announced (announcements_of facts) (mirror (entry_key node reach)) ≡ false
ReachFails facts node reach MaximumMetric = effective_metric facts (announcement_of node reach) ≡ MAXIMUM_METRIC
ReachFails facts node reach Down = is_down facts.downs (pair_of (entry_key node reach)) ≡ true
ReachFails facts node reach _ = ⊥

-- the SID gives this label, and its flag B is as asked
abbrev pub GivesLabel : Bool → AdjSid → ℕ → Type 0
GivesLabel backup sid label = adj_sid_label backup sid ≡ Some label

-- an adjacency SID, at place k of those of its entry, doesn't give the adjacency label
abbrev pub AdjFails : List AdjSid → ℕ → AdjSid → Reason → Type 0
AdjFails sids k sid WrongForm = (index : ℕ) × (sid.sid ≡ Index index)
AdjFails sids k sid Flags = is_for_one sid.flags ≡ false
AdjFails sids k sid Backup =
    (is_backup_as true sid.flags ≡ true) × (is_some (least (adj_sid_labels false sids)) ≡ true)
AdjFails sids k sid NotLeast = (label : ℕ) × (sid.sid ≡ Label label) × (adj_label sids ≢ Some label)
AdjFails sids k sid NotFirst =
    (backup : Bool) × (label : ℕ) × GivesLabel backup sid label
    × (j : ℕ) × (other : AdjSid) × (j < k) × (slice_get sids j ≡ Some other) × GivesLabel backup other label
AdjFails sids k sid _ = ⊥

-- the SID at this place is one that can give the node its index: it stands at a prefix of a single address in an LSP of
-- the node itself, it is for algorithm 0 and for the node, and has this index
pub record IsCandidate (facts : Facts) (node : ℕ) (place : PartPlace) (k index : ℕ) : Type 0 where
  pub own : place.id.system ≡ node
  pub real : place.id.pseudonode ≡ 0
  pub prefix : Prefix
  pub at : IsPartAt facts place (part.Prefix prefix)
  pub host : prefix.length ≡ ADDRESS_BITS
  pub sid : PrefixSid
  pub among : slice_get prefix.sids k ≡ Some sid
  pub gives : (given : NodeSid) × (node_sid_by sid ≡ Some given) × (given.index ≡ index)

-- a Prefix-SID, at place k of those of the prefix at this place, doesn't give the node's index
abbrev pub PrefixSidFails : Facts → PartPlace → Prefix → ℕ → PrefixSid → Reason → Type 0
PrefixSidFails facts place prefix k sid NotHost = prefix.length ≢ ADDRESS_BITS
PrefixSidFails facts place prefix k sid Algorithm = sid.algorithm ≢ 0
PrefixSidFails facts place prefix k sid WrongForm = (label : ℕ) × (sid.sid ≡ Label label)
PrefixSidFails facts place prefix k sid Flags = is_of_node sid.flags ≡ false
PrefixSidFails facts place prefix k sid NotLeast =
    (index : ℕ) × (sid.sid ≡ Index index)
    × (other : PartPlace) × (j lesser : ℕ) × IsCandidate facts place.id.system other j lesser × (lesser < index)
PrefixSidFails facts place prefix k sid NotFirst =
    (index : ℕ) × (sid.sid ≡ Index index)
    × (other : PartPlace) × (j : ℕ) × IsCandidate facts place.id.system other j index
    × PlaceBefore (sid_place other j) (sid_place place k)
PrefixSidFails facts place prefix k sid _ = ⊥

-- an entry of extended IP reachability at this place gives the node no index
abbrev pub PrefixFails : Facts → PartPlace → Prefix → Reason → Type 0
PrefixFails facts place prefix NotHost = prefix.length ≢ ADDRESS_BITS
PrefixFails facts place prefix NoSid = prefix.sids ≡ []
PrefixFails facts place prefix NoneUsed =
    (k : ℕ) (sid : PrefixSid) → slice_get prefix.sids k ≡ Some sid
    → (reason : Reason) × PrefixSidFails facts place prefix k sid reason
PrefixFails facts place prefix _ = ⊥

-- the shared-risk part of the node names the announcement, by its addresses or by its identifiers
abbrev pub NamesLink : ℕ → Risk → Announcement → Type 0
NamesLink node risk a =
    (is_name (name_of node risk) (numbered_name a) || is_name (name_of node risk) (unnumbered_name a)) ≡ true

-- some link in use is of the bidirectional link of the announcement
abbrev pub IsPairUsed : Facts → Announcement → Type 0
IsPairUsed facts a = (link : FoundLink) × Contains (links_of facts) link × (pair_of link.key ≡ pair_of a.key)

-- a shared-risk part of the node gives no link a group
abbrev pub RiskFails : Facts → ℕ → Risk → Reason → Type 0
RiskFails facts node risk Pseudonode = risk.pseudonode ≢ 0
RiskFails facts node risk NoGroups = risk.groups ≡ []
RiskFails facts node risk NoLink =
    (a : Announcement) → Contains (announcements_of facts) a → NamesLink node risk a → ⊥
RiskFails facts node risk LinkUnused =
    (a : Announcement) → Contains (announcements_of facts) a → NamesLink node risk a → IsPairUsed facts a → ⊥
RiskFails facts node risk _ = ⊥

-- the part says label ranges
abbrev pub SaysRanges : Part → Type 0
SaysRanges said = is_some (ranges_in said) ≡ true

-- the part says how many labels can be imposed
abbrev pub SaysImposition : Part → Type 0
SaysImposition (part.Capability capability) = filter_map imposition_by capability.msd ≢ []
SaysImposition said = ⊥

-- an earlier part of the same node's own live LSPs does so too
abbrev pub IsSaidBefore : (Part → Type 0) → Facts → PartPlace → Type 0
IsSaidBefore says facts place =
    (other : PartPlace) × (said : Part) × (other.id.system ≡ place.id.system) × (other.id.pseudonode ≡ 0)
    × IsPartAt facts other said × says said × PlaceBefore (part_place other) (part_place place)

-- a router capability at this place tells of the node neither its label ranges nor how many labels it can impose
abbrev pub CapabilityFails : Facts → PartPlace → Capability → Reason → Type 0
CapabilityFails facts place capability Silent =
    (SaysRanges (part.Capability capability) → ⊥) × (SaysImposition (part.Capability capability) → ⊥)
CapabilityFails facts place capability NotFirst =
    (SaysRanges (part.Capability capability) → IsSaidBefore SaysRanges facts place)
    × (SaysImposition (part.Capability capability) → IsSaidBefore SaysImposition facts place)
CapabilityFails facts place capability _ = ⊥

-- no tool of this program uses the names of routers
abbrev pub NameFails : Reason → Type 0
NameFails HostName = Unit {0}
NameFails _ = ⊥

-- the reason holds of the part as such
abbrev pub PartFails : Facts → PartPlace → Part → Reason → Type 0
PartFails facts place (part.Reach reach) reason = ReachFails facts place.id.system reach reason
PartFails facts place (part.Prefix prefix) reason = PrefixFails facts place prefix reason
PartFails facts place (part.Name name) reason = NameFails reason
PartFails facts place (part.Risk risk) reason = RiskFails facts place.id.system risk reason
PartFails facts place (part.Capability capability) reason = CapabilityFails facts place capability reason

-- the reason holds of the item: of its LSP, of its entry where it is a SID, or of itself
abbrev pub HoldsFor : Facts → Item → Reason → Type 0
HoldsFor facts (OfPart place said) reason = LspFails facts place.id reason ⊎ PartFails facts place said reason
HoldsFor facts (OfAdj place reach k sid) reason =
    LspFails facts place.id reason ⊎ ReachFails facts place.id.system reach reason ⊎ AdjFails reach.adj k sid reason
HoldsFor facts (OfPrefix place prefix k sid) reason =
    LspFails facts place.id reason ⊎ PrefixSidFails facts place prefix k sid reason

-- no reason holds of the item
abbrev pub IsUnhindered : Facts → Item → Type 0
IsUnhindered facts item = (reason : Reason) → HoldsFor facts item reason → ⊥

-- the reason holds of the item, and none before it does
pub record IsFirstReason (facts : Facts) (item : Item) (reason : Reason) : Type 0 where
  pub holds : HoldsFor facts item reason
  pub first : (earlier : Reason) → reason_rank earlier < reason_rank reason → HoldsFor facts item earlier → ⊥
