-- What is at hand while the account is taken: the items in order, what is told of them, what is looked up beforehand,
-- and what a node chose.
use Rattle.std.specs.Prelude.{◌≡◌, ℕ, ◌+◌, ◌<◌, ◌≤◌, ◌⊎◌, Bool, true, false, ◌==◌, if◌then◌else◌, List, [], ◌∷◌, ◌++◌, map, filter, Option, Some, None, is_some, slice_get, nat_lt, IfSome, MatchOption}
use Rattle.std.specs.Option.{option_map, option_or, option_to_list}
use Rattle.std.specs.List.{filter_map, list_any}
use Rattle.std.specs.List.Sorted.{IsPermutation, IsSorted, IsStrictlySortedBy}
use Rattle.std.specs.Map.{keys_of}
use Rattle.std.specs.declared.cmp.Ordering.{Ordering}
use Rattle.sr_model.specs.declared.name.PairKey.{PairKey}
use Rattle.sr_model.specs.Key.{mirror, pair_of}
use Rattle.sr_wire.specs.declared.registry.TheConstants.{ADDRESS_BITS, MAXIMUM_METRIC}
use Rattle.sr_subtlv.specs.declared.adj_sid.AdjSid.{AdjSid}
use Rattle.sr_subtlv.specs.declared.prefix_sid.PrefixSid.{PrefixSid}
use Rattle.sr_lsp.specs.declared.lsp.LspId.{LspId}
use Rattle.sr_lsp.specs.declared.reach.Reach.{Reach}
use Rattle.sr_lsp.specs.declared.prefix.Prefix.{Prefix}
use Rattle.sr_lsp.specs.declared.table.Part.{Part}
use Rattle.sr_lsp.specs.declared.table.Part.TheVariants as part
use Rattle.sr_lsdb.specs.declared.facts.Stored.{Stored}
use Rattle.sr_lsdb.specs.declared.facts.Facts.{Facts}
use Rattle.sr_lsdb.specs.Order.{id_cmp}
use Rattle.sr_lsdb.specs.Tables.{is_down}
use Rattle.sr_lsdb.specs.declared.announcement.Announcement.{Announcement}
use Rattle.sr_domain.specs.declared.links.FoundLink.{FoundLink}
use Rattle.sr_domain.specs.declared.nodes.NodeSid.{NodeSid}
use Rattle.sr_domain.specs.declared.risks.RiskName.{RiskName}
use Rattle.sr_domain.specs.Announced.{AreKeysOf, announcements_of, is_announced, is_present, parts_of}
use Rattle.sr_domain.specs.Groups.{name_cmp, numbered_name, same_pair, unnumbered_name}
use Rattle.sr_domain.specs.Links.{effective_metric, links_of}
use Rattle.sr_domain.specs.Nodes.{imposition_by, is_own, node_sid_by, ranges_in}
use Rattle.sr_account.specs.declared.aside.Place.{Place}
use Rattle.sr_account.specs.declared.aside.Matter.{Matter}
use Rattle.sr_account.specs.declared.aside.Aside.{Aside}
use Rattle.sr_account.specs.declared.aside.Reason.{Reason}
use Rattle.sr_account.specs.declared.aside.Reason.TheVariants.{NeighbourAbsent, OneWay, Identity, MaximumMetric, Down, NotLeast, NotFirst}
use Rattle.sr_account.specs.declared.asides.Account.{Account}
use Rattle.sr_account.specs.declared.choice.Choice.{Choice}
use Rattle.sr_account.specs.declared.choice.Memo.{Memo}
use Rattle.sr_account.specs.declared.choice.Offer.{Offer}
use Rattle.sr_account.specs.declared.choice.OwnPart.{OwnPart}
use Rattle.sr_account.specs.declared.choice.Saying.{Saying}
use Rattle.sr_account.specs.declared.choice.Saying.TheVariants.{Ranges, Imposition}
use Rattle.sr_account.specs.declared.choice.Standing.{Standing}
use Rattle.sr_account.specs.declared.choice.Standing.TheVariants.{SetAside, Own}
use Rattle.sr_account.specs.declared.survey.Ends.{Ends}
use Rattle.sr_account.specs.declared.survey.Survey.{Survey}
use Rattle.sr_account.specs.contracts.survey.EndsOrd.TheImpl as ends_order
use Rattle.sr_account.specs.Items.{Item, PartPlace, IsPartAt}
use Rattle.sr_account.specs.Items.Item.{OfPart, OfAdj, OfPrefix}
use Rattle.sr_account.specs.Reasons.{AdjFails, AnnouncesLink, GivesLabel, IsFirstReason, IsUnhindered, LspFails, PrefixSidFails, reason_rank}
use Rattle.sr_account.specs.Asides.{aside_of}

-- none of these reasons holds
abbrev pub NoReason : (Reason → Type 0) → Type 0
NoReason Fails = (reason : Reason) → Fails reason → ⊥

-- the reason holds, and none before it does
pub record IsFirstOf (Fails : Reason → Type 0) (reason : Reason) : Type 0 where
  pub holds : Fails reason
  pub first : (earlier : Reason) → reason_rank earlier < reason_rank reason → Fails earlier → ⊥

-- the first reason that holds, or none where none does
abbrev pub IsFoundReason : (Reason → Type 0) → Option Reason → Type 0
IsFoundReason Fails reason = MatchOption reason (NoReason Fails) (IsFirstOf Fails)

-- what the elements give, counted from a place on, in their order
abbrev pub each_from : {X Y : Type 0} → (ℕ → X → List Y) → ℕ → List X → List Y
each_from give place [] = []
each_from give place (x ∷ xs) = give place x ++ each_from give (place + 1) xs

-- the part at this place of the LSP
abbrev pub at_part : LspId → ℕ → PartPlace
at_part id place = record { id = id; part = place }

-- the item that an adjacency SID is
abbrev pub adj_item : PartPlace → Reach → ℕ → AdjSid → List Item
adj_item place reach k sid = OfAdj place reach k sid ∷ []

-- the item that a Prefix-SID is
abbrev pub prefix_item : PartPlace → Prefix → ℕ → PrefixSid → List Item
prefix_item place prefix k sid = OfPrefix place prefix k sid ∷ []

-- the SIDs of a part, in their order
abbrev pub sid_items : PartPlace → Part → List Item
sid_items place (part.Reach reach) = each_from (adj_item place reach) 0 reach.adj
sid_items place (part.Prefix prefix) = each_from (prefix_item place prefix) 0 prefix.sids
sid_items place _ = []

-- a part of the LSP and its SIDs
abbrev pub part_items : LspId → ℕ → Part → List Item
part_items id place said = OfPart (at_part id place) said ∷ sid_items (at_part id place) said

-- the items of an LSP
abbrev pub entry_items : (LspId × Stored) → List Item
entry_items entry = each_from (part_items entry.0) 0 (parts_of entry.1.live)

-- the items of these LSPs, in their order
abbrev pub items_of_entries : List (LspId × Stored) → List Item
items_of_entries [] = []
items_of_entries (entry ∷ entries) = entry_items entry ++ items_of_entries entries

-- in the order of the items the first reason that holds is told of each, and nothing of those of which none does
abbrev pub AreTold : Facts → List Item → List Aside → Type 0
AreTold facts [] asides = asides ≡ []
AreTold facts (item ∷ items) asides =
    (IsUnhindered facts item × AreTold facts items asides)
    ⊎ ((reason : Reason) × (rest : List Aside) × IsFirstReason facts item reason
    × (asides ≡ aside_of item reason ∷ rest)
    × AreTold facts items rest)

-- what is told of the items was appended
pub record AddsTold (facts : Facts) (items : List Item) (old new : List Aside) : Type 0 where
  pub told : List Aside
  pub are : AreTold facts items told
  pub appended : new ≡ old ++ told

-- what is told with the reason that there may be
abbrev pub asides_for : Place → Matter → Option Reason → List Aside
asides_for place matter None = []
asides_for place matter (Some reason) = record { place = place; matter = matter; reason = reason } ∷ []

-- from which node to which the announcement is
abbrev pub ends_of : Announcement → Ends
ends_of a = record { from = a.key.from; to = a.key.to }

-- the order of ends
abbrev pub ends_cmp : Ends → Ends → Ordering
ends_cmp = ends_order.cmp-value.it

-- the pair of a link
abbrev pub link_pair : FoundLink → PairKey
link_pair link = pair_of link.key

-- some link in use is of the bidirectional link of the announcement
abbrev pub has_link : Facts → Announcement → Bool
has_link facts a = list_any (same_pair (pair_of a.key)) (map link_pair (links_of facts))

-- the names by which risks may speak of an announcement
abbrev pub names_by : Announcement → List RiskName
names_by a = option_to_list (numbered_name a) ++ option_to_list (unnumbered_name a)

-- those of these announcements
abbrev pub names_in : List Announcement → List RiskName
names_in [] = []
names_in (a ∷ announcements) = names_by a ++ names_in announcements

-- the same elements, in order
pub record AreSortedFrom {T : Type 0} (cmp : T → T → Ordering) (said sorted : List T) : Type 0 where
  pub same : IsPermutation said sorted
  pub order : IsSorted cmp sorted

-- what is looked up: the keys of the announcements, the ends between which they are, the names by which risks may speak
-- of them, and the names of those whose bidirectional link is in use
pub record IsSurvey (facts : Facts) (survey : Survey) : Type 0 where
  pub order : IsStrictlySortedBy id_cmp (keys_of facts.database)
  pub keys : AreKeysOf (announcements_of facts) survey.keys.items
  pub ends : AreSortedFrom ends_cmp (map ends_of (announcements_of facts)) survey.ends.items
  pub names : AreSortedFrom name_cmp (names_in (announcements_of facts)) survey.names.items
  pub used : AreSortedFrom name_cmp (names_in (filter (has_link facts) (announcements_of facts))) survey.used.items

-- an announcement gives no link
abbrev pub AnnouncementFails : Facts → Announcement → Reason → Type 0
AnnouncementFails facts a NeighbourAbsent = is_present facts a.key.to ≡ false
AnnouncementFails facts a OneWay = AnnouncesLink facts a.key.to a.key.from → ⊥
AnnouncementFails facts a Identity = is_announced (announcements_of facts) (mirror a.key) ≡ false
AnnouncementFails facts a MaximumMetric = effective_metric facts a ≡ MAXIMUM_METRIC
AnnouncementFails facts a Down = is_down facts.downs (pair_of a.key) ≡ true
AnnouncementFails facts a _ = ⊥

-- one of these SIDs gives the label, with the flag B as asked
abbrev pub GivesOne : List AdjSid → Bool → ℕ → Type 0
GivesOne sids backup label = (j : ℕ) × (other : AdjSid) × (slice_get sids j ≡ Some other)
    × GivesLabel backup other label

-- a SID before place k gives the same label as this one, with the flag B as asked
abbrev pub IsRepeatedSid : List AdjSid → ℕ → AdjSid → Bool → Type 0
IsRepeatedSid sids k sid backup =
    (label : ℕ) × GivesLabel backup sid label
    × (j : ℕ) × (other : AdjSid) × (j < k) × (slice_get sids j ≡ Some other) × GivesLabel backup other label

-- the reason of an entry is that of its SIDs; where it has none, the SID's own is
abbrev pub IsAdjReason : Option Reason → List AdjSid → ℕ → AdjSid → Option Reason → Type 0
IsAdjReason None sids k sid reason = IsFoundReason (AdjFails sids k sid) reason
IsAdjReason (Some entry) sids k sid reason = reason ≡ Some entry

-- the items of the node's own LSPs
abbrev pub own_items : Facts → ℕ → List Item
own_items facts node = items_of_entries (filter (λ (entry : LspId × Stored). is_own node entry.0) facts.database)

-- the index that the Prefix-SID at this place of its node's own LSPs can give the node
abbrev pub index_offer : ℕ → ℕ → ℕ → PrefixSid → Option Offer
index_offer fragment place k sid =
    option_map (λ (given : NodeSid). record { index = given.index; fragment = fragment; part = place; sid = k })
    (node_sid_by sid)

-- the index that an item can give its node
abbrev pub offer_of : Item → Option Offer
offer_of (OfPart place said) = None
offer_of (OfAdj place reach k sid) = None
offer_of (OfPrefix place prefix k sid) =
    if prefix.length == ADDRESS_BITS then index_offer place.id.fragment place.part k sid else None

-- the one of the lesser index, and of equal ones the first
abbrev pub lesser_offer : Option Offer → Option Offer → Option Offer
lesser_offer None second = second
lesser_offer (Some first) None = Some first
lesser_offer (Some first) (Some second) = if nat_lt second.index first.index then Some second else Some first

-- the least of what was found and of what these items offer, and of equal ones the first
abbrev pub least_offer : Option Offer → List Item → Option Offer
least_offer found [] = found
least_offer found (item ∷ items) = least_offer (lesser_offer found (offer_of item)) items

-- the part says label ranges, or how many labels can be imposed
abbrev pub says : Saying → Part → Bool
says Ranges said = is_some (ranges_in said)
says Imposition (part.Capability capability) = is_some (slice_get (filter_map imposition_by capability.msd) 0)
says Imposition _ = false

-- the part at this place of an LSP of the node's own
abbrev pub own_part : LspId → ℕ → OwnPart
own_part id place = record { fragment = id.fragment; part = place }

-- the place of a part that says so
abbrev pub saying_place : Saying → Item → Option OwnPart
saying_place saying (OfPart place said) =
    if says saying said then Some (own_part place.id place.part) else None
saying_place saying (OfAdj place reach k sid) = None
saying_place saying (OfPrefix place prefix k sid) = None

-- the place of the first part that says so
abbrev pub first_saying : Saying → List Item → Option OwnPart
first_saying saying [] = None
first_saying saying (item ∷ items) = option_or (saying_place saying item) (first_saying saying items)

-- what the own LSPs of the node choose: the first least index that a Prefix-SID can give it, the first part that says
-- label ranges, and the first that says how many labels can be imposed
pub record IsChoice (facts : Facts) (node : ℕ) (choice : Choice) : Type 0 where
  pub offer : choice.offer ≡ least_offer None (own_items facts node)
  pub ranges : choice.ranges ≡ first_saying Ranges (own_items facts node)
  pub imposition : choice.imposition ≡ first_saying Imposition (own_items facts node)

-- what the account of these facts goes by: what is looked up in them, and what the node of the last LSP chose
pub record IsReady (facts : Facts) (account : Account) : Type 0 where
  pub survey : IsSurvey facts account.survey
  pub last : IfSome account.last (λ (memo : Memo). IsChoice facts memo.node memo.choice)

-- nothing of the LSP is used, for the first reason that holds of it; or it is its node's own, with what that chose
abbrev pub IsStanding : Facts → LspId → Standing → Type 0
IsStanding facts id (SetAside reason) = IsFirstOf (LspFails facts id) reason
IsStanding facts id (Own choice) = NoReason (LspFails facts id) × IsChoice facts id.system choice

-- the part stands in a live LSP of its node's own, which chose so; the database is in order
pub record IsOwnPart (facts : Facts) (choice : Choice) (place : PartPlace) (said : Part) : Type 0 where
  pub order : IsStrictlySortedBy id_cmp (keys_of facts.database)
  pub chosen : IsChoice facts place.id.system choice
  pub real : place.id.pseudonode ≡ 0
  pub at : IsPartAt facts place said

-- the part stands in a live LSP of this standing
abbrev pub PartStands : Facts → Standing → PartPlace → Part → Type 0
PartStands facts (SetAside reason) place said = IsFirstOf (LspFails facts place.id) reason
PartStands facts (Own choice) place said = NoReason (LspFails facts place.id) × IsOwnPart facts choice place said

-- the offer is at this place
abbrev pub IsOfferAt : Offer → PartPlace → ℕ → Type 0
IsOfferAt offer place k = (offer.fragment ≡ place.id.fragment) × (offer.part ≡ place.part) × (offer.sid ≡ k)

-- a reason why a SID that offers this index at this place isn't the one that its node chose
abbrev pub IsOtherOffer : Offer → PartPlace → ℕ → ℕ → Option Reason → Type 0
IsOtherOffer offer place k index None = (index ≤ offer.index) × IsOfferAt offer place k
IsOtherOffer offer place k index (Some reason) =
    ((offer.index < index) × (reason ≡ NotLeast))
    ⊎ ((index ≤ offer.index) × (IsOfferAt offer place k → ⊥) × (reason ≡ NotFirst))

-- such a reason, by what the node chose
abbrev pub IsOfferReason : Option Offer → PartPlace → ℕ → ℕ → Option Reason → Type 0
IsOfferReason None place k index reason = reason ≡ None
IsOfferReason (Some offer) place k index reason = IsOtherOffer offer place k index reason

-- whether some SID of the prefix gives the node its index: no reason holds of it
abbrev pub IsAnyUsed : Facts → PartPlace → Prefix → Bool → Type 0
IsAnyUsed facts place prefix true =
    (k : ℕ) × (sid : PrefixSid) × (slice_get prefix.sids k ≡ Some sid)
    × NoReason (PrefixSidFails facts place prefix k sid)
IsAnyUsed facts place prefix false =
    (k : ℕ) (sid : PrefixSid) → slice_get prefix.sids k ≡ Some sid
    → (reason : Reason) × PrefixSidFails facts place prefix k sid reason
