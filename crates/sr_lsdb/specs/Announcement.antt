-- What a PDU announces of its node's links: what tells a link apart, and the label of the adjacency (this project's
-- rules).
use Rattle.std.specs.Prelude.{ℕ, Bool, true, false, not, ◌==◌, ◌&&◌, if◌then◌else◌, List, [], ◌∷◌, Option, Some, None, bit_and, bit_or, min}
use Rattle.std.specs.List.{filter_map}
use Rattle.std.specs.Option.{option_or}
use Rattle.sr_model.specs.declared.name.Ident.{Ident}
use Rattle.sr_model.specs.declared.name.Ident.TheVariants.{None as NoIdent, Addr, Link}
use Rattle.sr_wire.specs.declared.registry.TheConstants.{ADJ_SID_BACKUP, ADJ_SID_IPV6, ADJ_SID_SET}
use Rattle.sr_subtlv.specs.declared.sid.Sid.{Sid}
use Rattle.sr_subtlv.specs.declared.sid.Sid.TheVariants.{Index, Label}
use Rattle.sr_subtlv.specs.declared.adj_sid.AdjSid.{AdjSid}
use Rattle.sr_subtlv.specs.declared.link_ids.LinkIds.{LinkIds}
use Rattle.sr_lsp.specs.declared.lsp.Lsp.{Lsp}
use Rattle.sr_lsp.specs.declared.reach.Reach.{Reach as ReachPart}
use Rattle.sr_lsp.specs.declared.table.Part.{Part}
use Rattle.sr_lsp.specs.declared.table.Part.TheVariants.{Reach}
use Rattle.sr_lsdb.specs.declared.announcement.Announcement.{Announcement}

-- the identity by link identifiers (RFC 5307, 1.1): they count where the remote one isn't 0
abbrev pub ident_by_ids : Option LinkIds → Ident
ident_by_ids None = NoIdent
ident_by_ids (Some ids) = if ids.remote == 0 then NoIdent else Link ids.local ids.remote

-- the identity by the addresses of both ends (sub-TLVs 6 and 8 of RFC 5305, 3.2 and 3.3), and where one is missing by
-- the link identifiers
abbrev pub ident_by : Option ℕ → Option ℕ → Option LinkIds → Ident
ident_by None remote ids = ident_by_ids ids
ident_by (Some local) None ids = ident_by_ids ids
ident_by (Some local) (Some remote) ids = Addr local remote

-- the identity of an announcement
abbrev pub ident_of : ReachPart → Ident
ident_of reach = ident_by reach.local reach.remote reach.ids

-- the flags F and S of an Adj-SID are clear: it is for IPv4, and for one adjacency (RFC 8667, 2.2.1)
abbrev pub is_for_one : ℕ → Bool
is_for_one flags = bit_and flags (bit_or ADJ_SID_IPV6 ADJ_SID_SET) == 0

-- the flag B of an Adj-SID is set or clear as asked (RFC 8667, 2.2.1)
abbrev pub is_backup_as : Bool → ℕ → Bool
is_backup_as backup flags = bit_and flags ADJ_SID_BACKUP == (if backup then ADJ_SID_BACKUP else 0)

-- the label of a SID whose flags F and S are clear, and whose flag B is as asked
abbrev pub label_in : Bool → ℕ → Sid → Option ℕ
label_in backup flags (Index index) = None
label_in backup flags (Label label) = if is_for_one flags && is_backup_as backup flags then Some label else None

-- the label of an Adj-SID, for IPv4 and one adjacency (RFC 8667, 2.2.1)
abbrev pub adj_sid_label : Bool → AdjSid → Option ℕ
adj_sid_label backup sid = label_in backup sid.flags sid.sid

-- the labels of these Adj-SIDs
abbrev pub adj_sid_labels : Bool → List AdjSid → List ℕ
adj_sid_labels backup sids = filter_map (adj_sid_label backup) sids

-- the lesser of a number that there may be and a number
abbrev pub lesser : Option ℕ → ℕ → Option ℕ
lesser None number = Some number
lesser (Some other) number = Some (min other number)

-- the least of these numbers
abbrev pub least : List ℕ → Option ℕ
least [] = None
least (number ∷ numbers) = lesser (least numbers) number

-- the adjacency label: the least without the flag B, and where there is none the least with it
abbrev pub adj_label : List AdjSid → Option ℕ
adj_label sids = option_or (least (adj_sid_labels false sids)) (least (adj_sid_labels true sids))

-- what a node announces of a link
abbrev pub announcement_of : ℕ → ReachPart → Announcement
announcement_of node reach = record {
  key = record { from = node; to = reach.neighbour; ident = ident_of reach };
  metric = reach.metric;
  label = adj_label reach.adj;
  ids = reach.ids;
}

-- an announcement of a pseudonode or of oneself is set aside
abbrev pub announced_by : ℕ → Part → Option Announcement
announced_by node (Reach reach) =
    if (reach.pseudonode == 0) && not (reach.neighbour == node) then Some (announcement_of node reach) else None
announced_by node _ = None

-- what a PDU announces of the links of its node, in order of place
abbrev pub announcements_in : Lsp → List Announcement
announcements_in lsp = filter_map (announced_by lsp.id.system) lsp.parts
