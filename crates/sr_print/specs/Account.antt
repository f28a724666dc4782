-- The nodes and links of a net, and what isn't used of the facts that it comes from, as lines.
use Rattle.std.specs.Prelude.{ℕ, ◌+◌, ◌-◌, ◌/◌, ◌%◌, ◌^◌, ◌==◌, if◌then◌else◌, not, Bool, List, [], ◌∷◌, ◌++◌, Option, Some, None, bit_and, codes, count_by, decimal, length, position, slice_index_or}
use Rattle.std.specs.List.{flat_map, range_with_len}
use Rattle.std.specs.Net.Text.{dotted_text}
use Rattle.sr_model.specs.declared.label.Range.{Range}
use Rattle.sr_model.specs.declared.link.Link.{Link}
use Rattle.sr_model.specs.declared.name.Ident.{Ident}
use Rattle.sr_model.specs.declared.name.Ident.TheVariants as ident
use Rattle.sr_model.specs.declared.name.LinkKey.{LinkKey}
use Rattle.sr_model.specs.Case.{key_at}
use Rattle.sr_model.specs.Graph.{Graph, groups_at, is_overloaded, link_count, metric, node_count, system_at}
use Rattle.sr_model.specs.Key.{mirror}
use Rattle.sr_model.specs.KeyOrder.{same_key}
use Rattle.sr_model.specs.Label.{Labels, Net, adj_at, labels_at}
use Rattle.sr_model.specs.SystemText.{digit_text, system_text}
use Rattle.sr_wire.specs.declared.registry.TheConstants.{ADJ_SID_BACKUP, ADJ_SID_IPV6, ADJ_SID_LOCAL, ADJ_SID_PERSISTENT, ADJ_SID_SET, ADJ_SID_VALUE}
use Rattle.sr_subtlv.specs.declared.sid.Sid.{Sid}
use Rattle.sr_subtlv.specs.declared.sid.Sid.TheVariants.{Index, Label}
use Rattle.sr_lsp.specs.declared.lsp.LspId.{LspId}
use Rattle.sr_account.specs.declared.aside.Aside.{Aside}
use Rattle.sr_account.specs.declared.aside.Matter.{Matter}
use Rattle.sr_account.specs.declared.aside.Matter.TheVariants as matter
use Rattle.sr_account.specs.declared.aside.Place.{Place}
use Rattle.sr_account.specs.declared.aside.Reason.{Reason}
use Rattle.sr_account.specs.declared.aside.Reason.TheVariants as reason
use Rattle.sr_account.specs.declared.sources.LinkSource.{LinkSource}
use Rattle.sr_account.specs.Filling.{no_source}
use Rattle.sr_print.specs.Links.{link_word}
use Rattle.sr_print.specs.Printed.{ended, node_word, numbered, word}

-- a text with a number behind it, or with `none`
abbrev pub optional : List ℕ → Option ℕ → List ℕ
optional text None = text ++ codes "none"
optional text (Some number) = numbered text number

-- the letter of a flag, where it is set
abbrev pub letter_of : Bool × ℕ → List ℕ
letter_of flag = if flag.0 then flag.1 ∷ [] else []

-- the letter of each flag that is set, in this order
abbrev pub letters : List (Bool × ℕ) → List ℕ
letters flags = flat_map letter_of flags

-- letters, or `none` where there are none
abbrev pub letters_text : List ℕ → List ℕ
letters_text [] = codes "none"
letters_text (letter ∷ more) = letter ∷ more

-- the letters of the flags that are set, behind their name
unfoldable pub flags_text : List (Bool × ℕ) → List ℕ
flags_text flags = codes " flags " ++ letters_text (letters flags)

-- the flags of a node: P (80), its segment's label is kept up to the node; E (69), as explicit null; and O (79), the
-- node is overloaded
abbrev pub node_flags : Labels → Bool → List (Bool × ℕ)
node_flags labels overloaded = (labels.keep, 80) ∷ (labels.explicit, 69) ∷ (overloaded, 79) ∷ []

-- the first and the last label of a range
unfoldable pub label_range_text : Range → List ℕ
label_range_text range = decimal range.first ++ numbered (codes "-") (range.first + range.size - 1)

-- a range behind others
abbrev pub next_range : Range → List ℕ
next_range range = codes "," ++ label_range_text range

-- ranges, with commas between them
abbrev pub ranges_text : List Range → List ℕ
ranges_text [] = []
ranges_text (range ∷ more) = label_range_text range ++ flat_map next_range more

-- the label ranges of a node
abbrev pub srgb_text : List Range → List ℕ
srgb_text ranges = codes " srgb " ++ ranges_text ranges

-- what a node announces: its index, its flags, its label ranges, and how many labels it can impose
unfoldable pub announced_text : Labels → Bool → List ℕ
announced_text labels overloaded =
    optional (codes " index ") labels.index ++ flags_text (node_flags labels overloaded)
    ++ srgb_text labels.srgb ++ optional (codes " msd ") labels.imposes

-- how many links begin at node v
abbrev pub links_at : Graph → ℕ → ℕ
links_at g v = count_by (λ (link : Link). link.from.0 == v) g.links

-- node v
unfoldable pub node_line : Net → ℕ → List ℕ
node_line n v =
    ended (codes "node" ++ node_word (system_at n.graph v) ++ announced_text (labels_at n v) (is_overloaded n.graph v)
    ++ numbered (codes " links ") (links_at n.graph v))

-- the first m nodes in order
abbrev pub node_lines : Net → ℕ → List ℕ
node_lines n m = flat_map (node_line n) (range_with_len 0 m)

-- all nodes, and how many there are
abbrev pub nodes_text : Net → List ℕ
nodes_text n = node_lines n (node_count n.graph) ++ ended (numbered (codes "nodes ") (node_count n.graph))

-- the link of this key, where there is one
abbrev pub link_with : Graph → LinkKey → Option ℕ
link_with g key = position (λ (link : Link). same_key link.key key) g.links

-- the opposite of link l, where it is in use
unfoldable pub back_of : Graph → ℕ → Option ℕ
back_of g l = link_with g (mirror (key_at g l))

-- the opposite link, or `none`
abbrev pub back_text : Net → Option ℕ → List ℕ
back_text n None = codes " back none"
back_text n (Some l) = codes " back" ++ link_word n l

-- the flags of an adjacency SID: F (70), B (66), V (86), L (76), S (83) and P (80) (RFC 8667, 2.2.1)
abbrev pub sid_flags : ℕ → List (Bool × ℕ)
sid_flags flags =
    (not (bit_and flags ADJ_SID_IPV6 == 0), 70) ∷ (not (bit_and flags ADJ_SID_BACKUP == 0), 66)
    ∷ (not (bit_and flags ADJ_SID_VALUE == 0), 86) ∷ (not (bit_and flags ADJ_SID_LOCAL == 0), 76)
    ∷ (not (bit_and flags ADJ_SID_SET == 0), 83) ∷ (not (bit_and flags ADJ_SID_PERSISTENT == 0), 80) ∷ []

-- those of the SID that gives an adjacency label, where there is one
abbrev pub source_flags : Option ℕ → List (Bool × ℕ)
source_flags None = []
source_flags (Some flags) = sid_flags flags

-- the metric of link l and the one that is announced, its label, and the flags of that
unfoldable pub source_text : Net → ℕ → LinkSource → List ℕ
source_text n l source =
    numbered (codes " metric ") (metric n.graph l) ++ numbered (codes " announced ") source.metric
    ++ optional (codes " label ") (adj_at n l) ++ flags_text (source_flags source.flags)

-- an IPv4 address: four decimal numbers with dots between them
unfoldable pub address_text : ℕ → List ℕ
address_text address =
    dotted_text (address / 2 ^ 24) (address / 2 ^ 16 % 256) (address / 2 ^ 8 % 256) (address % 256)

-- an IPv4 address as one more word
abbrev pub address_word : ℕ → List ℕ
address_word address = word (address_text address)

-- what tells a link from others between its nodes
unfoldable pub ident_text : Ident → List ℕ
ident_text ident.None = codes " ident none"
ident_text (ident.Addr local remote) = codes " ident addr" ++ address_word local ++ address_word remote
ident_text (ident.Link local remote) = numbered (codes " ident ids ") local ++ word (decimal remote)

-- a shared-risk group as one more word
abbrev pub group_word : ℕ → List ℕ
group_word group = word (decimal group)

-- shared-risk groups, or that there are none
abbrev pub groups_text : List ℕ → List ℕ
groups_text [] = codes " groups none"
groups_text (group ∷ more) = codes " groups" ++ flat_map group_word (group ∷ more)

-- link l, and what is announced of it
unfoldable pub link_line : Net → ℕ → LinkSource → List ℕ
link_line n l source =
    ended (codes "link" ++ link_word n l ++ back_text n (back_of n.graph l) ++ source_text n l source
    ++ ident_text (key_at n.graph l).ident ++ groups_text (groups_at n.graph l))

-- the first m links in order
abbrev pub link_lines : Net → List LinkSource → ℕ → List ℕ
link_lines n sources m = flat_map (λ l. link_line n l (slice_index_or sources l no_source)) (range_with_len 0 m)

-- all links, and how many there are
abbrev pub links_text : Net → List LinkSource → List ℕ
links_text n sources =
    link_lines n sources (link_count n.graph) ++ ended (numbered (codes "links ") (link_count n.graph))

-- an octet: two hexadecimal digits
abbrev pub octet_text : ℕ → List ℕ
octet_text octet = digit_text octet 4 ∷ digit_text octet 0 ∷ []

-- a system or one of its pseudonodes: the system id, and the number of the pseudonode
unfoldable pub neighbour_text : ℕ → ℕ → List ℕ
neighbour_text system pseudonode = system_text system ++ codes "." ++ octet_text pseudonode

-- the name of an LSP
unfoldable pub lsp_name_text : LspId → List ℕ
lsp_name_text id = neighbour_text id.system id.pseudonode ++ codes "-" ++ octet_text id.fragment

-- the number of a SID among those of its part, counted from 1; nothing where the part itself is told
abbrev pub sid_number : Option ℕ → List ℕ
sid_number None = []
sid_number (Some k) = numbered (codes " sid ") (k + 1)

-- where something is announced: the name of the LSP, the number of the part, counted from 1, and that of the SID
unfoldable pub place_text : Place → List ℕ
place_text place =
    codes "aside " ++ lsp_name_text place.id ++ numbered (codes " part ") (place.part + 1) ++ sid_number place.sid

-- an index or a label
abbrev pub sid_value_text : Sid → List ℕ
sid_value_text (Index index) = numbered (codes " index ") index
sid_value_text (Label label) = numbered (codes " label ") label

-- an IPv4 prefix
abbrev pub ipv4_prefix_text : ℕ → ℕ → List ℕ
ipv4_prefix_text prefix bits = codes " prefix " ++ address_text prefix ++ numbered (codes "/") bits

-- what is announced there
unfoldable pub matter_text : Matter → List ℕ
matter_text (matter.Reach neighbour pseudonode) = codes " reach " ++ neighbour_text neighbour pseudonode
matter_text (matter.Prefix prefix bits) = ipv4_prefix_text prefix bits
matter_text matter.Name = codes " name"
matter_text (matter.Risk neighbour pseudonode) = codes " risk " ++ neighbour_text neighbour pseudonode
matter_text (matter.Capability router) = codes " capability " ++ address_text router
matter_text (matter.AdjSid sid) = codes " adjsid" ++ sid_value_text sid
matter_text (matter.PrefixSid sid) = codes " prefixsid" ++ sid_value_text sid

-- why it isn't used
abbrev pub reason_name : Reason → List ℕ
reason_name reason.Lan = codes "lan"
reason_name reason.Absent = codes "absent"
reason_name reason.Pseudonode = codes "pseudonode"
reason_name reason.Itself = codes "self"
reason_name reason.NeighbourAbsent = codes "neighbour"
reason_name reason.OneWay = codes "oneway"
reason_name reason.Identity = codes "identity"
reason_name reason.MaximumMetric = codes "maxmetric"
reason_name reason.Down = codes "down"
reason_name reason.NotHost = codes "length"
reason_name reason.NoSid = codes "nosid"
reason_name reason.Silent = codes "silent"
reason_name reason.Algorithm = codes "algorithm"
reason_name reason.WrongForm = codes "form"
reason_name reason.Flags = codes "flags"
reason_name reason.Backup = codes "backup"
reason_name reason.NotLeast = codes "notleast"
reason_name reason.NotFirst = codes "notfirst"
reason_name reason.NoneUsed = codes "noneused"
reason_name reason.NoGroups = codes "nogroups"
reason_name reason.NoLink = codes "nolink"
reason_name reason.LinkUnused = codes "unused"
reason_name reason.HostName = codes "hostname"

-- something that isn't used, and why
unfoldable pub aside_line : Aside → List ℕ
aside_line aside = ended (place_text aside.place ++ matter_text aside.matter ++ word (reason_name aside.reason))

-- how much isn't used
abbrev pub aside_count_line : ℕ → List ℕ
aside_count_line count = ended (numbered (codes "asides ") count)

-- all that isn't used, and how much that is
abbrev pub asides_text : List Aside → List ℕ
asides_text asides = flat_map aside_line asides ++ aside_count_line (length asides)
