-- Facts that say the same have the same net, but for the depth: of a PDU the net is made of what it says alone.
use Rattle.std.proofs.Common.{◌≡◌, ℕ, ◌≤◌, ◌==◌, Bool, ◌&&◌, List, [], ◌∷◌, length, map, refl, ap, sym, ◌∙◌, subst, subst₂, Option, Some, None, is_some, option_map}
use Rattle.std.specs.Prelude.{Contains}
use Rattle.std.specs.List.{filter_map, flat_map}
use Rattle.std.specs.List.Sorted.{IsPermutation}
use Rattle.std.specs.BTreeMap.{is_at}
use Rattle.std.proofs.lemmas.Map.Made.{lookup-map_values}
use Rattle.sr_model.specs.declared.limits.TheConstants.{MOST_DEPTH}
use Rattle.sr_model.specs.declared.link.TheConstants.{MOST_LINKS, MOST_NODES}
use Rattle.sr_model.specs.declared.name.PairKey.{PairKey}
use Rattle.sr_model.specs.declared.rule.DomainRule.{DomainRule}
use Rattle.sr_model.specs.declared.rule.DomainRule.TheVariants.{NoSrgb, SrgbBad, DuplicateIndex, IndexOutside, AdjLabelClash, ZeroMetric, DuplicateLink, TooManyNodes, TooManyLinks}
use Rattle.sr_model.specs.Key.{pair_of}
use Rattle.sr_model.specs.Graph.{link_at, groups_at}
use Rattle.sr_model.specs.Label.{Net}
use Rattle.sr_model.specs.Rule.{NoDuplicate, NoOutside, NoAdjClash, IsAccepted}
use Rattle.sr_lsp.specs.declared.lsp.LspId.{LspId}
use Rattle.sr_lsp.specs.declared.lsp.Lsp.{Lsp}
use Rattle.sr_lsp.specs.Said.{Said, said_by}
use Rattle.sr_lsdb.specs.declared.facts.Facts.{Facts}
use Rattle.sr_lsdb.specs.declared.facts.Stored.{Stored}
use Rattle.sr_lsdb.specs.Facts.{stored_under}
use Rattle.sr_lsdb.specs.Order.{id_cmp}
use Rattle.sr_lsdb.specs.Renewed.{said_of, all_said, SayTheSame}
use Rattle.sr_lsdb.specs.Tables.{stored_at}
use Rattle.sr_labels.specs.Depth.{with_depth}
use Rattle.sr_lsdb.specs.declared.announcement.Announcement.{Announcement}
use Rattle.sr_domain.specs.declared.links.FoundLink.{FoundLink}
use Rattle.sr_domain.specs.declared.risks.RiskNote.{RiskNote}
use Rattle.sr_domain.specs.Announced.{is_live, parts_of, first_id, is_present, counts, announced_in, announcements_of, two_way, two_way_of, AreKeysOf}
use Rattle.sr_domain.specs.Nodes.{node_by, nodes_of, own_parts, ranges_from, srgb_of, sid_from, labels_of, all_labels, has_overload, overload_in, has_overload_bit, overload_marks}
use Rattle.sr_domain.specs.Links.{link_by, links_of, adj_label_by, found_adj_labels, labelled}
use Rattle.sr_domain.specs.Groups.{notes_in, notes_of, AreGroupsOf, is_group_of}
use Rattle.sr_domain.specs.Rules.{HasZeroMetric, IsKeyRepeated, NoKey, Keeps}
use Rattle.sr_domain.specs.Net.{IsNetOf}

-- a PDU that says this, whose other fields are fixed
abbrev plain_lsp : Said → Lsp
plain_lsp said = record { lifetime = 0; id = first_id 0; sequence = 0; checksum = 0; flags = said.flags; parts = said.parts }

-- what is stored where this is said
abbrev plain_stored : Option Said → Stored
plain_stored said = record { sequence = 0; live = option_map plain_lsp said }

-- what is stored where this is said under each id
abbrev plain_entries : List (LspId × Option Said) → List (LspId × Stored)
plain_entries said = map (λ (entry : LspId × Option Said). (entry.0, plain_stored entry.1)) said

-- facts in which this is said, with the metrics and pairs of other facts, and the depth 0
abbrev plain_facts : List (LspId × Option Said) → Facts → Facts
plain_facts said facts = record { database = plain_entries said; costs = facts.costs; downs = facts.downs; depth = 0 }

-- facts reduced to what they say
abbrev plainly : Facts → Facts
plainly facts = plain_facts (all_said facts.database) facts

-- a database reduced to what it says
abbrev plain_database : List (LspId × Stored) → List (LspId × Stored)
plain_database entries = plain_entries (all_said entries)

-- a PDU reduced to what it says
abbrev plain_live : Option Lsp → Option Lsp
plain_live live = option_map plain_lsp (option_map said_by live)

live-plain : (live : Option Lsp) → is_some (plain_live live) ≡ is_some live
live-plain None = refl
live-plain (Some lsp) = refl

parts-plain : (live : Option Lsp) → parts_of (plain_live live) ≡ parts_of live
parts-plain None = refl
parts-plain (Some lsp) = refl

overload-plain : (live : Option Lsp) → has_overload (plain_live live) ≡ has_overload live
overload-plain None = refl
overload-plain (Some lsp) = refl

-- what stands under an id, reduced to what it says
abbrev plain_found : Option Stored → Option Stored
plain_found stored = option_map plain_stored (option_map said_of stored)

stored-plain : (entries : List (LspId × Stored)) (id : LspId) → stored_at (plain_database entries) id ≡ plain_found (stored_at entries id)
stored-plain entries id =
    lookup-map_values plain_stored (is_at (id_cmp id)) (all_said entries)
    ∙ ap (option_map plain_stored) (lookup-map_values said_of (is_at (id_cmp id)) entries)

found-live : (stored : Option Stored) → is_live (plain_found stored) ≡ is_live stored
found-live None = refl
found-live (Some stored) = live-plain stored.live

found-overload : (stored : Option Stored) → overload_in (plain_found stored) ≡ overload_in stored
found-overload None = refl
found-overload (Some stored) = overload-plain stored.live

present-plain : (facts : Facts) (node : ℕ) → is_present (plainly facts) node ≡ is_present facts node
present-plain facts node = ap is_live (stored-plain facts.database (first_id node)) ∙ found-live (stored_under facts (first_id node))

bit-plain : (facts : Facts) (node : ℕ) → has_overload_bit (plainly facts) node ≡ has_overload_bit facts node
bit-plain facts node = ap overload_in (stored-plain facts.database (first_id node)) ∙ found-overload (stored_under facts (first_id node))

counts-plain : (facts : Facts) (id : LspId) → counts (plainly facts) id ≡ counts facts id
counts-plain facts id = ap (λ (b : Bool). (id.pseudonode == 0) && b) (present-plain facts id.system)

announced-plain : (facts : Facts) (entries : List (LspId × Stored)) → announced_in (plainly facts) (plain_database entries) ≡ announced_in facts entries
announced-plain facts [] = refl
announced-plain facts (entry ∷ entries) =
    rw (counts-plain facts entry.0) (rw (parts-plain entry.1.live) (rw (announced-plain facts entries) refl))

notes-plain : (facts : Facts) (entries : List (LspId × Stored)) → notes_in (plainly facts) (plain_database entries) ≡ notes_in facts entries
notes-plain facts [] = refl
notes-plain facts (entry ∷ entries) =
    rw (counts-plain facts entry.0) (rw (parts-plain entry.1.live) (rw (notes-plain facts entries) refl))

nodes-plain : (entries : List (LspId × Stored)) → filter_map node_by (plain_database entries) ≡ filter_map node_by entries
nodes-plain [] = refl
nodes-plain (entry ∷ entries) = rw (live-plain entry.1.live) (rw (nodes-plain entries) refl)

own-plain : (node : ℕ) (entries : List (LspId × Stored)) → flat_map (own_parts node) (plain_database entries) ≡ flat_map (own_parts node) entries
own-plain node [] = refl
own-plain node (entry ∷ entries) = rw (parts-plain entry.1.live) (rw (own-plain node entries) refl)

ranges-plain : (node : ℕ) (entries : List (LspId × Stored)) → ranges_from node (plain_database entries) ≡ ranges_from node entries
ranges-plain node [] = refl
ranges-plain node (entry ∷ entries) = rw (parts-plain entry.1.live) (rw (ranges-plain node entries) refl)

sid-plain : (node : ℕ) (entries : List (LspId × Stored)) → sid_from node (plain_database entries) ≡ sid_from node entries
sid-plain node [] = refl
sid-plain node (entry ∷ entries) = rw (parts-plain entry.1.live) (rw (sid-plain node entries) refl)

-- two functions that agree give a list the same
map-same : {A B : Type 0} (f g : A → B) (xs : List A) → ((x : A) → f x ≡ g x) → map f xs ≡ map g xs
map-same f g [] same = refl
map-same f g (x ∷ xs) same = ap (λ y. y ∷ map f xs) (same x) ∙ ap (λ ys. g x ∷ ys) (map-same f g xs same)

labels-plain : (facts : Facts) (node : ℕ) → labels_of (plainly facts) node ≡ labels_of facts node
labels-plain facts node =
    rw (ranges-plain node facts.database) (rw (sid-plain node facts.database) (rw (own-plain node facts.database) refl))

module _ (facts : Facts) where
  two_way-plain : two_way_of (plainly facts) ≡ two_way_of facts
  two_way-plain = ap two_way (announced-plain facts facts.database)

  links-plain : links_of (plainly facts) ≡ links_of facts
  links-plain = ap (filter_map (link_by facts)) two_way-plain

  labelled-plain : all_labels (plainly facts) ≡ all_labels facts
  labelled-plain =
      map-same (labels_of (plainly facts)) (labels_of facts) (nodes_of (plainly facts)) (labels-plain facts)
      ∙ ap (map (labels_of facts)) (nodes-plain facts.database)

  marks-plain : overload_marks (plainly facts) ≡ overload_marks facts
  marks-plain =
      map-same (has_overload_bit (plainly facts)) (has_overload_bit facts) (nodes_of (plainly facts)) (bit-plain facts)
      ∙ ap (map (has_overload_bit facts)) (nodes-plain facts.database)

  adj-plain : found_adj_labels (plainly facts) ≡ found_adj_labels facts
  adj-plain =
      ap (λ (nodes : List ℕ). filter_map (adj_label_by nodes) (links_of (plainly facts))) (nodes-plain facts.database)
      ∙ ap (filter_map (adj_label_by (nodes_of facts))) links-plain

-- facts that say the same are one once they are reduced
plain-same : (one other : Facts) → SayTheSame one other → plainly one ≡ plainly other
plain-same one other same =
    ap (λ (said : List (LspId × Option Said)). plain_facts said one) same.database
    ∙ rw same.costs (rw same.downs refl)

module _ (one other : Facts) (same : SayTheSame one other) where
  -- what is read of facts as of the reduced ones is the same
  alike : {A : Type 0} (read : Facts → A) → ((facts : Facts) → read (plainly facts) ≡ read facts) → read one ≡ read other
  alike read plain = sym (plain one) ∙ ap read (plain-same one other same) ∙ plain other

  announcements-alike : announcements_of one ≡ announcements_of other
  announcements-alike = alike announcements_of (λ facts. announced-plain facts facts.database)

  notes-alike : notes_of one ≡ notes_of other
  notes-alike = alike notes_of (λ facts. notes-plain facts facts.database)

  nodes-alike : nodes_of one ≡ nodes_of other
  nodes-alike = alike nodes_of (λ facts. nodes-plain facts.database)

  srgb-alike : (node : ℕ) → srgb_of one node ≡ srgb_of other node
  srgb-alike node = alike (λ facts. srgb_of facts node) (λ facts. ranges-plain node facts.database)

  links-alike : links_of one ≡ links_of other
  links-alike = alike links_of links-plain

  labels-alike : all_labels one ≡ all_labels other
  labels-alike = alike all_labels labelled-plain

  adj-alike : found_adj_labels one ≡ found_adj_labels other
  adj-alike = alike found_adj_labels adj-plain

  -- the rules that the one keeps the other keeps
  keeps-alike : (rule : DomainRule) → Keeps one rule → Keeps other rule
  keeps-alike (NoSrgb v) keeps = λ node among lacks.
      keeps node (subst (λ (nodes : List ℕ). Contains nodes node) (sym nodes-alike) among) (srgb-alike node ∙ lacks)
  keeps-alike (SrgbBad v) keeps = λ node among bad.
      keeps node (subst (λ (nodes : List ℕ). Contains nodes node) (sym nodes-alike) among) (bad.0, srgb-alike node ∙ bad.1, bad.2)
  keeps-alike (DuplicateIndex i low high) keeps = subst NoDuplicate labels-alike keeps
  keeps-alike (IndexOutside i v) keeps = subst NoOutside labels-alike keeps
  keeps-alike (AdjLabelClash t v) keeps = subst₂ NoAdjClash labels-alike adj-alike keeps
  keeps-alike (ZeroMetric from to) keeps = subst (λ (links : List FoundLink). NoKey (HasZeroMetric links)) links-alike keeps
  keeps-alike (DuplicateLink from to) keeps = subst (λ (links : List FoundLink). NoKey (IsKeyRepeated links)) links-alike keeps
  keeps-alike (TooManyNodes n) keeps = subst (λ (nodes : List ℕ). length nodes ≤ MOST_NODES) nodes-alike keeps
  keeps-alike (TooManyLinks n) keeps = subst (λ (links : List FoundLink). length links ≤ MOST_LINKS) links-alike keeps

  groups-alike : (pair : PairKey) (groups : List ℕ) → AreGroupsOf one pair groups → AreGroupsOf other pair groups
  groups-alike pair groups are = record {
    ascending = are.ascending;
    each = λ group.
        are.each group
        ∙ ap (λ (announcements : List Announcement). is_group_of announcements (notes_of one) pair group) announcements-alike
        ∙ ap (λ (notes : List RiskNote). is_group_of (announcements_of other) notes pair group) notes-alike;
  }

-- a net is accepted with any depth that there may be
deeper-accepted : (depth : ℕ) (net : Net) → depth ≤ MOST_DEPTH → IsAccepted net → IsAccepted (with_depth depth net)
deeper-accepted depth net most is = record {
  graph = is.graph;
  named = is.named;
  grouped = is.grouped;
  nodes = is.nodes;
  links = is.links;
  ranges = is.ranges;
  rules = is.rules;
  announced = is.announced;
  depth = most;
}

-- facts that say the same have the same net, but for the depth
pub net-said : (one other : Facts) → SayTheSame one other → other.depth ≤ MOST_DEPTH → (net : Net) → IsNetOf one net → IsNetOf other (with_depth other.depth net)
net-said one other same most net is = record {
  kept = λ rule lt. keeps-alike one other same rule (is.kept rule lt);
  accepted = deeper-accepted other.depth net most is.accepted;
  systems = is.systems ∙ nodes-alike one other same;
  overloaded = is.overloaded ∙ alike one other same overload_marks marks-plain;
  labels = is.labels ∙ labels-alike one other same;
  links = subst (λ (found : List FoundLink). IsPermutation found (labelled net.graph.links net.adj)) (links-alike one other same) is.links;
  groups = λ l lt. groups-alike one other same (pair_of (link_at net.graph l).key) (groups_at net.graph l) (is.groups l lt);
  announced = subst (λ (announcements : List Announcement). AreKeysOf announcements net.announced) (alike one other same two_way_of two_way-plain) is.announced;
  depth = refl;
}
