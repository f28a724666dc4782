-- The links of a domain: two-way announcements with their effective metrics, and the adjacency labels with the nodes
-- that give them (this project's rules).
use Rattle.std.specs.Prelude.{◌≡◌, ◌≢◌, Contains, ℕ, ◌+◌, ◌<◌, length, slice_index_or, Bool, not, ◌==◌, ◌&&◌, if◌then◌else◌, List, [], ◌∷◌, Option, Some, None}
use Rattle.std.specs.List.{filter_map}
use Rattle.std.specs.Option.{unwrap_or, option_map}
use Rattle.std.specs.declared.cmp.Ordering.TheVariants.{Less}
use Rattle.sr_model.specs.declared.name.LinkKey.{LinkKey}
use Rattle.sr_model.specs.declared.label.AdjLabel.{AdjLabel}
use Rattle.sr_model.specs.declared.link.Link.{Link}
use Rattle.sr_model.specs.Key.{pair_of}
use Rattle.sr_model.specs.KeyOrder.{key_cmp}
use Rattle.sr_wire.specs.declared.registry.TheConstants.{MAXIMUM_METRIC}
use Rattle.sr_lsdb.specs.declared.facts.Facts.{Facts}
use Rattle.sr_lsdb.specs.Tables.{metric_at, is_down}
use Rattle.sr_lsdb.specs.declared.announcement.Announcement.{Announcement}
use Rattle.sr_domain.specs.declared.links.FoundLink.{FoundLink}
use Rattle.sr_domain.specs.Announced.{two_way_of}
use Rattle.sr_domain.specs.Nodes.{nodes_of}

-- the effective metric: the one that is set for the key, otherwise the announced one
abbrev pub effective_metric : Facts → Announcement → ℕ
effective_metric facts announcement = unwrap_or (metric_at facts.costs announcement.key) announcement.metric

-- neither the maximum metric (RFC 5305, 3: it isn't considered in the computation) nor a pair that is down
abbrev pub is_in_use : Facts → Announcement → Bool
is_in_use facts announcement =
    not (effective_metric facts announcement == MAXIMUM_METRIC)
    && not (is_down facts.downs (pair_of announcement.key))

-- the link of an announcement
abbrev pub link_of : Facts → Announcement → FoundLink
link_of facts announcement = record {
  key = announcement.key;
  metric = effective_metric facts announcement;
  label = announcement.label;
}

-- the same where it is in use
abbrev pub link_by : Facts → Announcement → Option FoundLink
link_by facts announcement = if is_in_use facts announcement then Some (link_of facts announcement) else None

-- the links, with repeats, in the order of their announcements
abbrev pub links_of : Facts → List FoundLink
links_of facts = filter_map (link_by facts) (two_way_of facts)

-- the place of a node in a list: how many stand before it
abbrev pub place_in : List ℕ → ℕ → ℕ
place_in [] node = 0
place_in (first ∷ nodes) node = if first == node then 0 else place_in nodes node + 1

-- the adjacency label of a link, with the place of the node at which it begins
abbrev pub adj_label_by : List ℕ → FoundLink → Option AdjLabel
adj_label_by nodes link =
    option_map (λ (label : ℕ). record { node = place_in nodes link.key.from; label = label }) link.label

-- the adjacency labels of the links, with repeats
abbrev pub found_adj_labels : Facts → List AdjLabel
found_adj_labels facts = filter_map (adj_label_by (nodes_of facts)) (links_of facts)

-- links of a graph, each with its adjacency label
abbrev pub labelled : List Link → List (Option ℕ) → List FoundLink
labelled [] labels = []
labelled (link ∷ links) [] = []
labelled (link ∷ links) (label ∷ labels) =
    record { key = link.key; metric = link.metric; label = label } ∷ labelled links labels

-- the key of a link
abbrev pub link_key : FoundLink → LinkKey
link_key link = link.key

-- the key of each link is below that of the next
abbrev pub KeysAscend : List FoundLink → Type 0
KeysAscend links =
    (k : ℕ) (d : FoundLink) → k + 1 < length links
    → key_cmp (slice_index_or links k d).key (slice_index_or links (k + 1) d).key ≡ Less

-- the adjacency label of a link
abbrev pub link_label : FoundLink → Option ℕ
link_label link = link.label

-- the link's ends are two of these nodes
abbrev pub JoinsNodes : List ℕ → FoundLink → Type 0
JoinsNodes nodes link = Contains nodes link.key.from × Contains nodes link.key.to × (link.key.from ≢ link.key.to)
