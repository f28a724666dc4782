-- Links with their ends by number.
use Rattle.std.specs.Prelude.{◌≡◌, ℕ, ◌<◌, List, length, slice_index, slice_index_or}
use Rattle.sr_model.specs.declared.link.Link.{Link}
use Rattle.sr_model.specs.Key.{KeyLt}
use Rattle.sr_model.specs.Graph.{no_link}
use Rattle.sr_graph.specs.declared.draft.DraftLink.{DraftLink}

-- the system id stands at place n
pub record IsNodeNumber (systems : List ℕ) (n system : ℕ) : Type 0 where
  pub within : n < length systems
  pub there : slice_index systems n ≡ system

-- the link is the drafted one, its ends by their places among the nodes
pub record IsNumbered (systems : List ℕ) (drafted : DraftLink) (link : Link) : Type 0 where
  pub key : link.key ≡ drafted.key
  pub metric : link.metric ≡ drafted.metric
  pub from : IsNodeNumber systems link.from.0 drafted.key.from
  pub to : IsNodeNumber systems link.to.0 drafted.key.to

-- each key is below those of all later links
abbrev pub AscendByKey : List Link → Type 0
AscendByKey links =
    (k l : ℕ) → k < l → l < length links
    → KeyLt (slice_index_or links k no_link).key (slice_index_or links l no_link).key
