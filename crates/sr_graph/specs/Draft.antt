-- What a graph may be built from, and what is refused.
use Rattle.std.specs.Prelude.{◌≡◌, ◌≢◌, ℕ, ◌+◌, ◌<◌, ◌≤◌, ◌⊎◌, List, length, All, Contains, count_by}
use Rattle.std.specs.List.Sorted.{IsStrictlyIncreasing, IsSortedByKey}
use Rattle.sr_model.specs.declared.link.TheConstants.{MOST_LINKS, MOST_METRIC, MOST_NODES}
use Rattle.sr_model.specs.declared.name.LinkKey.{LinkKey}
use Rattle.sr_model.specs.Key.{IsSamePair}
use Rattle.sr_model.specs.KeyOrder.{key_cmp, same_key}
use Rattle.sr_graph.specs.declared.draft.DraftLink.{DraftLink}
use Rattle.sr_graph.specs.declared.draft.Draft.{Draft}
use Rattle.sr_graph.specs.declared.fault.GraphFault.{GraphFault}
use Rattle.sr_graph.specs.declared.fault.GraphFault.TheVariants.{ZeroMetric, DuplicateLink, TooManyNodes, TooManyLinks, Memory}

-- both ends are among the nodes, and they differ
abbrev pub HasEnds : List ℕ → DraftLink → Type 0
HasEnds nodes link = Contains nodes link.key.from × Contains nodes link.key.to × (link.key.from ≢ link.key.to)

-- nodes ascend; links join two of them, are in use (RFC 5305, 3: none in use has the maximum metric), and list
-- their groups ascending, the same for both links of a pair
pub record IsDraft (draft : Draft) : Type 0 where
  pub nodes : IsStrictlyIncreasing draft.nodes
  pub ends : All (HasEnds draft.nodes) draft.links
  pub metrics : All (λ (link : DraftLink). link.metric < MOST_METRIC + 1) draft.links
  pub groups : All (λ (link : DraftLink). IsStrictlyIncreasing link.groups) draft.links
  pub pairs : (a b : DraftLink) → Contains draft.links a → Contains draft.links b → IsSamePair a.key b.key
      → a.groups ≡ b.groups

-- the name of a link
abbrev pub key_of : DraftLink → LinkKey
key_of link = link.key

-- a link of this key has the metric 0
abbrev pub HasZero : List DraftLink → LinkKey → Type 0
HasZero links key = (link : DraftLink) × Contains links link × (link.key ≡ key) × (link.metric ≡ 0)

-- two links or more have this key
abbrev pub IsTwice : List DraftLink → LinkKey → Type 0
IsTwice links key = 2 ≤ count_by (λ (link : DraftLink). same_key key link.key) links

-- by the beginning, then by the end
abbrev pub EndsLe : LinkKey → LinkKey → Type 0
EndsLe a b = (a.from < b.from) ⊎ ((a.from ≡ b.from) × (a.to ≤ b.to))

-- the fact holds of the key, and of none with lesser ends
pub record IsLeastKey (P : LinkKey → Type 0) (key : LinkKey) : Type 0 where
  pub holds : P key
  pub least : (other : LinkKey) → P other → EndsLe key other

-- these are the least ends of a key of which the fact holds
pub record AreLeast (P : LinkKey → Type 0) (from to : ℕ) : Type 0 where
  pub key : LinkKey
  pub begins : key.from ≡ from
  pub ends : key.to ≡ to
  pub is : IsLeastKey P key

-- no link has the metric 0
abbrev pub NoZero : List DraftLink → Type 0
NoZero links = (key : LinkKey) → HasZero links key → ⊥

-- no two links have one key
abbrev pub NoneTwice : List DraftLink → Type 0
NoneTwice links = (key : LinkKey) → IsTwice links key → ⊥

-- why the nodes and links are refused, where no earlier reason holds; memory may run out at any time
abbrev pub IsRefusal : List ℕ → List DraftLink → GraphFault → Type 0
IsRefusal nodes links (ZeroMetric from to) = AreLeast (HasZero links) from to
IsRefusal nodes links (DuplicateLink from to) = NoZero links × AreLeast (IsTwice links) from to
IsRefusal nodes links (TooManyNodes count) =
    NoZero links × NoneTwice links × (MOST_NODES < count) × (count ≡ length nodes)
IsRefusal nodes links (TooManyLinks count) =
    NoZero links × NoneTwice links × (length nodes ≤ MOST_NODES) × (MOST_LINKS < count) × (count ≡ length links)
IsRefusal nodes links (Memory fault) = Unit {0}

-- no reason to refuse them
pub record IsAcceptedDraft (nodes : List ℕ) (links : List DraftLink) : Type 0 where
  pub metrics : NoZero links
  pub keys : NoneTwice links
  pub few_nodes : length nodes ≤ MOST_NODES
  pub few_links : length links ≤ MOST_LINKS

-- in order of key
abbrev pub AreSorted : List DraftLink → Type 0
AreSorted links = IsSortedByKey key_of key_cmp links
