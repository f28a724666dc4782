-- The rules of the profile on the facts of a domain, in their order, and what is said of the first that is broken
-- (this project's rules).
use Rattle.std.specs.Prelude.{◌≡◌, ℕ, ◌<◌, ◌≤◌, List, length, Some, None, Contains, count_by, slice_get}
use Rattle.sr_model.specs.declared.label.Range.{Range}
use Rattle.sr_model.specs.declared.name.LinkKey.{LinkKey}
use Rattle.sr_model.specs.declared.rule.DomainRule.{DomainRule}
use Rattle.sr_model.specs.declared.rule.DomainRule.TheVariants.{NoSrgb, SrgbBad, DuplicateIndex, IndexOutside, AdjLabelClash, ZeroMetric, DuplicateLink, TooManyNodes, TooManyLinks}
use Rattle.sr_model.specs.KeyOrder.{same_key}
use Rattle.sr_model.specs.Label.{IsSrgb}
use Rattle.sr_model.specs.Rule.{IsLeastDuplicate, IsLeastOutside, IsLeastClash, NoDuplicate, NoOutside, NoAdjClash}
use Rattle.sr_graph.specs.Draft.{AreLeast}
use Rattle.sr_lsdb.specs.declared.facts.Facts.{Facts}
use Rattle.sr_model.specs.declared.link.TheConstants.{MOST_LINKS, MOST_NODES}
use Rattle.sr_domain.specs.declared.links.FoundLink.{FoundLink}
use Rattle.sr_domain.specs.declared.fault.DomainFault.{DomainFault}
use Rattle.sr_domain.specs.declared.fault.DomainFault.TheVariants.{Rule, Memory}
use Rattle.sr_domain.specs.Nodes.{nodes_of, srgb_of, all_labels}
use Rattle.sr_domain.specs.Links.{links_of, found_adj_labels}

-- of these nodes the least of which the fact holds
pub record IsLeastNode (nodes : List ℕ) (P : ℕ → Type 0) (node : ℕ) : Type 0 where
  pub among : Contains nodes node
  pub holds : P node
  pub least : (other : ℕ) → Contains nodes other → P other → node ≤ other

-- the fact holds of none of these nodes
abbrev pub HoldsNowhere : List ℕ → (ℕ → Type 0) → Type 0
HoldsNowhere nodes P = (node : ℕ) → Contains nodes node → P node → ⊥

-- the node announces no SR-Capabilities
abbrev pub LacksSrgb : Facts → ℕ → Type 0
LacksSrgb facts node = srgb_of facts node ≡ None

-- the label ranges that the node announces are no SRGB
abbrev pub HasBadSrgb : Facts → ℕ → Type 0
HasBadSrgb facts node = (ranges : List Range) × (srgb_of facts node ≡ Some ranges) × (IsSrgb ranges → ⊥)

-- a link of this key has the effective metric 0
abbrev pub HasZeroMetric : List FoundLink → LinkKey → Type 0
HasZeroMetric links key = (link : FoundLink) × Contains links link × (link.key ≡ key) × (link.metric ≡ 0)

-- two links or more have this key
abbrev pub IsKeyRepeated : List FoundLink → LinkKey → Type 0
IsKeyRepeated links key = 2 ≤ count_by (λ (link : FoundLink). same_key key link.key) links

-- the fact holds of no key
abbrev pub NoKey : (LinkKey → Type 0) → Type 0
NoKey P = (key : LinkKey) → P key → ⊥

-- the present node at this place, counted from 0 in order of system id
abbrev pub IsNodeAt : Facts → ℕ → ℕ → Type 0
IsNodeAt facts place node = slice_get (nodes_of facts) place ≡ Some node

-- the least index of two nodes, with the two least nodes that announce it
pub record IsSharedIndex (facts : Facts) (index low high : ℕ) : Type 0 where
  pub low_place : ℕ
  pub high_place : ℕ
  pub least : IsLeastDuplicate (all_labels facts) index low_place high_place
  pub low_is : IsNodeAt facts low_place low
  pub high_is : IsNodeAt facts high_place high

-- the least index of some node that lies outside the ranges of a node, with the least such node
pub record IsOutsideIndex (facts : Facts) (index node : ℕ) : Type 0 where
  pub place : ℕ
  pub least : IsLeastOutside (all_labels facts) index place
  pub node_is : IsNodeAt facts place node

-- the least node with an adjacency label that is reserved, in its ranges or of two of its links, with the least such
-- label
pub record IsClashingLabel (facts : Facts) (label node : ℕ) : Type 0 where
  pub place : ℕ
  pub least : IsLeastClash (all_labels facts) (found_adj_labels facts) (record { node = place; label = label })
  pub node_is : IsNodeAt facts place node

-- the rule is broken, and these are the least that break it
abbrev pub IsRuleBroken : Facts → DomainRule → Type 0
IsRuleBroken facts (NoSrgb node) = IsLeastNode (nodes_of facts) (LacksSrgb facts) node
IsRuleBroken facts (SrgbBad node) = IsLeastNode (nodes_of facts) (HasBadSrgb facts) node
IsRuleBroken facts (DuplicateIndex index low high) = IsSharedIndex facts index low high
IsRuleBroken facts (IndexOutside index node) = IsOutsideIndex facts index node
IsRuleBroken facts (AdjLabelClash label node) = IsClashingLabel facts label node
IsRuleBroken facts (ZeroMetric from to) = AreLeast (HasZeroMetric (links_of facts)) from to
IsRuleBroken facts (DuplicateLink from to) = AreLeast (IsKeyRepeated (links_of facts)) from to
IsRuleBroken facts (TooManyNodes count) = (MOST_NODES < count) × (count ≡ length (nodes_of facts))
IsRuleBroken facts (TooManyLinks count) = (MOST_LINKS < count) × (count ≡ length (links_of facts))

-- how many rules come before
abbrev pub rank : DomainRule → ℕ
rank (NoSrgb node) = 0
rank (SrgbBad node) = 1
rank (DuplicateIndex index low high) = 2
rank (IndexOutside index node) = 3
rank (AdjLabelClash label node) = 4
rank (ZeroMetric from to) = 5
rank (DuplicateLink from to) = 6
rank (TooManyNodes count) = 7
rank (TooManyLinks count) = 8

-- the rule is kept: nothing breaks it, whatever it names
abbrev pub Keeps : Facts → DomainRule → Type 0
Keeps facts (NoSrgb node) = HoldsNowhere (nodes_of facts) (LacksSrgb facts)
Keeps facts (SrgbBad node) = HoldsNowhere (nodes_of facts) (HasBadSrgb facts)
Keeps facts (DuplicateIndex index low high) = NoDuplicate (all_labels facts)
Keeps facts (IndexOutside index node) = NoOutside (all_labels facts)
Keeps facts (AdjLabelClash label node) = NoAdjClash (all_labels facts) (found_adj_labels facts)
Keeps facts (ZeroMetric from to) = NoKey (HasZeroMetric (links_of facts))
Keeps facts (DuplicateLink from to) = NoKey (IsKeyRepeated (links_of facts))
Keeps facts (TooManyNodes count) = length (nodes_of facts) ≤ MOST_NODES
Keeps facts (TooManyLinks count) = length (links_of facts) ≤ MOST_LINKS

-- the first `count` of the nine rules are kept
abbrev pub AreKept : Facts → ℕ → Type 0
AreKept facts count = (rule : DomainRule) → rank rule < count → Keeps facts rule

-- the rule is broken, and all earlier ones are kept
pub record IsFirstBrokenRule (facts : Facts) (rule : DomainRule) : Type 0 where
  pub broken : IsRuleBroken facts rule
  pub earlier : AreKept facts (rank rule)

-- why the facts give no net: the first broken rule; memory may run out at any time
abbrev pub IsDomainFault : Facts → DomainFault → Type 0
IsDomainFault facts (Rule rule) = IsFirstBrokenRule facts rule
IsDomainFault facts (Memory fault) = Unit {0}
