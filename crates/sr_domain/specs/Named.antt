-- Rules on labels with the system ids of nodes in place of their places, and the rules that a graph refuses.
use Rattle.std.specs.Prelude.{◌≡◌, ℕ, ◌<◌, List, Some, slice_get}
use Rattle.sr_model.specs.declared.label.LabelRule.{LabelRule}
use Rattle.sr_model.specs.declared.label.LabelRule.TheVariants.{DuplicateIndex as ByPlaces, IndexOutside as AtPlace, AdjLabelClash as ClashAtPlace}
use Rattle.sr_model.specs.declared.rule.DomainRule.{DomainRule}
use Rattle.sr_model.specs.declared.rule.DomainRule.TheVariants.{DuplicateIndex, IndexOutside, AdjLabelClash, ZeroMetric, DuplicateLink, TooManyNodes, TooManyLinks}
use Rattle.sr_graph.specs.declared.fault.GraphFault.{GraphFault}
use Rattle.sr_graph.specs.declared.fault.GraphFault.TheVariants.{ZeroMetric as Zero, DuplicateLink as Duplicate, TooManyNodes as ManyNodes, TooManyLinks as ManyLinks, Memory as NoMemory}
use Rattle.sr_domain.specs.declared.fault.DomainFault.{DomainFault}
use Rattle.sr_domain.specs.declared.fault.DomainFault.TheVariants.{Rule, Memory}

-- the places are below the number of nodes
abbrev pub ArePlacesWithin : ℕ → LabelRule → Type 0
ArePlacesWithin count (ByPlaces index low high) = (low < count) × (high < count)
ArePlacesWithin count (AtPlace index node) = node < count
ArePlacesWithin count (ClashAtPlace label node) = node < count

-- the rule is the same, with the nodes at these places
abbrev pub Names : List ℕ → LabelRule → DomainRule → Type 0
Names nodes (ByPlaces index low high) rule =
    (a : ℕ) × (b : ℕ) × (rule ≡ DuplicateIndex index a b) × (slice_get nodes low ≡ Some a)
    × (slice_get nodes high ≡ Some b)
Names nodes (AtPlace index node) rule = (a : ℕ) × (rule ≡ IndexOutside index a) × (slice_get nodes node ≡ Some a)
Names nodes (ClashAtPlace label node) rule =
    (a : ℕ) × (rule ≡ AdjLabelClash label a) × (slice_get nodes node ≡ Some a)

-- why a graph is refused, as a rule of the profile
abbrev pub domain_fault : GraphFault → DomainFault
domain_fault (Zero from to) = Rule (ZeroMetric from to)
domain_fault (Duplicate from to) = Rule (DuplicateLink from to)
domain_fault (ManyNodes count) = Rule (TooManyNodes count)
domain_fault (ManyLinks count) = Rule (TooManyLinks count)
domain_fault (NoMemory fault) = Memory fault
