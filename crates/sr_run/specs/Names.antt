-- What a line names of a net, and what is told where it isn't there.
use Rattle.std.specs.Prelude.{◌≡◌, ℕ, ◌<◌, ◌⊎◌, true, Option, Some, None, is_some}
use Rattle.sr_model.specs.declared.name.LinkKey.{LinkKey}
use Rattle.sr_model.specs.declared.link.LinkNo.{LinkNo}
use Rattle.sr_model.specs.Graph.{Graph, node_count, link_count, system_at}
use Rattle.sr_model.specs.Case.{key_at}
use Rattle.sr_model.specs.Label.{Net, key_named, labels_at}
use Rattle.sr_model.specs.declared.case.Case.{Case}
use Rattle.sr_model.specs.Case.{IsAffected}
use Rattle.sr_script.specs.declared.name.EndNames.{EndNames}
use Rattle.sr_script.specs.declared.name.LinkName.{LinkName}
use Rattle.sr_script.specs.declared.name.RepairName.{RepairName}
use Rattle.sr_print.specs.declared.refusal.Refusal.{Refusal}
use Rattle.sr_print.specs.declared.refusal.Refusal.TheVariants.{NoNode, NoLink, NoDestination, NotAffected}

-- node v has this system id
abbrev pub IsNamedNode : Graph → ℕ → ℕ → Type 0
IsNamedNode graph system v = (v < node_count graph) × (system_at graph v ≡ system)

-- some node has this system id
abbrev pub NamesNode : Graph → ℕ → Type 0
NamesNode graph system = (v : ℕ) × IsNamedNode graph system v

-- the system isn't a node, which is refused; or it is, and this holds of the node
abbrev pub OfNode : (Refusal → Type 0) → Graph → ℕ → (ℕ → Type 0) → Type 0
OfNode refuses graph system holds =
    (¬ NamesNode graph system × refuses (NoNode system))
    ⊎ ((v : ℕ) × IsNamedNode graph system v × holds v)

-- the first of two systems that isn't a node is refused; or both are, and this holds of the nodes
abbrev pub OfEnds : (Refusal → Type 0) → Graph → EndNames → (ℕ → ℕ → Type 0) → Type 0
OfEnds refuses graph ends holds = OfNode refuses graph ends.from (λ from.
    OfNode refuses graph ends.to (λ to. holds from to))

-- the ends of a link's name
abbrev pub ends_named : LinkName → EndNames
ends_named name = record { from = name.from; to = name.to }

-- the refusal of a link that isn't there
abbrev pub missing_link : LinkName → Refusal
missing_link name = NoLink name.from name.to name.n

-- the key that a link's name means among the announced ones
abbrev pub key_meant : Net → LinkName → Option LinkKey
key_meant net name = key_named net.announced name.from name.to name.n

-- an end isn't a node, or the link isn't announced, and the first of these is refused; or it is announced, and this
-- holds of its key
abbrev pub OfAnnounced : (Refusal → Type 0) → Net → LinkName → (LinkKey → Type 0) → Type 0
OfAnnounced refuses net name holds = OfEnds refuses net.graph (ends_named name) (λ from to.
    ((key_meant net name ≡ None) × refuses (missing_link name))
    ⊎ ((key : LinkKey) × (key_meant net name ≡ Some key) × holds key))

-- the link of the net whose key the name means
pub record IsLinkOf (net : Net) (name : LinkName) (link : LinkNo) : Type 0 where
  pub within : link.0 < link_count net.graph
  pub named : key_meant net name ≡ Some (key_at net.graph link.0)

-- no link of the net has this name
abbrev pub NoLinkOf : Net → LinkName → Type 0
NoLinkOf net name = (link : LinkNo) → IsLinkOf net name link → ⊥

-- the net has no link of this name, which is refused; or it has, and this holds of the link
abbrev pub OfLink : (Refusal → Type 0) → Net → LinkName → (LinkNo → Type 0) → Type 0
OfLink refuses net name holds =
    (NoLinkOf net name × refuses (missing_link name))
    ⊎ ((link : LinkNo) × IsLinkOf net name link × holds link)

-- the first of the two ends that isn't a node is refused, or else the link that the net lacks; or it is there, and this
-- holds of the link
abbrev pub OfNamedLink : (Refusal → Type 0) → Net → LinkName → (LinkNo → Type 0) → Type 0
OfNamedLink refuses net name holds =
    OfEnds refuses net.graph (ends_named name) (λ from to. OfLink refuses net name holds)

-- the first of the three systems that isn't a node is refused, or else the link that the net lacks; or all are there,
-- and this holds of the case and the destination's node
abbrev pub OfFailure : (Refusal → Type 0) → Net → RepairName → (Case → ℕ → Type 0) → Type 0
OfFailure refuses net repair holds = OfEnds refuses net.graph (ends_named repair.link) (λ from to.
    OfNode refuses net.graph repair.dest (λ d.
    OfLink refuses net repair.link (λ link. holds (record { kind = repair.kind; link = link }) d)))

-- the same of a destination that has an index and that the case affects; else it is refused
abbrev pub OfAffected : (Refusal → Type 0) → Net → RepairName → (Case → ℕ → Type 0) → Type 0
OfAffected refuses net repair holds = OfFailure refuses net repair (λ case d.
    (((labels_at net d).index ≡ None) × refuses (NoDestination repair.dest))
    ⊎ (((is_some (labels_at net d).index ≡ true) × ¬ IsAffected net case d × refuses (NotAffected repair.dest))
    ⊎ (IsAffected net case d × holds case d)))
