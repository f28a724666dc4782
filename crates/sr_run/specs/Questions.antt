-- What is told to questions about a version: distances, next hops, labels, walks and loads.
use Rattle.std.specs.Prelude.{◌≡◌, ℕ, ◌⊎◌, true, List, [], ◌∷◌, Option, Some, None, is_some}
use Rattle.sr_model.specs.declared.link.LinkNo.{LinkNo}
use Rattle.sr_model.specs.declared.entry.Entry.{Entry}
use Rattle.sr_model.specs.declared.entry.Move.{Move}
use Rattle.sr_model.specs.Label.{Net, labels_at, IsLabel}
use Rattle.sr_model.specs.Walk.{Distance as IsDistanceOf, IsDistance, NoWalk, cost}
use Rattle.sr_model.specs.Forward.{RunBy, crossed}
use Rattle.sr_model.specs.Table.{IsLookup}
use Rattle.sr_spf.specs.Hops.{AreNextHops}
use Rattle.sr_fib.specs.Entries.{numbers}
use Rattle.sr_loads.specs.Loads.{LinkLoads, IsLoads}
use Rattle.sr_script.specs.declared.name.EndNames.{EndNames}
use Rattle.sr_print.specs.declared.refusal.Refusal.{Refusal}
use Rattle.sr_print.specs.declared.refusal.Refusal.TheVariants.{NoDestination}
use Rattle.sr_print.specs.Told.{Told}
use Rattle.sr_print.specs.Told.Told.{Distance, NextHops, Lookup, Walk, Loads, Refused}
use Rattle.sr_repair.specs.Version.{NumberedNet}
use Rattle.sr_run.specs.Names.{OfNode, OfEnds}

-- a refusal is told
abbrev pub IsRefused : Told → Refusal → Type 0
IsRefused told reason = told ≡ Refused reason

-- `dist`: the distance
abbrev pub TellsDistance : EndNames → NumberedNet → Told → Type 0
TellsDistance ends version told = OfEnds (IsRefused told) version.net.graph ends (λ from to.
    (cost : Option ℕ) × IsDistanceOf version.net.graph [] from to cost × (told ≡ Distance cost))

-- `next`: the next hops
abbrev pub TellsNextHops : EndNames → NumberedNet → Told → Type 0
TellsNextHops ends version told = OfEnds (IsRefused told) version.net.graph ends (λ from to.
    (hops : List LinkNo) × AreNextHops version.net.graph from to hops × (told ≡ NextHops version.net hops))

-- `label`: what a label does at a node
abbrev pub TellsLookup : ℕ → ℕ → NumberedNet → Told → Type 0
TellsLookup system label version told = OfNode (IsRefused told) version.net.graph system (λ node.
    (found : Option Entry) × IsLookup version.net node label found × (told ≡ Lookup version.net found))

-- a packet that starts at the first node under the second's label crosses these links by the choice number, no link
-- being closed, and reaches the second with an empty stack, at the cost of the distance
pub record IsForwarded (net : Net) (first second choice : ℕ) (links : List LinkNo) : Type 0 where
  pub label : ℕ
  pub is_label : IsLabel net first second label
  pub moves : List Move
  pub run : RunBy net [] choice first (label ∷ []) moves second []
  pub crosses : crossed moves ≡ numbers links
  pub costs : IsDistance net.graph [] first second (cost net.graph (numbers links))

-- the links of the packet between two nodes, or that there is no walk between them
abbrev pub TellsWalkOf : Net → ℕ → ℕ → ℕ → Told → Type 0
TellsWalkOf net from to choice told =
    (NoWalk net.graph [] from to × (told ≡ Walk net from None))
    ⊎ ((links : List LinkNo) × IsForwarded net from to choice links × (told ≡ Walk net from (Some links)))

-- the same to a node of this system id that has an index; else that is refused
abbrev pub TellsWalkTo : Net → ℕ → ℕ → ℕ → ℕ → Told → Type 0
TellsWalkTo net system from to choice told =
    (((labels_at net to).index ≡ None) × IsRefused told (NoDestination system))
    ⊎ ((is_some (labels_at net to).index ≡ true) × TellsWalkOf net from to choice told)

-- `walk` from one node to another
abbrev pub TellsWalk : EndNames → ℕ → NumberedNet → Told → Type 0
TellsWalk ends choice version told = OfEnds (IsRefused told) version.net.graph ends (λ from to.
    TellsWalkTo version.net ends.to from to choice told)

-- `load`: how often each link is crossed by that many packets from each node to each other
abbrev pub TellsLoads : ℕ → NumberedNet → Told → Type 0
TellsLoads each version told =
    (loads : LinkLoads) × IsLoads version.net each loads × (told ≡ Loads version.net loads)
