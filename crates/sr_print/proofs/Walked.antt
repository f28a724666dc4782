-- Walks, node by node and link by link.
use Rattle.std.proofs.Common.{◌≡◌, ℕ, List, [], ◌∷◌, ◌++◌, refl, ap}
use Rattle.std.specs.List.{flat_map}
use Rattle.sr_model.specs.declared.link.LinkNo.{LinkNo}
use Rattle.sr_model.specs.Graph.{Graph, head, system_at}
use Rattle.sr_model.specs.Walk.{stops}
use Rattle.sr_fib.specs.Entries.{numbers}
use Rattle.sr_print.specs.Forwarding.{nodes_text}
use Rattle.sr_print.specs.Printed.{node_word}

-- the name of the end of a link
abbrev pub end_word : Graph → LinkNo → List ℕ
end_word g link = node_word (system_at g (head g link.0))

-- the ends of links, one by one
pub ends-each : (g : Graph) (links : List LinkNo) → flat_map (λ v. node_word (system_at g v)) (stops g (numbers links)) ≡ flat_map (end_word g) links
ends-each g [] = refl
ends-each g (l ∷ ls) = ap (λ t. end_word g l ++ t) (ends-each g ls)

pub nodes-each : (g : Graph) (start : ℕ) (links : List LinkNo) → nodes_text g start links ≡ node_word (system_at g start) ++ flat_map (end_word g) links
nodes-each g start links = ap (λ t. node_word (system_at g start) ++ t) (ends-each g links)
